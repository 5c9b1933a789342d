-- Lists put in order by a key.
use Rattle.std.proofs.Common.{◌≡◌, ℕ, suc, ◌<◌, ◌≤◌, Bool, true, false, cond, leb, ◌≢◌, ◌⊎◌, List, [], ◌∷◌, length, sym, refl, ap, ◌∙◌, inl, inr, ⊎_elim, arith}
use Rattle.std.specs.List.{AllByRecursion, filter}
use Rattle.std.proofs.lemmas.Bool.{cases_Bool, cases_lt, leb-true, leb-false, le-leb, lt-leb}
use Rattle.timer_rows.specs.Walks.{put_by, sort_by}

cases_le : (m n : ℕ) → (m ≤ n) ⊎ (n < m)
cases_le m n = ⊎_elim (λ (l : n < m). inr l) (λ (l : m ≤ n). inl l) (cases_lt n m)

module _ {X : Type 0} (key : X → ℕ) where
  -- the key rises along a list
  abbrev pub RisesBy : List X → Type 0
  RisesBy [] = Unit {0}
  RisesBy (x ∷ xs) = AllByRecursion (λ y. key x < key y) xs × RisesBy xs

  -- what holds of all of a list holds of all of it in order
  all_put : (Q : X → Type 0) (x : X) (ys : List X) → Q x → AllByRecursion Q ys → AllByRecursion Q (put_by key x ys)
  all_put Q x [] q a = (q, tt)
  all_put Q x (y ∷ ys) q a =
      elim (leb (key x) (key y)) as (λ v. AllByRecursion Q (cond v (x ∷ y ∷ ys) (y ∷ put_by key x ys))) [
        | true ↦ (q, a)
        | false ↦ (a.0, all_put Q x ys q a.1)
      ]

  pub all_sorted : (Q : X → Type 0) (xs : List X) → AllByRecursion Q xs → AllByRecursion Q (sort_by key xs)
  all_sorted Q [] a = tt
  all_sorted Q (x ∷ xs) a = all_put Q x (sort_by key xs) a.0 (all_sorted Q xs a.1)

  length_put : (x : X) (ys : List X) → length (put_by key x ys) ≡ suc (length ys)
  length_put x [] = refl
  length_put x (y ∷ ys) =
      elim (leb (key x) (key y)) as (λ v. length (cond v (x ∷ y ∷ ys) (y ∷ put_by key x ys)) ≡ suc (suc (length ys))) [
        | true ↦ refl
        | false ↦ ap suc (length_put x ys)
      ]

  pub length_sorted : (xs : List X) → length (sort_by key xs) ≡ length xs
  length_sorted [] = refl
  length_sorted (x ∷ xs) = length_put x (sort_by key xs) ∙ ap suc (length_sorted xs)

  -- in a list in which no two elements have one key
  under_all : (a b : ℕ) (xs : List X) → a < b → AllByRecursion (λ y. b < key y) xs → AllByRecursion (λ y. a < key y) xs
  under_all a b [] l h = tt
  under_all a b (x ∷ xs) l h = (omega (arith, h.0), under_all a b xs l h.1)

  rises_put : (x : X) (ys : List X) → AllByRecursion (λ y. key x ≢ key y) ys → RisesBy ys → RisesBy (put_by key x ys)
  rises_put x [] n r = (tt, tt)
  rises_put x (y ∷ ys) n r =
      ⊎_elim
      (λ (h : leb (key x) (key y) ≡ true).
      let l : key x < key y = let a = leb-true (key x) (key y) h in let b = n.0 in omega arith in
      rw h ((l, under_all (key x) (key y) ys l r.0), r))
      (λ (h : leb (key x) (key y) ≡ false).
      let l : key y < key x = leb-false (key x) (key y) h in
      rw h (all_put (λ z. key y < key z) x ys l r.0, rises_put x ys n.1 r.1))
      (cases_Bool (leb (key x) (key y)))

  abbrev pub Unlike : List X → Type 0
  Unlike [] = Unit {0}
  Unlike (x ∷ xs) = AllByRecursion (λ y. key x ≢ key y) xs × Unlike xs

  pub rises_sorted : (xs : List X) → Unlike xs → RisesBy (sort_by key xs)
  rises_sorted [] u = tt
  rises_sorted (x ∷ xs) u =
      rises_put x (sort_by key xs) (all_sorted (λ y. key x ≢ key y) xs u.0) (rises_sorted xs u.1)

  -- a list along which the key rises is in order
  put_first : (x : X) (ys : List X) → AllByRecursion (λ y. key x < key y) ys → put_by key x ys ≡ x ∷ ys
  put_first x [] a = refl
  put_first x (y ∷ ys) a = rw (le-leb (key x) (key y) (omega (arith, a.0)))

  pub sorted_same : (xs : List X) → RisesBy xs → sort_by key xs ≡ xs
  sorted_same [] r = refl
  sorted_same (x ∷ xs) r = ap (put_by key x) (sorted_same xs r.1) ∙ put_first x xs r.0

  -- two elements may be put in either order
  put_both : (x y : X) (zs : List X) → key x < key y → put_by key x (put_by key y zs) ≡ put_by key y (put_by key x zs)
  put_both x y [] l =
      let a : leb (key x) (key y) ≡ true = le-leb (key x) (key y) (omega arith) in
      let b : leb (key y) (key x) ≡ false = lt-leb (key y) (key x) l in
      rw (a, b)
  put_both x y (z ∷ zs) l =
      let a : leb (key x) (key y) ≡ true = le-leb (key x) (key y) (omega arith) in
      let b : leb (key y) (key x) ≡ false = lt-leb (key y) (key x) l in
      ⊎_elim
      (λ (g : key y ≤ key z).
      let c : leb (key y) (key z) ≡ true = le-leb (key y) (key z) g in
      let d : leb (key x) (key z) ≡ true = le-leb (key x) (key z) (omega arith) in
      rw (c, d, a, b, c))
      (λ (g : key z < key y).
      let c : leb (key y) (key z) ≡ false = lt-leb (key y) (key z) g in
      rw c
      (⊎_elim
      (λ (h : key x ≤ key z). let d : leb (key x) (key z) ≡ true = le-leb (key x) (key z) h in rw (d, b, c))
      (λ (h : key z < key x). let d : leb (key x) (key z) ≡ false = lt-leb (key x) (key z) h in rw (d, c) (ap (λ l. z ∷ l) (put_both x y zs l)))
      (cases_le (key x) (key z))))
      (cases_le (key y) (key z))

  pub put_swap : (x y : X) (zs : List X) → key x ≢ key y → put_by key x (put_by key y zs) ≡ put_by key y (put_by key x zs)
  put_swap x y zs n =
      ⊎_elim
      (λ (l : key x < key y). put_both x y zs l)
      (λ (l : key y ≤ key x). sym (put_both y x zs (omega arith)))
      (cases_lt (key x) (key y))

module _ {X : Type 0} (p : X → Bool) where
  -- what holds of all of a list holds of those that pass a test
  pub all_filter : (Q : X → Type 0) (xs : List X) → AllByRecursion Q xs → AllByRecursion Q (filter p xs)
  all_filter Q [] a = tt
  all_filter Q (x ∷ xs) a =
      let r = all_filter Q xs a.1 in
      ⊎_elim (λ (e : p x ≡ true). rw e (a.0, r)) (λ (e : p x ≡ false). rw e r) (cases_Bool (p x))

  pub rises_filter : (key : X → ℕ) (xs : List X) → RisesBy key xs → RisesBy key (filter p xs)
  rises_filter key [] r = tt
  rises_filter key (x ∷ xs) r =
      let q = rises_filter key xs r.1 in
      ⊎_elim
      (λ (e : p x ≡ true). rw e (all_filter (λ y. key x < key y) xs r.0, q))
      (λ (e : p x ≡ false). rw e q)
      (cases_Bool (p x))

  pub length_filtered : (xs : List X) → length (filter p xs) ≤ length xs
  length_filtered [] = omega arith
  length_filtered (x ∷ xs) =
      let q = length_filtered xs in
      ⊎_elim (λ (e : p x ≡ true). rw e (omega arith)) (λ (e : p x ≡ false). rw e (omega arith)) (cases_Bool (p x))
