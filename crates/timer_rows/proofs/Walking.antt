-- A walk along a slot meets its rows, by their keys, and a walk back meets them in the opposite order.
use Rattle.std.proofs.Common.{◌≡◌, ℕ, zero, suc, ◌+◌, ◌-◌, ◌<◌, ◌≤◌, Bool, true, false, cond, eqb, leb, ◌≢◌, ◌⊎◌, List, [], ◌∷◌, ◌++◌, length, reverse, get_or, sym, refl, ap, ◌∙◌, subst, inl, inr, ⊎_elim, arith}
use Rattle.std.specs.List.{AllByRecursion, filter, range_with_len}
use Rattle.std.proofs.lemmas.List.{length-reverse, reverse-append}
use Rattle.std.proofs.lemmas.List.FromFn.{length-range_with_len}
use Rattle.std.proofs.lemmas.Bool.{false≢true, cases_Bool, cases_eq, cases_lt, eq-eqb, eqb-true, lt-ltb, le-ltb}
use Rattle.timer_rows.specs.Links.{Linked}
use Rattle.timer_rows.specs.Walks.{walk, put_by, sort_by, Examples}
use Rattle.timer_rows.proofs.Sorts.{RisesBy, Unlike, length_filtered, length_sorted, rises_filter, rises_sorted}

pub examples : Examples
unfolding walk
examples = (refl, refl, refl, refl, refl)

-- x is one of the list
abbrev pub Has : ℕ → List ℕ → Type 0
Has x [] = ⊥
Has x (y ∷ ys) = (x ≡ y) ⊎ Has x ys

-- the links lead from a through xs to b
abbrev pub Path : List ℕ → ℕ → List ℕ → ℕ → Type 0
Path ns a [] b = get_or ns a 0 ≡ b
Path ns a (x ∷ xs) b = (get_or ns a 0 ≡ x) × Path ns x xs b

module _ (ns : List ℕ) where
  path_push : (a : ℕ) (xs : List ℕ) (x b : ℕ) → Path ns a xs x → get_or ns x 0 ≡ b → Path ns a (xs ++ x ∷ []) b
  path_push a [] x b p e = (p, e)
  path_push a (y ∷ ys) x b p e = (p.0, path_push y ys x b p.1 e)

  -- what comes next after a node of the path is the next one, or its end
  path_next : (a : ℕ) (xs : List ℕ) (b x : ℕ) → Path ns a xs b → Has x xs → Has (get_or ns x 0) xs ⊎ (get_or ns x 0 ≡ b)
  path_next a [] b x p h = absurd h
  path_next a (y ∷ []) b x p (inl e) = inr (ap (λ i. get_or ns i 0) e ∙ p.1)
  path_next a (y ∷ (z ∷ zs)) b x p (inl e) = inl (inr (inl (ap (λ i. get_or ns i 0) e ∙ p.1.0)))
  path_next a (y ∷ ys) b x p (inr h) =
      ⊎_elim
      (λ (r : Has (get_or ns x 0) ys). inl (inr r))
      (λ (r : get_or ns x 0 ≡ b). inr r)
      (path_next y ys b x p.1 h)

  -- and after its beginning the first one
  path_first : (a : ℕ) (xs : List ℕ) (b x : ℕ) → Path ns a xs b → get_or ns a 0 ≡ x → x ≢ b → Has x xs
  path_first a [] b x p e n = absurd (n (sym e ∙ p))
  path_first a (y ∷ ys) b x p e n = inl (sym e ∙ p.0)

  -- a walk along a path of rows
  walk_path : (n k a : ℕ) (xs : List ℕ) (b : ℕ) → Path ns a xs b → AllByRecursion (λ x. x < n) xs → n ≤ b → length xs ≤ k → walk k ns n (get_or ns a 0) ≡ xs
  unfolding walk
  walk_path n zero a [] b p r l m = refl
  walk_path n (suc k) a [] b p r l m = rw (p, le-ltb b n l)
  walk_path n zero a (x ∷ xs) b p r l m = absurd (omega arith)
  walk_path n (suc k) a (x ∷ xs) b p r l m =
      rw (p.0, lt-ltb x n r.0) (ap (λ ys. x ∷ ys) (walk_path n k x xs b p.1 r.1 l (omega arith)))

-- a path that other links lead back
path_back : (ns ps : List ℕ) (a : ℕ) (xs : List ℕ) (b : ℕ) → Path ns a xs b → get_or ps (get_or ns a 0) 0 ≡ a → AllByRecursion (λ x. get_or ps (get_or ns x 0) 0 ≡ x) xs → Path ps b (reverse xs) a
path_back ns ps a [] b p h t = ap (λ i. get_or ps i 0) (sym p) ∙ h
path_back ns ps a (x ∷ xs) b p h t =
    subst (λ l. Path ps b l a) (sym (reverse-append (x ∷ []) xs))
    (path_push ps b (reverse xs) x a (path_back ns ps x xs b p.1 t.0 t.1) (ap (λ i. get_or ps i 0) (sym p.0) ∙ h))

-- what holds of each element
all_push : (Q : ℕ → Type 0) (xs : List ℕ) (x : ℕ) → AllByRecursion Q xs → Q x → AllByRecursion Q (xs ++ x ∷ [])
all_push Q [] x a q = (q, tt)
all_push Q (y ∷ ys) x a q = (a.0, all_push Q ys x a.1 q)

all_by : (Q R : ℕ → Type 0) (xs : List ℕ) → ((x : ℕ) → Q x → R x) → AllByRecursion Q xs → AllByRecursion R xs
all_by Q R [] f a = tt
all_by Q R (x ∷ xs) f a = (f x a.0, all_by Q R xs f a.1)

all_has : (Q : ℕ → Type 0) (xs : List ℕ) (x : ℕ) → AllByRecursion Q xs → Has x xs → Q x
all_has Q [] x a h = absurd h
all_has Q (y ∷ ys) x a (inl e) = subst Q (sym e) a.0
all_has Q (y ∷ ys) x a (inr h) = all_has Q ys x a.1 h

has_all : (Q : ℕ → Type 0) (xs : List ℕ) → ((x : ℕ) → Has x xs → Q x) → AllByRecursion Q xs
has_all Q [] f = tt
has_all Q (x ∷ xs) f = (f x (inl refl), has_all Q xs (λ y h. f y (inr h)))

all_reverse : (Q : ℕ → Type 0) (xs : List ℕ) → AllByRecursion Q xs → AllByRecursion Q (reverse xs)
all_reverse Q [] a = tt
all_reverse Q (x ∷ xs) a =
    subst (AllByRecursion Q) (sym (reverse-append (x ∷ []) xs)) (all_push Q (reverse xs) x (all_reverse Q xs a.1) a.0)

-- lists along which a key rises
module _ (key : ℕ → ℕ) where
  rises_push : (xs : List ℕ) (x : ℕ) → RisesBy key xs → AllByRecursion (λ y. key y < key x) xs → RisesBy key (xs ++ x ∷ [])
  rises_push [] x r a = (tt, tt)
  rises_push (y ∷ ys) x r a = (all_push (λ z. key y < key z) ys x r.0 a.0, rises_push ys x r.1 a.1)

  -- two elements with one key are one
  rises_apart : (xs : List ℕ) (x y : ℕ) → RisesBy key xs → Has x xs → Has y xs → key x ≡ key y → x ≡ y
  rises_apart [] x y r h g e = absurd h
  rises_apart (z ∷ zs) x y r (inl h) (inl g) e = h ∙ sym g
  rises_apart (z ∷ zs) x y r (inl h) (inr g) e =
      let l = all_has (λ w. key z < key w) zs y r.0 g in
      absurd (omega (arith, l, ap key h))
  rises_apart (z ∷ zs) x y r (inr h) (inl g) e =
      let l = all_has (λ w. key z < key w) zs x r.0 h in
      absurd (omega (arith, l, ap key g))
  rises_apart (z ∷ zs) x y r (inr h) (inr g) e = rises_apart zs x y r.1 h g e

  -- the members after the first
  has_rest : (x : ℕ) (xs ys : List ℕ) → AllByRecursion (λ y. key x < key y) xs → ((y : ℕ) → Has y (x ∷ xs) → Has y (x ∷ ys)) → (y : ℕ) → Has y xs → Has y ys
  has_rest x xs ys a f y h =
      let l = all_has (λ z. key x < key z) xs y a h in
      ⊎_elim
      (λ (e : y ≡ x). absurd (omega (arith, ap key e)))
      (λ (g : Has y ys). g)
      (f y (inr h))

  -- two such lists with the same members are equal
  rises_unique : (xs ys : List ℕ) → RisesBy key xs → RisesBy key ys → ((x : ℕ) → Has x xs → Has x ys) → ((x : ℕ) → Has x ys → Has x xs) → xs ≡ ys
  rises_unique [] [] r q f g = refl
  rises_unique [] (y ∷ ys) r q f g = absurd (g y (inl refl))
  rises_unique (x ∷ xs) [] r q f g = absurd (f x (inl refl))
  rises_unique (x ∷ xs) (y ∷ ys) r q f g =
      let e : x ≡ y = first_same (f x (inl refl)) (g y (inl refl)) in
      let f' = subst (λ z. (v : ℕ) → Has v (x ∷ xs) → Has v (z ∷ ys)) (sym e) f in
      let g' = subst (λ z. (v : ℕ) → Has v (z ∷ ys) → Has v (x ∷ xs)) (sym e) g in
      let q' = subst (λ z. AllByRecursion (λ v. key z < key v) ys) (sym e) q.0 in
      ap (λ z. z ∷ xs) e ∙ ap (λ l. y ∷ l) (rises_unique xs ys r.1 q.1 (has_rest x xs ys r.0 f') (has_rest x ys xs q' g'))
    where
      first_same : Has x (y ∷ ys) → Has y (x ∷ xs) → x ≡ y
      first_same (inl e) h = e
      first_same (inr h) (inl e) = sym e
      first_same (inr h) (inr h') =
          let a = all_has (λ v. key y < key v) ys x q.0 h in
          let b = all_has (λ v. key x < key v) xs y r.0 h' in
          absurd (omega arith)

  -- the members of a list in order
  put_has : (x y : ℕ) (ys : List ℕ) → (Has x (put_by key y ys) → Has x (y ∷ ys)) × (Has x (y ∷ ys) → Has x (put_by key y ys))
  put_has x y [] = (λ h. h, λ h. h)
  put_has x y (z ∷ zs) =
      let r = put_has x y zs in
      elim (leb (key y) (key z)) as (λ v. (Has x (cond v (y ∷ z ∷ zs) (z ∷ put_by key y zs)) → Has x (y ∷ z ∷ zs)) × (Has x (y ∷ z ∷ zs) → Has x (cond v (y ∷ z ∷ zs) (z ∷ put_by key y zs)))) [
        | true ↦ (λ h. h, λ h. h)
        | false ↦ (
          λ h. ⊎_elim (λ (e : x ≡ z). inr (inl e)) (λ (g : Has x (put_by key y zs)). ⊎_elim (λ (e : x ≡ y). inl e) (λ (i : Has x zs). inr (inr i)) (r.0 g)) h,
          λ h. ⊎_elim (λ (e : x ≡ y). inr (r.1 (inl e))) (λ (g : Has x (z ∷ zs)). ⊎_elim (λ (e : x ≡ z). inl e) (λ (i : Has x zs). inr (r.1 (inr i))) g) h,
        )
      ]

  sorted_has : (x : ℕ) (xs : List ℕ) → (Has x (sort_by key xs) → Has x xs) × (Has x xs → Has x (sort_by key xs))
  sorted_has x [] = (λ h. h, λ h. h)
  sorted_has x (y ∷ ys) =
      let p = put_has x y (sort_by key ys) in
      let r = sorted_has x ys in (
        λ h. ⊎_elim (λ (e : x ≡ y). inl e) (λ (g : Has x (sort_by key ys)). inr (r.0 g)) (p.0 h),
        λ h. p.1 (⊎_elim (λ (e : x ≡ y). inl e) (λ (g : Has x ys). inr (r.1 g)) h),
      )

-- along a path on which a key rises, the first node has the lowest key, and what comes next the lowest of the higher ones
module _ (ns : List ℕ) (key : ℕ → ℕ) where
  path_least : (a : ℕ) (xs : List ℕ) (b i : ℕ) → Path ns a xs b → RisesBy key xs → Has i xs → Has (get_or ns a 0) xs × (key (get_or ns a 0) ≤ key i)
  path_least a [] b i p r h = absurd h
  path_least a (x ∷ xs) b i p r h = (inl p.0, subst (λ y. key y ≤ key i) (sym p.0) (least h))
    where
      least : Has i (x ∷ xs) → key x ≤ key i
      least (inl e) = omega (arith, ap key e)
      least (inr g) = let l = all_has (λ y. key x < key y) xs i r.0 g in omega arith

  path_after : (a : ℕ) (xs : List ℕ) (b x i : ℕ) → Path ns a xs b → RisesBy key xs → Has x xs → Has i xs → key x < key i → Has (get_or ns x 0) xs × (key (get_or ns x 0) ≤ key i)
  path_after a [] b x i p r h g l = absurd h
  path_after a (y ∷ ys) b x i p r h (inl e) l = absurd (after h)
    where
      after : Has x (y ∷ ys) → ⊥
      after (inl d) = omega (arith, ap key d, ap key e)
      after (inr j) = let k = all_has (λ z. key y < key z) ys x r.0 j in omega (arith, ap key e)
  path_after a (y ∷ ys) b x i p r (inl d) (inr g) l =
      let q = path_least y ys b i p.1 r.1 g in
      subst (λ z. Has (get_or ns z 0) (y ∷ ys) × (key (get_or ns z 0) ≤ key i)) (sym d) (inr q.0, q.1)
  path_after a (y ∷ ys) b x i p r (inr h) (inr g) l =
      let q = path_after y ys b x i p.1 r.1 h g l in
      (inr q.0, q.1)

-- the members of a filtered list, and of the numbers from a on
filter_has : (p : ℕ → Bool) (x : ℕ) (xs : List ℕ) → (Has x (filter p xs) → Has x xs × (p x ≡ true)) × (Has x xs → p x ≡ true → Has x (filter p xs))
filter_has p x [] = (λ h. absurd h, λ h e. h)
filter_has p x (y ∷ ys) =
    let r = filter_has p x ys in
    ⊎_elim
    (λ (q : p y ≡ true).
    rw q (
      λ h. ⊎_elim (λ (e : x ≡ y). (inl e, ap p e ∙ q)) (λ (g : Has x (filter p ys)). let a = r.0 g in (inr a.0, a.1)) h,
      λ h e. ⊎_elim (λ (d : x ≡ y). inl d) (λ (g : Has x ys). inr (r.1 g e)) h,
    ))
    (λ (q : p y ≡ false).
    rw q (
      λ h. let a = r.0 h in (inr a.0, a.1),
      λ h e. ⊎_elim (λ (d : x ≡ y). absurd (false≢true (sym q ∙ ap p (sym d) ∙ e))) (λ (g : Has x ys). r.1 g e) h,
    ))
    (cases_Bool (p y))

range_has : (a n x : ℕ) → (Has x (range_with_len a n) → (a ≤ x) × (x < a + n)) × (a ≤ x → x < a + n → Has x (range_with_len a n))
range_has a zero x = (λ h. absurd h, λ l m. absurd (omega arith))
range_has a (suc n) x =
    let r = range_has (a + 1) n x in (
      λ h. ⊎_elim (λ (e : x ≡ a). (omega arith, omega arith)) (λ (g : Has x (range_with_len (a + 1) n)). let b = r.0 g in (omega arith, omega arith)) h,
      λ l m. ⊎_elim (λ (e : x ≡ a). inl e) (λ (ne : x ≢ a). inr (r.1 (omega arith) (omega arith))) (cases_eq x a),
    )

-- the numbers from a on rise
range_rises : (a n : ℕ) → RisesBy (λ x. x) (range_with_len a n)
range_rises a zero = tt
range_rises a (suc n) = (has_all (λ y. a < y) (range_with_len (a + 1) n) (λ y h. let b = (range_has (a + 1) n y).0 h in omega arith), range_rises (a + 1) n)

unlike_by : (key : ℕ → ℕ) (xs : List ℕ) → RisesBy (λ x. x) xs → ((x y : ℕ) → Has x xs → Has y xs → key x ≡ key y → x ≡ y) → Unlike key xs
unlike_by key [] r f = tt
unlike_by key (x ∷ xs) r f = (
  has_all (λ y. key x ≢ key y) xs (λ y h e. let l = all_has (λ z. x < z) xs y r.0 h in omega (arith, f x y (inl refl) (inr h) e)),
  unlike_by key xs r.1 (λ y z h g. f y z (inr h) (inr g)),
)

module _ (ns ps hs ks : List ℕ) (n m : ℕ) (k : Linked ns ps hs ks n m) (s : ℕ) (sm : s < m) where
  abbrev key : ℕ → ℕ
  key i = get_or ks i 0

  -- the row i is in the slot
  abbrev pub IsIn : ℕ → Type 0
  IsIn i = (i < n) × (get_or hs i m ≡ s)

  -- rows that the links lead along from the slot's sentinel to a node
  record Way (to : ℕ) : Type 0 where
    rows : List ℕ
    path : Path ns (n + s) rows to
    each : AllByRecursion IsIn rows
    rise : RisesBy key rows

  -- a node of the slot is a row, or the sentinel
  back_from : (y : ℕ) → get_or hs y m ≡ s → IsIn (get_or ps y 0) ⊎ (get_or ps y 0 ≡ n + s)
  back_from y h =
      let b = k.back y (omega (arith, h)) in
      let e = b.1 ∙ h in
      ⊎_elim
      (λ (l : get_or ps y 0 < n). inl (l, e))
      (λ (l : n ≤ get_or ps y 0).
      let d : n + (get_or ps y 0 - n) ≡ get_or ps y 0 = omega arith in
      let t : get_or ps y 0 - n ≡ s = sym (k.sentinels (get_or ps y 0 - n) (omega (arith, b.0))) ∙ ap (λ i. get_or hs i m) d ∙ e in
      inr (omega (arith, t)))
      (cases_lt (get_or ps y 0) n)

  -- of two rows that follow one another the second has the higher key
  up_to : (y : ℕ) → y < n → get_or hs y m ≡ s → IsIn (get_or ps y 0) → key (get_or ps y 0) < key y
  up_to y l h i =
      let b = k.back y (omega (arith, h)) in
      let u = k.up (get_or ps y 0) i.0 (omega (arith, i.1)) (omega (arith, b.2)) in
      omega (arith, u, ap (λ j. get_or ks j 0) b.2)

  -- the way to a node, found from there back
  record Reached (y : ℕ) : Type 0 where
    way : Way y
    below : y < n → AllByRecursion (λ x. key x < key y) way.rows

  reach_from : (y : ℕ) → get_or hs y m ≡ s → (IsIn (get_or ps y 0) → Reached (get_or ps y 0)) → Reached y
  reach_from y h r =
      let b = k.back y (omega (arith, h)) in
      ⊎_elim
      (λ (i : IsIn (get_or ps y 0)).
      let z = get_or ps y 0 in
      let a = r i in
      let xs = a.way.rows in
      record {
        way = record {
          rows = a.way.rows ++ z ∷ [];
          path = path_push ns (n + s) xs z y a.way.path b.2;
          each = all_push IsIn xs z a.way.each i;
          rise = rises_push key xs z a.way.rise (a.below i.0);
        };
        below = λ l.
            let u = up_to y l h i in
            all_push (λ x. key x < key y) xs z (all_by (λ x. key x < key (get_or ps y 0)) (λ x. key x < key y) xs (λ x c. omega arith) (a.below i.0)) u;
      })
      (λ (e : get_or ps y 0 ≡ n + s).
      record {
        way = record { rows = []; path = ap (λ j. get_or ns j 0) (sym e) ∙ b.2; each = tt; rise = tt };
        below = λ l. tt;
      })
      (back_from y h)

  reach_by : (fuel y : ℕ) → y < n → get_or hs y m ≡ s → key y < fuel → Reached y
  reach_by zero y l h f = absurd (omega arith)
  reach_by (suc fuel) y l h f =
      reach_from y h (λ i. reach_by fuel (get_or ps y 0) i.0 i.1 (let u = up_to y l h i in omega arith))

  -- the whole slot, from its sentinel to its sentinel
  whole : Way (n + s)
  whole =
      (reach_from (n + s) (k.sentinels s sm) (λ i. reach_by (suc (key (get_or ps (n + s) 0))) (get_or ps (n + s) 0) i.0 i.1 (omega arith))).way

  -- no row of the slot is left out
  whole_by : (fuel i : ℕ) → key i < fuel → IsIn i → Has i whole.rows
  whole_by zero i f h = absurd (omega arith)
  whole_by (suc fuel) i f h =
      let b = k.back i (omega (arith, h.1)) in
      ⊎_elim
      (λ (j : IsIn (get_or ps i 0)).
      let u = up_to i h.0 h.1 j in
      ⊎_elim
      (λ (g : Has (get_or ns (get_or ps i 0) 0) whole.rows). subst (λ x. Has x whole.rows) b.2 g)
      (λ (e : get_or ns (get_or ps i 0) 0 ≡ n + s). absurd (let a = h.0 in omega (arith, e, b.2)))
      (path_next ns (n + s) whole.rows (n + s) (get_or ps i 0) whole.path (whole_by fuel (get_or ps i 0) (omega arith) j)))
      (λ (e : get_or ps i 0 ≡ n + s). path_first ns (n + s) whole.rows (n + s) i whole.path (ap (λ j. get_or ns j 0) (sym e) ∙ b.2) (λ q. let a = h.0 in omega arith))
      (back_from i h.1)

  whole_has : (i : ℕ) → (Has i whole.rows → IsIn i) × (IsIn i → Has i whole.rows)
  whole_has i = (λ h. all_has IsIn whole.rows i whole.each h, λ h. whole_by (suc (key i)) i (omega arith) h)

  -- the rows of the slot by their keys, of which no two have one key
  abbrev pub found : List ℕ
  found = filter (λ i. eqb (get_or hs i m) s) (range_with_len 0 n)

  abbrev pub in_slot : List ℕ
  in_slot = sort_by key found

  found_has : (i : ℕ) → (Has i found → IsIn i) × (IsIn i → Has i found)
  found_has i =
      let f = filter_has (λ i. eqb (get_or hs i m) s) i (range_with_len 0 n) in
      let r = range_has 0 n i in (
        λ h. let a = f.0 h in (let b = r.0 a.0 in omega arith, eqb-true (get_or hs i m) s a.1),
        λ h. f.1 (r.1 (omega arith) (let l = h.0 in omega arith)) (eq-eqb (get_or hs i m) s h.1),
      )

  pub slot_apart : (i j : ℕ) → IsIn i → IsIn j → key i ≡ key j → i ≡ j
  slot_apart i j h g e = rises_apart key whole.rows i j whole.rise ((whole_has i).1 h) ((whole_has j).1 g) e

  pub in_slot_rises : RisesBy key in_slot
  in_slot_rises =
      rises_sorted key found (unlike_by key found (rises_filter (λ i. eqb (get_or hs i m) s) (λ x. x) (range_with_len 0 n) (range_rises 0 n)) (λ i j h g e. slot_apart i j ((found_has i).0 h) ((found_has j).0 g) e))

  whole_is : whole.rows ≡ in_slot
  whole_is =
      rises_unique key whole.rows in_slot whole.rise in_slot_rises
      (λ i h. (sorted_has key i found).1 ((found_has i).1 ((whole_has i).0 h)))
      (λ i h. (whole_has i).1 ((found_has i).0 ((sorted_has key i found).0 h)))

  in_slot_length : length in_slot ≤ n
  in_slot_length =
      let a = length_filtered (λ i. eqb (get_or hs i m) s) (range_with_len 0 n) in
      omega (arith, length_sorted key found, length-range_with_len 0 n)

  slot_path : Path ns (n + s) in_slot (n + s)
  slot_path = subst (λ l. Path ns (n + s) l (n + s)) whole_is whole.path

  -- the rows of the slot and no others
  pub in_slot_has : (i : ℕ) → (Has i in_slot → IsIn i) × (IsIn i → Has i in_slot)
  in_slot_has i =
      let h = sorted_has key i found in
      (λ g. (found_has i).0 (h.0 g), λ g. h.1 ((found_has i).1 g))

  pub found_rows : AllByRecursion (λ i. i < n) found
  found_rows = has_all (λ i. i < n) found (λ i h. ((found_has i).0 h).0)

  pub in_slot_rows : AllByRecursion (λ i. i < n) in_slot
  in_slot_rows = has_all (λ i. i < n) in_slot (λ i h. ((in_slot_has i).0 h).0)

  -- the first row has the lowest key, and the one after a row the lowest of the higher keys
  pub first_least : (i : ℕ) → IsIn i → IsIn (get_or ns (n + s) 0) × (key (get_or ns (n + s) 0) ≤ key i)
  first_least i h =
      let q = path_least ns key (n + s) in_slot (n + s) i slot_path in_slot_rises ((in_slot_has i).1 h) in
      ((in_slot_has (get_or ns (n + s) 0)).0 q.0, q.1)

  pub next_least : (x i : ℕ) → IsIn x → IsIn i → key x < key i → IsIn (get_or ns x 0) × (key (get_or ns x 0) ≤ key i)
  next_least x i h g l =
      let q = path_after ns key (n + s) in_slot (n + s) x i slot_path in_slot_rises ((in_slot_has x).1 h) ((in_slot_has i).1 g) l in
      ((in_slot_has (get_or ns x 0)).0 q.0, q.1)

  -- on from the sentinel
  pub walk_on : (fuel : ℕ) → n ≤ fuel → walk fuel ns n (get_or ns (n + s) 0) ≡ in_slot
  walk_on fuel l =
      walk_path ns n fuel (n + s) in_slot (n + s) slot_path in_slot_rows (omega arith) (let a = in_slot_length in omega arith)

  -- and back from it
  pub walk_back : (fuel : ℕ) → n ≤ fuel → walk fuel ps n (get_or ps (n + s) 0) ≡ reverse in_slot
  walk_back fuel l =
      let home : get_or hs (n + s) m < m = omega (arith, k.sentinels s sm) in
      walk_path ps n fuel (n + s) (reverse in_slot) (n + s)
      (path_back ns ps (n + s) in_slot (n + s) slot_path (k.on (n + s) home).2 (has_all (λ x. get_or ps (get_or ns x 0) 0 ≡ x) in_slot (λ i h. (k.on i (let a = (in_slot_has i).0 h in omega (arith, a.1))).2)))
      (all_reverse (λ i. i < n) in_slot in_slot_rows)
      (omega arith)
      (let a = in_slot_length in omega (arith, length-reverse in_slot))
