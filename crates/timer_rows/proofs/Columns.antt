-- The links of the rows and then of the sentinels, and a write to either.
use Rattle.std.proofs.Common.{◌≡◌, ℕ, zero, suc, ◌+◌, ◌-◌, ◌<◌, ◌≤◌, ◌≢◌, ◌⊎◌, List, [], ◌∷◌, ◌++◌, map, length, get_or, set, sym, refl, ap, ◌∙◌, inl, inr, ⊎_elim, arith}
use Rattle.std.proofs.lemmas.List.{length-map, length-append, get_or_append_left, get_or-append_right, get_or-map, get_or-set_same, get_or-set_other, map-set, set-append_left, set-append_right}
use Rattle.std.proofs.lemmas.Bool.{cases_eq}

module _ {X Y : Type 0} (f : X → ℕ) (e : Y → ℕ) (xs : List X) (ys : List Y) where
  pub row_link : (i : ℕ) (d : X) → i < length xs → f (get_or xs i d) ≡ get_or (map f xs ++ map e ys) i 0
  row_link i d h = sym (get_or_append_left (map f xs) (map e ys) 0 i (rw length-map h) ∙ get_or-map f xs i d 0 h)

  pub end_link : (i : ℕ) (d : Y) → length xs ≤ i → i < length xs + length ys → e (get_or ys (i - length xs) d) ≡ get_or (map f xs ++ map e ys) i 0
  end_link i d l h =
      sym (get_or-append_right (map f xs) (map e ys) (length xs) i 0 (length-map xs f) l ∙ get_or-map e ys (i - length xs) d 0 (omega arith))

  pub row_write : (i : ℕ) (r : X) → i < length xs → map f (set xs i r) ++ map e ys ≡ set (map f xs ++ map e ys) i (f r)
  row_write i r h =
      ap (λ l. l ++ map e ys) (map-set f xs i r) ∙ sym (set-append_left (map f xs) (map e ys) i (f r) (rw length-map h))

  pub end_write : (i : ℕ) (r : Y) → length xs ≤ i → map f xs ++ map e (set ys (i - length xs) r) ≡ set (map f xs ++ map e ys) i (e r)
  end_write i r l =
      ap (λ l. map f xs ++ l) (map-set e ys (i - length xs) r) ∙ sym (set-append_right (map f xs) (map e ys) (length xs) i (e r) (length-map xs f) l)

  pub column_length : length (map f xs ++ map e ys) ≡ length xs + length ys
  column_length = simp (length-append, length-map)

-- a column in which the changed element has what it had
pub column_same : {X Y : Type 0} (f : X → Y) (xs : List X) (i : ℕ) (r d : X) → i < length xs → f r ≡ f (get_or xs i d) → map f (set xs i r) ≡ map f xs
column_same f [] i r d l e = refl
column_same f (x ∷ xs) zero r d l e = ap (λ y. y ∷ map f xs) e
column_same f (x ∷ xs) (suc i) r d l e = ap (λ c. f x ∷ c) (column_same f xs i r d (omega arith) e)

-- a list of numbers with one changed, at any place
pub set_cases : (xs : List ℕ) (x v d i : ℕ) → x < length xs → ((i ≡ x) × (get_or (set xs x v) i d ≡ v)) ⊎ ((i ≢ x) × (get_or (set xs x v) i d ≡ get_or xs i d))
set_cases xs x v d i l =
    ⊎_elim
    (λ (e : i ≡ x). inl (e, ap (λ k. get_or (set xs x v) k d) e ∙ get_or-set_same xs x v d l))
    (λ (n : i ≢ x). inr (n, get_or-set_other xs x i v d n))
    (cases_eq i x)
