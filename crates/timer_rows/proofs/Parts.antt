-- The rows that a store uses, lent to a function and given back.
use Rattle.std.proofs.Common.{◌≡◌, ℕ, ◌-◌, ◌<◌, ◌≤◌, min, List, ◌++◌, length, take, drop, sym, ap, ◌∙◌, subst, ⊎_elim, arith}
use borrow.Rule.Slice.PartMut.{post_of}
use Rattle.std.proofs.lemmas.List.{take_all, take_at, drop_all, append-nil, length-append, length-drop, length-take, length-take-le}
use Rattle.std.proofs.lemmas.Slice.{drop-append-drop}
use Rattle.std.proofs.lemmas.Bool.{cases_lt}
use Rattle.timer_rows.specs.declared.row.Row.{Row}
use Rattle.timer_rows.specs.Rows.{used, unused}

module _ {P : Type 0} (rows : List (Row P)) (n : ℕ) (is : n ≡ min (length rows) 4096) where
  -- the part that is lent
  pub part_used : take (n - 0) rows ≡ used rows
  part_used =
      ⊎_elim
      (λ (h : length rows < 4096).
      let e : n - 0 ≡ length rows = omega arith in
      ap (λ k. take k rows) e ∙ take_all (length rows) rows (omega arith) ∙ sym (take_all 4096 rows (omega arith)))
      (λ (h : 4096 ≤ length rows). let e : n - 0 ≡ 4096 = omega arith in ap (λ k. take k rows) e)
      (cases_lt (length rows) 4096)

  pub used_length : length (used rows) ≡ n
  used_length = length-take 4096 rows ∙ omega arith

  -- the whole, after the part has become ys
  module _ (ys : List (Row P)) (same : length ys ≡ length (take (n - 0) rows)) where
    long : length ys ≡ n
    long = same ∙ length-take-le (n - 0) rows (omega arith) ∙ omega arith

    pub whole_length : length (ys ++ post_of 0 (n - 0) rows) ≡ length rows
    whole_length =
        length-append ys (drop (n - 0) rows) ∙ omega (arith, long, length-drop (n - 0) rows)

    pub used_after : used (ys ++ post_of 0 (n - 0) rows) ≡ ys
    used_after =
        ⊎_elim
        (λ (h : length rows < 4096).
        let d : drop (n - 0) rows ≡ drop (length rows) rows = ap (λ k. drop k rows) (omega arith) in
        ap (λ l. take 4096 (ys ++ l)) (d ∙ drop_all (length rows) rows (omega arith)) ∙ ap (take 4096) (append-nil ys) ∙ take_all 4096 ys (omega (arith, long)))
        (λ (h : 4096 ≤ length rows). take_at ys (drop (n - 0) rows) 4096 (long ∙ omega arith))
        (cases_lt (length rows) 4096)

    pub unused_after : unused (ys ++ post_of 0 (n - 0) rows) ≡ unused rows
    unused_after = drop-append-drop (n - 0) rows ys 4096 (omega arith) (long ∙ omega arith)

    -- what holds of the part before and after holds of the rows that are used
    pub used_both : (Q : List (Row P) → List (Row P) → Type 0) → Q (take (n - 0) rows) ys → Q (used rows) (used (ys ++ post_of 0 (n - 0) rows))
    used_both Q q = subst (λ z. Q (used rows) z) (sym used_after) (subst (λ z. Q z ys) part_used q)
