-- How many pending entries pass a test, once one comes in or leaves.
use Rattle.std.proofs.Common.{◌≡◌, ℕ, ◌+◌, ◌<◌, ◌≤◌, Bool, true, false, cond, eqb, List, [], ◌∷◌, length, count_by, refl, ap, inl, inr, arith}
use Rattle.std.proofs.lemmas.List.Sums.{sum_by-cons}
use Rattle.std.proofs.lemmas.Bool.{cases_eq, eq-eqb, ne_eqb}
use Rattle.std.proofs.lemmas.Bool.Decides.{nat_tests}
use Rattle.timer.specs.Meaning.{Entry, Rising}
use Rattle.timer.specs.Rules.{count, without}
use Rattle.timer.specs.History.{In}
use Rattle.timer.proofs.Entries.{all_in}

-- an entry more
pub count_cons : {P : Type 0} (test : Entry P → Bool) (e : Entry P) (es : List (Entry P)) → count_by test (e ∷ es) ≡ cond (test e) 1 0 + count_by test es
count_cons test e es = sum_by-cons (λ x. cond (test x) 1 0) e es

pub length_counts : {P : Type 0} (es : List (Entry P)) → count_by (λ e. true) es ≡ length es
length_counts [] = refl
length_counts (e ∷ es) = omega (arith, count_cons (λ e. true) e es, length_counts es)

pub count_counts : {P : Type 0} (o : ℕ) (es : List (Entry P)) → count_by (λ e. eqb e.owner o) es ≡ count o es
count_counts o [] = refl
count_counts o (e ∷ es) =
    let c = count_cons (λ e. eqb e.owner o) e es in
    let h = count_counts o es in
    grind (arith, nat_tests)

module _ {P : Type 0} (test : Entry P → Bool) where
  pub without_le : (t : ℕ) (es : List (Entry P)) → count_by test (without t es) ≤ count_by test es
  without_le t [] = omega arith
  without_le t (x ∷ es) =
      let c = count_cons test x es in
      elim (eqb x.ticket t) as (λ b. count_by test (cond b es (x ∷ without t es)) ≤ count_by test (x ∷ es)) [
        | true ↦ omega arith
        | false ↦ omega (arith, count_cons test x (without t es), without_le t es)
      ]

  -- tickets differ, so what leaves is the entry itself
  pub without_count : (es : List (Entry P)) (e : Entry P) → Rising es → In e es → count_by test (without e.ticket es) + cond (test e) 1 0 ≡ count_by test es
  without_count [] e r i = absurd i
  without_count (x ∷ es) e r i =
      let c = count_cons test x es in
      elim (cases_eq x.ticket e.ticket) [
        | inl h ↦ elim i [
          | inl q ↦ rw (eq-eqb x.ticket e.ticket h) (omega (arith, ap {B = ℕ} (λ y. cond (test y) 1 0) q))
          | inr j ↦ absurd (omega (arith, all_in (λ f. x.ticket < f.ticket) es e r.0 j))
        ]
        | inr h ↦ elim i [
          | inl q ↦ absurd (h (ap (λ y. y.ticket) q))
          | inr j ↦ rw (ne_eqb x.ticket e.ticket h) (omega (arith, count_cons test x (without e.ticket es), without_count es e r.1 j))
        ]
      ]
