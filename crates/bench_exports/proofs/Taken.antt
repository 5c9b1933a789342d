-- A take leaves one entry less.
use Rattle.std.proofs.Common.{◌≡◌, ◌+◌, ◌<◌, List, [], ◌∷◌, length, Some, None, Option, inl, inr, ap, arith}
use Rattle.std.proofs.lemmas.Bool.Decides.{nat_tests}
use Rattle.timer.specs.declared.expired.Expired.{Expired}
use Rattle.timer.specs.Meaning.{Entry, Meaning}
use Rattle.timer.specs.Rules.{without, due_entry, taken}
use Rattle.timer.specs.History.{In}
use Rattle.timer.proofs.Entries.{due_in}
use Rattle.timer.proofs.Members.{never}

one_less : {P : Type 0} (es : List (Entry P)) (e : Entry P) → In e es → length (without e.ticket es) + 1 ≡ length es
one_less [] e i = absurd i
one_less (x ∷ es) e i =
    elim i [
      | inl q ↦ let h : x.ticket ≡ e.ticket = ap (λ y. y.ticket) q in grind (arith, nat_tests)
      | inr j ↦ let h = one_less es e j in grind (arith, nat_tests)
    ]

pub fewer : {P : Type 0} (m : Meaning P) (o : Option (Entry P)) (x : Expired P) → due_entry m.now m.pending ≡ o → Some x ≡ (taken m o).answer → length (taken m o).after.pending < length m.pending
fewer m None x h a = never (cc)
fewer m (Some e) x h a = let l = one_less m.pending e (due_in m.now m.pending e h).0 in omega arith
