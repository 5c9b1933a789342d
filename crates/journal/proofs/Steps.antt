-- The calls that settle a store, one by one.
use Rattle.std.proofs.Common.{◌≡◌, ◌≢◌, ℕ, zero, suc, ◌+◌, ◌-◌, ◌<◌, [], ◌∷◌, length, refl, ap, ◌∙◌, arith}
use Rattle.std.proofs.lemmas.Bool.{eq-eqb, ne_eqb}
use Rattle.std.proofs.lemmas.Grind.{common_steps}
use Rattle.timer.specs.Meaning.{Meaning}
use Rattle.timer.specs.History.{call_after}
use Rattle.journal.specs.Notes.{coming_call, settling}

-- nothing is pending
pub settling_none : (budget : ℕ) (m : Meaning ℕ) → length m.pending ≡ 0 → settling budget m ≡ []
settling_none zero m e = refl
settling_none (suc b) m e = rw (eq-eqb (length m.pending) 0 e)

-- something is pending, and k of n calls have been made
pub settling_more : (n k : ℕ) (m : Meaning ℕ) → k < n → length m.pending ≢ 0 → settling (n - k) m ≡ coming_call m ∷ settling (n - (k + 1)) (call_after m (coming_call m))
settling_more n k m l e =
    let s : n - k ≡ suc (n - (k + 1)) = omega arith in
    ap (λ b. settling b m) s ∙ rw (ne_eqb (length m.pending) 0 e)

-- a call more of those, or none
pub ruleset settling_steps = (settling_none, settling_more, common_steps)
