-- Stepping until a tick: how many turns are allowed does not matter once they are enough.
use Rattle.std.proofs.Common.{◌≡◌, ℕ, zero, suc, ◌<◌, Bool, true, false, cond, List, [], ◌∷◌, is_ok, refl, ap, ◌∙◌, arith}
use Rattle.protocol.specs.declared.operation.Operation.TheVariants.{Step}
use Rattle.protocol.specs.State.{State}
use Rattle.protocol.specs.Rules.{step_rule}
use Rattle.timers_law.specs.Ends.{goes_on, measure}
use Rattle.timers_law.specs.Ready.{Ready}
use Rattle.timers_law.proofs.Ends.{step_falls}
use Rattle.timers_law.proofs.Ready.{rule_ready}
use Rattle.session.specs.declared.command.Call.{Call}
use Rattle.session.specs.declared.command.Call.TheVariants.{Operate}
use Rattle.session.specs.Run.{steps, steps_until}

both : (b : Bool) (x y : List Call) → (b ≡ true → x ≡ y) → cond b x [] ≡ cond b y []
both true x y f = f refl
both false x y f = refl

enough : (k l : ℕ) (s : State) (t : ℕ) → Ready s → measure s t < k → measure s t < l → steps k s t ≡ steps l s t
enough zero l s t r a b = absurd (omega arith)
enough (suc k) zero s t r a b = absurd (omega arith)
enough (suc k) (suc l) s t r a b =
    both (goes_on s t) _ _ (λ g.
    ap (λ (xs : List Call). Operate Step ∷ xs)
    (both (is_ok (step_rule s).answer) _ _ (λ o.
    let f = step_falls s t r g o in
    enough k l (step_rule s).after t (rule_ready s Step r) (omega arith) (omega arith))))

-- nothing is left to step for
pub steps_none : (s : State) (t : ℕ) → goes_on s t ≡ false → steps_until s t ≡ []
unfolding steps_until
steps_none s t g = ap (λ (b : Bool). cond b (Operate Step ∷ cond (is_ok (step_rule s).answer) (steps (measure s t) (step_rule s).after t) []) []) g

-- a refused step is the last
pub steps_last : (s : State) (t : ℕ) → goes_on s t ≡ true → is_ok (step_rule s).answer ≡ false → steps_until s t ≡ Operate Step ∷ []
unfolding steps_until
steps_last s t g o =
    ap (λ (b : Bool). cond b (Operate Step ∷ cond (is_ok (step_rule s).answer) (steps (measure s t) (step_rule s).after t) []) []) g
    ∙ ap (λ (b : Bool). Operate Step ∷ cond b (steps (measure s t) (step_rule s).after t) []) o

-- an accepted step, and then the others
pub steps_more : (s : State) (t : ℕ) → Ready s → goes_on s t ≡ true → is_ok (step_rule s).answer ≡ true → steps_until s t ≡ Operate Step ∷ steps_until (step_rule s).after t
unfolding steps_until
steps_more s t r g o =
    let f = step_falls s t r g o in
    ap (λ (b : Bool). cond b (Operate Step ∷ cond (is_ok (step_rule s).answer) (steps (measure s t) (step_rule s).after t) []) []) g
    ∙ ap (λ (b : Bool). Operate Step ∷ cond b (steps (measure s t) (step_rule s).after t) []) o
    ∙ ap (λ (xs : List Call). Operate Step ∷ xs) (enough (measure s t) (suc (measure (step_rule s).after t)) (step_rule s).after t (rule_ready s Step r) f (omega arith))
