-- Stepping until a tick, turn by turn.
use Rattle.std.proofs.Common.{◌≡◌, ℕ, ◌<◌, true, false, List, [], ◌∷◌, ◌++◌, is_ok, sym, ap, ◌∙◌, subst}
use Rattle.protocol.specs.declared.operation.Operation.TheVariants.{Step}
use Rattle.protocol.specs.State.{State}
use Rattle.protocol.specs.Rules.{step_rule}
use Rattle.timers_law.specs.Ends.{goes_on, measure}
use Rattle.timers_law.specs.Ready.{Ready}
use Rattle.timers_law.proofs.Ends.{step_falls}
use Rattle.session.specs.declared.command.Call.{Call}
use Rattle.session.specs.declared.command.Call.TheVariants.{Operate}
use Rattle.session.specs.declared.answer.Note.{Note}
use Rattle.session.specs.Run.{note_of, steps_until}
use Rattle.session.specs.Progress.{Progress, Went, Underway}
use Rattle.session.proofs.Going.{progress_none, progress_one, went_all, underway_went, underway_more}
use Rattle.session.proofs.Steps.{steps_none, steps_last, steps_more}

module _ (s : State) (ns : List Note) (k : ℕ) (t : State) (ms : List Note) (way : Underway s ns (steps_until s k) (steps_until t k) t ms) where
  -- there is nothing to step for any more
  pub ended : goes_on t k ≡ false → Went s ns (steps_until s k) true t ms
  ended g =
      underway_went s ns (steps_until s k) (steps_until t k) t ms true t ms way
      (went_all t ms (steps_until t k) true t ms
      (subst (λ (cs : List Call). Progress t ms cs t ms) (sym (steps_none t k g)) (progress_none t ms)))

  module _ (u : State) (ls : List Note) (g : goes_on t k ≡ true) (e : u ≡ (step_rule t).after) (f : ls ≡ ms ++ note_of t (Operate Step) ∷ []) where
    -- the step was refused
    pub refused : is_ok (step_rule t).answer ≡ false → Went s ns (steps_until s k) true u ls
    refused o =
        underway_went s ns (steps_until s k) (steps_until t k) t ms true u ls way
        (went_all t ms (steps_until t k) true u ls
        (subst (λ (cs : List Call). Progress t ms cs u ls) (sym (steps_last t k g o)) (progress_one t ms (Operate Step) u ls e f)))

    -- the step was accepted
    pub accepted : Ready t → is_ok (step_rule t).answer ≡ true → Underway s ns (steps_until s k) (steps_until u k) u ls
    accepted r o =
        underway_more s ns (steps_until s k) (steps_until t k) (Operate Step ∷ []) (steps_until u k) t ms u ls way
        (steps_more t k r g o ∙ ap (λ (z : State). Operate Step ∷ steps_until z k) (sym e))
        (progress_one t ms (Operate Step) u ls e f)

pub falls : (k : ℕ) (t u : State) → Ready t → goes_on t k ≡ true → is_ok (step_rule t).answer ≡ true → u ≡ (step_rule t).after → measure u k < measure t k
falls k t u r g o e = subst (λ (z : State). measure z k < measure t k) (sym e) (step_falls t k r g o)
