-- A call of the rig obeys a rule.
use Rattle.std.specs.Prelude.{◌≡◌, Result}
use Rattle.trace.specs.declared.action.Action.{Action}
use Rattle.trace.specs.declared.fault.RigFault.{RigFault}
use Rattle.protocol.specs.State.{State}
use Rattle.protocol.specs.Rules.{Step}

-- made in the state `before`, it answers `told` and leaves the state `left`, as the rule says
pub record Obeys (rule : State → Step) (before : State) (told : Result Action RigFault) (left : State) : Type 0 where
  pub answer : told ≡ (rule before).answer
  pub after : left ≡ (rule before).after
