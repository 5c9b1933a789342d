use Rattle.std.proofs.Common.{◌≡◌, true, rules, arith}
use Rattle.std.proofs.lemmas.Grind.{common_steps}
use Rattle.std.proofs.lemmas.Slice.Eq.{slice_eq-Decides}
use denote.Enum.Bare.{same_true}
use Rattle.timer.specs.contracts.fault.TimerFault.{the_type}
use Rattle.timer.specs.contracts.fault.TimerFaultPartialEq.TheImpl as fault
use Rattle.timer.specs.declared.fault.TimerFault.{TimerFault}
use Rattle.journal.proofs.compare.agree.Goals as goal

-- refusals that `==` finds equal are the same: split by their nine cases each, the goal below is too large
fault_same : (f g : TimerFault) → (fault.ghosts).eq f g ≡ true → f ≡ g
fault_same f g = same_true the_type (search rules) f g

pub returns : goal.returns
returns c = slice_eq-Decides (λ m n. grind (arith, common_steps, fault_same)) _ _ _ c.eq.ensures
