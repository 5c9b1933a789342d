-- The rule of the step that a table of 64 records is lent to: the same rule without the test of the table's length.
use Rattle.trace.specs.declared.fault.RigFault.TheVariants as fault
use Rattle.protocol.specs.State.{State, low}
use Rattle.protocol.specs.Rules.{Step, unless, ending, moved}

abbrev pub step_body : State → Step
step_body s = unless (low s) fault.Spent s (unless (ending s) fault.Ending s (moved s))
