-- The numbers of the refusals.
use Rattle.std.specs.Prelude.{ℕ, Some, None, Option}
use Rattle.timer.specs.declared.fault.TimerFault.{TimerFault}
use Rattle.timer.specs.declared.fault.TimerFault.TheVariants.{Past, Late, Owner, Spent, Full, Limit, Missing, Due, Ended}

abbrev pub fault_number : TimerFault → ℕ
fault_number Past = 1
fault_number Late = 2
fault_number Owner = 3
fault_number Spent = 4
fault_number Full = 5
fault_number Limit = 6
fault_number Missing = 7
fault_number Due = 8
fault_number Ended = 9

-- what check answers, as a number: 0 where nothing is refused
abbrev pub checked_number : Option TimerFault → ℕ
checked_number (Some f) = fault_number f
checked_number None = 0
