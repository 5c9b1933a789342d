-- The rules of the calls that a table of 64 records is lent to: the same rules without the test of the table's length.
use Rattle.std.specs.Prelude.{ℕ}
use Rattle.trace.specs.declared.fault.RigFault.TheVariants as fault
use Rattle.channel.specs.Record.{window_full}
use Rattle.protocol.specs.State.{State, low, record_of}
use Rattle.protocol.specs.Rules.{Step, unless, no_channel, not_unused, not_open, send_spent, open_start, send_start, take_front, close_open}

abbrev pub open_body : State → ℕ → Step
open_body s c =
    unless (no_channel c) fault.Channel s (unless (not_unused s c) fault.State s (unless (low s) fault.Spent s (open_start s c)))

abbrev pub send_body : State → ℕ → ℕ → Step
send_body s c word =
    unless (no_channel c) fault.Channel s
    (unless (not_open s c) fault.State s
    (unless (send_spent s c) fault.Spent s (unless (window_full (record_of s c)) fault.Window s (send_start s c word))))

abbrev pub take_body : State → ℕ → Step
take_body s c = unless (no_channel c) fault.Channel s (unless (not_open s c) fault.State s (take_front s c))

abbrev pub close_body : State → ℕ → Step
close_body s c = unless (no_channel c) fault.Channel s (unless (not_open s c) fault.State s (close_open s c))
