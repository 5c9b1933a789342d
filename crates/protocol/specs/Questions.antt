-- What can be asked of the rig.
use Rattle.std.specs.Prelude.{ℕ, Bool, if◌then◌else◌, ◌||◌, length, nat_le, nat_lt}
use Rattle.channel.specs.Record.{number_of}
use Rattle.protocol.specs.State.{State, record_of}

-- no channel has this number, or no record
abbrev pub unknown : State → ℕ → Bool
unknown s c = nat_lt 63 c || nat_le (length s.table) c

-- 0 unused, 1 open, 2 closed, 3 unknown
abbrev pub status_number : State → ℕ → ℕ
status_number s c = if unknown s c then 3 else number_of (record_of s c).status

-- the retransmission timeout in ticks, or 0 of a channel that is unknown
abbrev pub timeout_rule : State → ℕ → ℕ
timeout_rule s c = if unknown s c then 0 else (record_of s c).estimator.timeout
