-- What the rig tells of a channel, by the caller's table.
use Rattle.std.specs.Prelude.{ℕ, Bool, if◌then◌else◌, ◌||◌, List, length, Some, None, Option, nat_le, nat_lt, slice_index_or}
use Rattle.std.specs.Option.{option_map}
use Rattle.channel.specs.declared.record.Channel.{Channel}
use Rattle.channel.specs.declared.record.Status.{Status}
use Rattle.channel.specs.Record.{as_read, number_of}
use Rattle.protocol.specs.State.{blank}

-- no channel has this number, or no record
abbrev pub missing : List Channel → ℕ → Bool
missing table c = nat_lt 63 c || nat_le (length table) c

abbrev pub read_at : List Channel → ℕ → Channel
read_at table c = as_read (slice_index_or table c blank)

-- the record of a channel, unless it is missing
abbrev pub known : List Channel → ℕ → Option Channel
known table c = if missing table c then None else Some (read_at table c)

abbrev pub status_in : List Channel → ℕ → Option Status
status_in table c = option_map (λ r. r.status) (known table c)

abbrev pub status_number_in : List Channel → ℕ → ℕ
status_number_in table c = if missing table c then 3 else number_of (read_at table c).status

abbrev pub timeout_in : List Channel → ℕ → ℕ
timeout_in table c = if missing table c then 0 else (read_at table c).estimator.timeout
