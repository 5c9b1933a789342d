-- The state of the rig: what lies between two calls.
use Rattle.std.specs.Prelude.{ℕ, ◌+◌, Bool, ◌||◌, List, [], length, replicate, None, ◌==◌, nat_lt, slice_index_or, slice_set}
use Rattle.timer.specs.Meaning.{Meaning}
use Rattle.link.specs.declared.packet.Packet.{Packet}
use Rattle.channel.specs.declared.record.Attempt.{Attempt}
use Rattle.channel.specs.declared.record.Channel.{Channel}
use Rattle.channel.specs.declared.record.Status.TheVariants.{Unused}
use Rattle.channel.specs.Record.{stop, as_read, unused}

-- `fate` gives the fate of each packet by its number, and `packets` counts the packets sent; a keepalive timer carries its channel's number;
-- `table` has the first 64 records of the table, or all where it has fewer
pub record State : Type 0 where
  pub interval : ℕ
  pub fate : ℕ → ℕ
  pub packets : ℕ
  pub wire : Meaning Packet
  pub resend : Meaning Attempt
  pub keepalive : Meaning ℕ
  pub table : List Channel

abbrev pub state : State → ℕ → Meaning Packet → Meaning Attempt → Meaning ℕ → List Channel → State
state s packets wire resend keepalive table =
    record {
      interval = s.interval;
      fate = s.fate;
      packets = packets;
      wire = wire;
      resend = resend;
      keepalive = keepalive;
      table = table;
    }

-- one part changed
abbrev pub with_sent : State → ℕ → Meaning Packet → State
with_sent s packets wire = state s packets wire s.resend s.keepalive s.table

abbrev pub with_wire : State → Meaning Packet → State
with_wire s m = with_sent s s.packets m

abbrev pub with_resend : State → Meaning Attempt → State
with_resend s m = state s s.packets s.wire m s.keepalive s.table

abbrev pub with_keepalive : State → Meaning ℕ → State
with_keepalive s m = state s s.packets s.wire s.resend m s.table

abbrev pub with_table : State → List Channel → State
with_table s table = state s s.packets s.wire s.resend s.keepalive table

-- what is read past the end of a table
abbrev pub blank : Channel
blank =
    record {
      status = Unused;
      next = 0;
      base = 0;
      sending = [];
      taken = 0;
      receiving = [];
      estimator = record { round_trip = None; timeout = 0 };
      keepalive = 0;
    }

-- the record of a channel, as read
abbrev pub record_of : State → ℕ → Channel
record_of s c = as_read (slice_index_or s.table c blank)

abbrev pub put : State → ℕ → Channel → State
put s c r = with_table s (slice_set s.table c r)

-- the clock is the wire's
abbrev pub tick_of : State → ℕ
tick_of s = s.wire.now

abbrev pub last_of : State → ℕ
last_of s = s.wire.last

-- the tick after so many
abbrev pub in_ticks : State → ℕ → ℕ
in_ticks s delay = stop (tick_of s + delay)

-- the table is short of a record for each channel
abbrev pub table_short : List Channel → Bool
table_short table = nat_lt (length table) 64

-- a store has fewer than two tickets left
abbrev pub worn : {P : Type 0} → Meaning P → Bool
worn m = nat_lt 4294967293 m.given

-- tickets or packet numbers run out
abbrev pub low : State → Bool
low s = worn s.wire || (worn s.resend || (worn s.keepalive || s.packets == 4294967295))

-- where a session begins
abbrev pub fresh_table : List Channel
fresh_table = replicate 64 unused

abbrev pub begun : ℕ → (ℕ → ℕ) → Meaning Packet → Meaning Attempt → Meaning ℕ → State
begun interval fate wire resend keepalive =
    record {
      interval = interval;
      fate = fate;
      packets = 0;
      wire = wire;
      resend = resend;
      keepalive = keepalive;
      table = fresh_table;
    }
