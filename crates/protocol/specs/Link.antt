-- How a packet is handed to the link.
use Rattle.std.specs.Prelude.{ℕ, zero, suc, ◌+◌, List, [], ◌++◌, Ok, Err, Result}
use Rattle.timer.specs.declared.fault.TimerFault.{TimerFault}
use Rattle.timer.specs.Meaning.{Meaning}
use Rattle.timer.specs.Rules.{Event, Outcome, start_rule}
use Rattle.trace.specs.declared.action.Transmission.{Transmission}
use Rattle.link.specs.declared.packet.Packet.{Packet}
use Rattle.link.specs.Fate.{fate_delay, fate_copies}
use Rattle.channel.specs.Record.{stop}
use Rattle.protocol.specs.State.{State, with_sent}

-- how many copies of a packet the wire accepted, the wire with them, and what happened to its timers
pub record Carried : Type 0 where
  pub copies : ℕ
  pub after : Meaning Packet
  pub events : List Event

abbrev pub counted : Result ℕ TimerFault → ℕ → ℕ
counted (Ok ticket) n = n + 1
counted (Err f) n = n

-- one copy more; a copy that the wire refuses is lost
abbrev pub one_more : Carried → ℕ → ℕ → Packet → Carried
one_more k deadline c packet =
    let d : Outcome (Result ℕ TimerFault) Packet = start_rule k.after deadline c packet in
    record { copies = counted d.answer k.copies; after = d.after; events = k.events ++ d.events }

-- so many copies, one after the other
abbrev pub carried : ℕ → Meaning Packet → ℕ → ℕ → Packet → Carried
carried zero wire deadline c packet = record { copies = 0; after = wire; events = [] }
carried (suc n) wire deadline c packet = one_more (carried n wire deadline c packet) deadline c packet

-- what the link makes of the next packet
abbrev pub next_fate : State → ℕ
next_fate s = s.fate s.packets

-- a packet with this fate is handed to the wire in this tick
unfoldable pub carry : ℕ → Meaning Packet → ℕ → Packet → Carried
carry fate wire c packet =
    carried (fate_copies fate) wire (stop (wire.now + fate_delay fate)) c packet

-- a packet is sent on a channel: the packet as the trace tells of it, the state after it, and what happened to the wire's timers
pub record Transmitted : Type 0 where
  pub transmission : Transmission
  pub after : State
  pub events : List Event

abbrev pub transmitted : State → ℕ → Carried → Transmitted
transmitted s fate k =
    record {
      transmission = record { packet = s.packets; delay = fate_delay fate; copies = k.copies };
      after = with_sent s (stop (s.packets + 1)) k.after;
      events = k.events;
    }

abbrev pub transmit : State → ℕ → Packet → Transmitted
transmit s c packet = transmitted s (next_fate s) (carry (next_fate s) s.wire c packet)
