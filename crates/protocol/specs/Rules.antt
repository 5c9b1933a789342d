-- What each call of the rig answers, and the state after it.
use Rattle.std.specs.Prelude.{ℕ, Bool, true, false, not, if◌then◌else◌, ◌&&◌, ◌||◌, List, [], ◌∷◌, ◌++◌, Some, None, Ok, Err, Option, Result, ◌==◌, nat_le, nat_lt}
use Rattle.timer.specs.declared.expired.Expired.{Expired}
use Rattle.timer.specs.declared.fault.TimerFault.{TimerFault}
use Rattle.timer.specs.Meaning.{Meaning}
use Rattle.timer.specs.Rules.{Event, Outcome, due_rule, start_rule, stop_rule, take_rule, advance_rule}
use Rattle.trace.specs.declared.action.Segment.{Segment}
use Rattle.trace.specs.declared.action.Action.{Action}
use Rattle.trace.specs.declared.action.Action.TheVariants as action
use Rattle.trace.specs.declared.fault.RigFault.{RigFault}
use Rattle.trace.specs.declared.fault.RigFault.TheVariants as fault
use Rattle.trace.specs.declared.queue.Queue.{Queue}
use Rattle.trace.specs.declared.queue.Queue.TheVariants.{Wire, Resend, Keepalive}
use Rattle.estimator.specs.Estimate.{wait_rule}
use Rattle.link.specs.declared.packet.Packet.{Packet}
use Rattle.link.specs.declared.packet.Packet.TheVariants as packet
use Rattle.channel.specs.declared.record.Attempt.{Attempt}
use Rattle.channel.specs.Record.{opened, is_open, is_unused, window_full, sent, resent, awaits, answered, front, without_front, acknowledges, received, closed, kept_alive, first_attempt, again, sample}
use Rattle.protocol.specs.State.{State, with_wire, with_resend, with_keepalive, record_of, put, tick_of, last_of, in_ticks, table_short, low}
use Rattle.protocol.specs.Link.{Transmitted, transmit}
use Rattle.protocol.specs.declared.operation.Operation.{Operation}
use Rattle.protocol.specs.declared.operation.Operation.TheVariants.{Open, Send, Take, Close, Step as StepOn}

-- what happened to the timers of each store
pub record Events : Type 0 where
  pub wire : List Event
  pub resend : List Event
  pub keepalive : List Event

abbrev pub no_events : Events
no_events = record { wire = []; resend = []; keepalive = [] }

abbrev pub on_wire : List Event → Events
on_wire es = record { wire = es; resend = []; keepalive = [] }

abbrev pub on_resend : List Event → Events
on_resend es = record { wire = []; resend = es; keepalive = [] }

abbrev pub on_keepalive : List Event → Events
on_keepalive es = record { wire = []; resend = []; keepalive = es }

-- some events, and then others
abbrev pub joined : Events → Events → Events
joined d e =
    record { wire = d.wire ++ e.wire; resend = d.resend ++ e.resend; keepalive = d.keepalive ++ e.keepalive }

-- a call's answer, the state after it, and what it did to timers
pub record Step : Type 0 where
  pub answer : Result Action RigFault
  pub after : State
  pub events : Events

abbrev pub give : Action → State → Step
give a s = record { answer = Ok a; after = s; events = no_events }

abbrev pub refuse : RigFault → State → Step
refuse f s = record { answer = Err f; after = s; events = no_events }

-- the same, after these events
abbrev pub noting : Events → Step → Step
noting es p = record { answer = p.answer; after = p.after; events = joined es p.events }

-- a call goes on unless the test holds
abbrev pub unless : Bool → RigFault → State → Step → Step
unless true f s k = refuse f s
unless false f s k = k

-- a call goes on with what a store answers, unless the store refuses
abbrev pub or_store : {A : Type 0} → Queue → Result A TimerFault → State → (A → Step) → Step
or_store q (Ok x) s k = k x
or_store q (Err f) s k = refuse (fault.Store (record { queue = q; fault = f })) s

-- what a call of the rig asks of its channel
abbrev pub no_channel : ℕ → Bool
no_channel c = nat_lt 63 c

abbrev pub not_unused : State → ℕ → Bool
not_unused s c = not (is_unused (record_of s c))

abbrev pub not_open : State → ℕ → Bool
not_open s c = not (is_open (record_of s c))

-- the refusals that come before all others: no table, no such channel
abbrev pub on_channel : State → ℕ → Step → Step
on_channel s c k = unless (table_short s.table) fault.Table s (unless (no_channel c) fault.Channel s k)

-- a timer that a record holds the ticket of is stopped
abbrev pub cancel : {P : Type 0} → Meaning P → ℕ → Outcome (Result (ℕ × P) TimerFault) P
cancel m ticket = stop_rule m ticket

-- the timers of a channel, from now on
abbrev pub start_keepalive : State → ℕ → Outcome (Result ℕ TimerFault) ℕ
start_keepalive s c = start_rule s.keepalive (in_ticks s s.interval) c c

abbrev pub wait_of : State → ℕ → Attempt → ℕ
wait_of s c a = wait_rule (record_of s c).estimator.timeout a.tries

abbrev pub start_resend : State → ℕ → Attempt → Outcome (Result ℕ TimerFault) Attempt
start_resend s c a = start_rule s.resend (in_ticks s (wait_of s c a)) c a

-- open
abbrev pub open_after : State → ℕ → ℕ → State
open_after s c ticket = put (with_keepalive s (start_keepalive s c).after) c (opened ticket)

abbrev pub open_started : State → ℕ → ℕ → Step
open_started s c ticket =
    noting (on_keepalive (start_keepalive s c).events) (give (action.Opened c) (open_after s c ticket))

abbrev pub open_start : State → ℕ → Step
open_start s c = or_store Keepalive (start_keepalive s c).answer s (open_started s c)

unfoldable pub open_rule : State → ℕ → Step
open_rule s c =
    on_channel s c (unless (not_unused s c) fault.State s (unless (low s) fault.Spent s (open_start s c)))

-- send
abbrev pub next_segment : State → ℕ → ℕ → Segment
next_segment s c word = record { sequence = (record_of s c).next; word = word }

abbrev pub next_attempt : State → ℕ → ℕ → Attempt
next_attempt s c word = first_attempt (next_segment s c word) (tick_of s)

abbrev pub send_packet : State → ℕ → ℕ → Transmitted
send_packet s c word =
    transmit (with_resend s (start_resend s c (next_attempt s c word)).after) c (packet.Data (next_segment s c word))

abbrev pub send_started : State → ℕ → ℕ → ℕ → Step
send_started s c word ticket =
    noting (on_resend (start_resend s c (next_attempt s c word)).events)
    (noting (on_wire (send_packet s c word).events)
    (give (action.Sent c (next_segment s c word) (send_packet s c word).transmission)
    (put (send_packet s c word).after c (sent (record_of s c) ticket))))

abbrev pub send_start : State → ℕ → ℕ → Step
send_start s c word =
    or_store Resend (start_resend s c (next_attempt s c word)).answer s (send_started s c word)

-- tickets, packet numbers or sequence numbers run out
abbrev pub send_spent : State → ℕ → Bool
send_spent s c = low s || (record_of s c).next == 4294967295

unfoldable pub send_rule : State → ℕ → ℕ → Step
send_rule s c word =
    on_channel s c
    (unless (not_open s c) fault.State s
    (unless (send_spent s c) fault.Spent s
    (unless (window_full (record_of s c)) fault.Window s (send_start s c word))))

-- take
abbrev pub take_front : State → ℕ → Step
take_front s c = give (action.Taken c (front (record_of s c))) (put s c (without_front (record_of s c)))

unfoldable pub receive_rule : State → ℕ → Step
receive_rule s c = on_channel s c (unless (not_open s c) fault.State s (take_front s c))

-- close: every timer of the channel is stopped, from its first place on
pub record Cancelled : Type 0 where
  pub after : Meaning Attempt
  pub events : List Event

abbrev pub cancelled : Outcome (Result (ℕ × Attempt) TimerFault) Attempt → Cancelled
cancelled d = record { after = d.after; events = d.events }

abbrev pub place_cancelled : Option ℕ → Meaning Attempt → Cancelled
place_cancelled None m = record { after = m; events = [] }
place_cancelled (Some ticket) m = cancelled (cancel m ticket)

abbrev pub cancel_next : Cancelled → Cancelled → Cancelled
cancel_next k l = record { after = l.after; events = k.events ++ l.events }

abbrev pub all_cancelled : List (Option ℕ) → Meaning Attempt → Cancelled
all_cancelled [] m = record { after = m; events = [] }
all_cancelled (p ∷ ps) m = cancel_next (place_cancelled p m) (all_cancelled ps (place_cancelled p m).after)

abbrev pub cancel_resends : State → ℕ → Cancelled
cancel_resends s c = all_cancelled (record_of s c).sending s.resend

abbrev pub cancel_keepalive : State → ℕ → Outcome (Result (ℕ × ℕ) TimerFault) ℕ
cancel_keepalive s c = cancel s.keepalive (record_of s c).keepalive

abbrev pub close_timers : State → ℕ → State
close_timers s c = with_keepalive (with_resend s (cancel_resends s c).after) (cancel_keepalive s c).after

abbrev pub close_open : State → ℕ → Step
close_open s c =
    noting (on_resend (cancel_resends s c).events)
    (noting (on_keepalive (cancel_keepalive s c).events)
    (give (action.Closed c) (put (close_timers s c) c (closed (record_of s c)))))

unfoldable pub close_rule : State → ℕ → Step
close_rule s c = on_channel s c (unless (not_open s c) fault.State s (close_open s c))

-- step: an entry is acted on if its owner is a channel and open, and else it is only told of
abbrev pub live : State → ℕ → Bool
live s o = nat_le o 63 && is_open (record_of s o)

abbrev pub live_arrival : State → ℕ → Bool
live_arrival s o = live s o

abbrev pub live_resend : State → ℕ → Bool
live_resend s o = live s o

abbrev pub live_keepalive : State → ℕ → Bool
live_keepalive s o = live s o

-- a packet with a word arrives
abbrev pub acknowledge : State → ℕ → ℕ → Transmitted
acknowledge s o sequence = transmit s o (packet.Acknowledgement sequence)

abbrev pub data_received : State → ℕ → Segment → State → State
data_received s o segment after = put after o (received (record_of s o) segment)

abbrev pub data_acknowledged : State → ℕ → Segment → Step
data_acknowledged s o segment =
    noting (on_wire (acknowledge s o segment.sequence).events)
    (give (action.DataArrived o segment (Some (acknowledge s o segment.sequence).transmission))
    (data_received s o segment (acknowledge s o segment.sequence).after))

abbrev pub data_dropped : State → ℕ → Segment → Step
data_dropped s o segment = give (action.DataArrived o segment None) (data_received s o segment s)

unfoldable pub data_rule : State → ℕ → Segment → Step
data_rule s o segment =
    if acknowledges (record_of s o) segment.sequence then data_acknowledged s o segment else data_dropped s o segment

-- an acknowledgement arrives; only a stopped timer gives a sample
abbrev pub sample_of : Result (ℕ × Attempt) TimerFault → ℕ → Option ℕ
sample_of (Ok found) tick = sample found.1 tick
sample_of (Err f) tick = None

abbrev pub stop_timer : State → ℕ → Outcome (Result (ℕ × Attempt) TimerFault) Attempt
stop_timer s ticket = cancel s.resend ticket

abbrev pub acknowledged : Option ℕ → State → ℕ → ℕ → Step
acknowledged None s o sequence = give (action.AcknowledgementArrived o sequence) (put s o (record_of s o))
acknowledged (Some ticket) s o sequence =
    noting (on_resend (stop_timer s ticket).events)
    (give (action.AcknowledgementArrived o sequence)
    (put (with_resend s (stop_timer s ticket).after) o
    (answered (record_of s o) sequence (sample_of (stop_timer s ticket).answer (tick_of s)))))

unfoldable pub acknowledgement_rule : State → ℕ → ℕ → Step
acknowledgement_rule s o sequence = acknowledged (awaits (record_of s o) sequence) s o sequence

-- a packet arrives
abbrev pub arrive : State → ℕ → Packet → Step
arrive s o (packet.Data segment) = data_rule s o segment
arrive s o (packet.Acknowledgement sequence) = acknowledgement_rule s o sequence
arrive s o (packet.Keepalive sequence) = give (action.KeepaliveArrived o sequence) s

abbrev pub told_arrival : ℕ → Packet → Action
told_arrival o (packet.Data segment) = action.DataArrived o segment None
told_arrival o (packet.Acknowledgement sequence) = action.AcknowledgementArrived o sequence
told_arrival o (packet.Keepalive sequence) = action.KeepaliveArrived o sequence

abbrev pub arrival : State → Expired Packet → Step
arrival s e =
    if live_arrival s e.owner then arrive s e.owner e.payload else give (told_arrival e.owner e.payload) s

-- a word was not acknowledged in time: it is sent again, and its timer starts anew, in another store than the packet's
abbrev pub resend_packet : State → ℕ → Attempt → Transmitted
resend_packet s o a = transmit s o (packet.Data a.segment)

abbrev pub restart_resend : State → ℕ → Attempt → Outcome (Result ℕ TimerFault) Attempt
restart_resend s o a = start_resend s o (again a)

abbrev pub resend_started : State → ℕ → Attempt → ℕ → Step
resend_started s o a ticket =
    noting (on_resend (restart_resend s o a).events)
    (give (action.Resent o a.segment (Some (resend_packet s o a).transmission))
    (put (with_resend (resend_packet s o a).after (restart_resend s o a).after) o
    (resent (record_of s o) a.segment.sequence ticket)))

unfoldable pub resend_rule : State → ℕ → Attempt → Step
resend_rule s o a =
    noting (on_wire (resend_packet s o a).events)
    (or_store Resend (restart_resend s o a).answer (resend_packet s o a).after (resend_started s o a))

abbrev pub resend : State → Expired Attempt → Step
resend s e =
    if live_resend s e.owner then resend_rule s e.owner e.payload else give (action.Resent e.owner e.payload.segment None) s

-- a channel's turn to give a sign of life
abbrev pub beat_packet : State → ℕ → Transmitted
beat_packet s o = transmit s o (packet.Keepalive (record_of s o).next)

abbrev pub beat_started : State → ℕ → ℕ → Step
beat_started s o ticket =
    noting (on_keepalive (start_keepalive s o).events)
    (give
    (action.KeepaliveSent o (Some (record { sequence = (record_of s o).next; transmission = (beat_packet s o).transmission })))
    (put (with_keepalive (beat_packet s o).after (start_keepalive s o).after) o (kept_alive (record_of s o) ticket)))

unfoldable pub beat_rule : State → ℕ → Step
beat_rule s o =
    noting (on_wire (beat_packet s o).events)
    (or_store Keepalive (start_keepalive s o).answer (beat_packet s o).after (beat_started s o))

abbrev pub beat : State → Expired ℕ → Step
beat s e = if live_keepalive s e.owner then beat_rule s e.owner else give (action.KeepaliveSent e.owner None) s

-- nothing was due: the three clocks go on, one after the other; what was done before a refusal stays
abbrev pub advanced_wire : State → State
advanced_wire s = with_wire s (advance_rule s.wire).after

abbrev pub advanced_resend : State → State
advanced_resend s = with_resend s (advance_rule s.resend).after

abbrev pub advanced_keepalive : State → State
advanced_keepalive s = with_keepalive s (advance_rule s.keepalive).after

abbrev pub all_advanced : State → Unit {0} → Step
all_advanced s done = give action.Advanced (advanced_keepalive s)

abbrev pub advance_keepalive : State → Unit {0} → Step
advance_keepalive s done = or_store Keepalive (advance_rule s.keepalive).answer s (all_advanced s)

abbrev pub advance_resend : State → Unit {0} → Step
advance_resend s done =
    or_store Resend (advance_rule s.resend).answer s (advance_keepalive (advanced_resend s))

unfoldable pub tick_rule : State → Step
tick_rule s = or_store Wire (advance_rule s.wire).answer s (advance_resend (advanced_wire s))

-- the first that is due: a packet, a resend timer, a keepalive timer
abbrev pub by_keepalive : Option (Expired ℕ) → State → Step
by_keepalive (Some e) s =
    noting (on_keepalive (take_rule s.keepalive).events) (beat (with_keepalive s (take_rule s.keepalive).after) e)
by_keepalive None s = tick_rule s

abbrev pub by_resend : Option (Expired Attempt) → State → Step
by_resend (Some e) s =
    noting (on_resend (take_rule s.resend).events) (resend (with_resend s (take_rule s.resend).after) e)
by_resend None s = by_keepalive (take_rule s.keepalive).answer s

abbrev pub by_wire : Option (Expired Packet) → State → Step
by_wire (Some e) s =
    noting (on_wire (take_rule s.wire).events) (arrival (with_wire s (take_rule s.wire).after) e)
by_wire None s = by_resend (take_rule s.resend).answer s

abbrev pub moved : State → Step
moved s = by_wire (take_rule s.wire).answer s

abbrev pub any_due : State → Bool
any_due s = due_rule s.wire || (due_rule s.resend || due_rule s.keepalive)

-- nothing is due and the last tick is too near
abbrev pub ending : State → Bool
ending s = not (any_due s) && nat_le (last_of s) (in_ticks s 60000)

unfoldable pub step_rule : State → Step
step_rule s =
    unless (table_short s.table) fault.Table s
    (unless (low s) fault.Spent s (unless (ending s) fault.Ending s (moved s)))

-- a call of the rig, as data
abbrev pub rule : State → Operation → Step
rule s (Open c) = open_rule s c
rule s (Send c word) = send_rule s c word
rule s (Take c) = receive_rule s c
rule s (Close c) = close_rule s c
rule s StepOn = step_rule s

-- a list of calls, from the first on
abbrev pub answers_of : State → List Operation → List (Result Action RigFault)
answers_of s [] = []
answers_of s (x ∷ xs) = (rule s x).answer ∷ answers_of (rule s x).after xs

abbrev pub state_after : State → List Operation → State
state_after s [] = s
state_after s (x ∷ xs) = state_after (rule s x).after xs

abbrev pub events_after : State → List Operation → Events
events_after s [] = no_events
events_after s (x ∷ xs) = joined (rule s x).events (events_after (rule s x).after xs)
