-- A short session, call by call.
use Rattle.std.specs.Prelude.{◌≡◌, ℕ, [], ◌∷◌, replicate, Some, None, Ok, Err}
use Rattle.timer.specs.Meaning.{Meaning}
use Rattle.trace.specs.declared.action.Action.TheVariants.{Opened, Sent, Taken, Closed, DataArrived, AcknowledgementArrived, Resent, KeepaliveSent, Advanced}
use Rattle.trace.specs.declared.action.Segment.{Segment}
use Rattle.trace.specs.declared.action.Transmission.{Transmission}
use Rattle.trace.specs.declared.fault.RigFault.TheVariants as fault
use Rattle.protocol.specs.State.{State, state, begun}
use Rattle.protocol.specs.declared.operation.Operation.TheVariants.{Open, Send, Take, Close, Step}
use Rattle.protocol.specs.Rules.{answers_of, state_after}

-- a store of eight rows at tick 0
abbrev pub small : {P : Type 0} → Meaning P
small = record { now = 0; last = 100000; capacity = 8; limits = replicate 64 8; given = 0; pending = [] }

-- the same store at another tick
abbrev pub at_tick : {P : Type 0} → ℕ → Meaning P → Meaning P
at_tick tick m =
    record { now = tick; last = m.last; capacity = m.capacity; limits = m.limits; given = m.given; pending = m.pending }

abbrev pub later : ℕ → State → State
later tick s =
    state s s.packets (at_tick tick s.wire) (at_tick tick s.resend) (at_tick tick s.keepalive) s.table

-- every packet arrives after one tick
abbrev pub session : State
session = begun 30000 (λ n. 1) small small small

abbrev pub segment : ℕ → ℕ → Segment
segment sequence word = record { sequence = sequence; word = word }

abbrev pub arriving : ℕ → Transmission
arriving number = record { packet = number; delay = 1; copies = 1 }

-- a link that loses every packet, with one word on its way
abbrev pub losing : State
losing = begun 1000 (λ n. 32768) small small small

abbrev pub lost : ℕ → Transmission
lost number = record { packet = number; delay = 0; copies = 0 }

-- a word goes to the other end and its acknowledgement comes back; what is closed stays closed
abbrev pub AnsweredWord : Type 0
AnsweredWord =
    answers_of session
    (Open 0 ∷ Open 0 ∷ Open 64 ∷ Send 0 77 ∷ Take 0 ∷ Step ∷ Step ∷ Take 0 ∷ Step ∷ Step ∷ Close 0 ∷ Send 0 78 ∷ [])
    ≡ Ok (Opened 0)
    ∷ Err fault.State
    ∷ Err fault.Channel
    ∷ Ok (Sent 0 (segment 0 77) (arriving 0))
    ∷ Ok (Taken 0 None)
    ∷ Ok Advanced
    ∷ Ok (DataArrived 0 (segment 0 77) (Some (arriving 1)))
    ∷ Ok (Taken 0 (Some (segment 0 77)))
    ∷ Ok Advanced
    ∷ Ok (AcknowledgementArrived 0 0)
    ∷ Ok (Closed 0)
    ∷ Err fault.State
    ∷ []

-- after 1,000 ticks the word is sent again, and then the channel gives a sign of life
abbrev pub LostWord : Type 0
LostWord =
    answers_of (later 1000 (state_after losing (Open 5 ∷ Send 5 77 ∷ []))) (Step ∷ Step ∷ Step ∷ [])
    ≡ Ok (Resent 5 (segment 0 77) (Some (lost 1)))
    ∷ Ok (KeepaliveSent 5 (Some (record { sequence = 1; transmission = lost 2 })))
    ∷ Ok Advanced
    ∷ []

abbrev pub Examples : Type 0
Examples = AnsweredWord × LostWord
