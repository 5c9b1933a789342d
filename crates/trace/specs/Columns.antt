-- Which columns the line of an action has: letter, channel, sequence number, word, and the packet that was sent.
use Rattle.std.specs.Prelude.{ℕ, Some, None, Option}
use Rattle.trace.specs.declared.action.Segment.{Segment}
use Rattle.trace.specs.declared.action.Transmission.{Transmission}
use Rattle.trace.specs.declared.action.Heartbeat.{Heartbeat}
use Rattle.trace.specs.declared.action.Action.{Action}
use Rattle.trace.specs.declared.action.Action.TheVariants.{Opened, Sent, Taken, Closed, DataArrived, AcknowledgementArrived, KeepaliveArrived, Resent, KeepaliveSent, Advanced}
use Rattle.trace.specs.declared.columns.Columns.{Columns}

abbrev pub bare : ℕ → ℕ → Columns
bare letter channel =
    record { letter = letter; channel = channel; sequence = None; word = None; transmission = None }

abbrev pub numbered : ℕ → ℕ → ℕ → Option Transmission → Columns
numbered letter channel sequence packet =
    record { letter = letter; channel = channel; sequence = Some sequence; word = None; transmission = packet }

abbrev pub spoken : ℕ → ℕ → Segment → Option Transmission → Columns
spoken letter channel s packet =
    record { letter = letter; channel = channel; sequence = Some s.sequence; word = Some s.word; transmission = packet }

-- T: a word that was taken, or none
abbrev pub taking : ℕ → Option Segment → Columns
taking channel (Some s) = spoken 84 channel s None
taking channel None = bare 84 channel

-- H: a sign of life that was sent, or none
abbrev pub beating : ℕ → Option Heartbeat → Columns
beating channel (Some h) = numbered 72 channel h.sequence (Some h.transmission)
beating channel None = bare 72 channel

-- the letters O S T C D A K R H; an advance has no line
abbrev pub columns : Action → Option Columns
columns (Opened channel) = Some (bare 79 channel)
columns (Sent channel segment transmission) = Some (spoken 83 channel segment (Some transmission))
columns (Taken channel segment) = Some (taking channel segment)
columns (Closed channel) = Some (bare 67 channel)
columns (DataArrived channel segment acknowledgement) = Some (spoken 68 channel segment acknowledgement)
columns (AcknowledgementArrived channel sequence) = Some (numbered 65 channel sequence None)
columns (KeepaliveArrived channel sequence) = Some (numbered 75 channel sequence None)
columns (Resent channel segment transmission) = Some (spoken 82 channel segment transmission)
columns (KeepaliveSent channel heartbeat) = Some (beating channel heartbeat)
columns Advanced = None
