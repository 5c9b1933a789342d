-- What the playing of one rig comes to.
use Rattle.std.specs.Prelude.{◌≡◌, List, ◌++◌, length, take, Some, None, Ok, Err, vec_items, Option, Result}
use Rattle.trace.specs.declared.fault.RigFault.{RigFault}
use Rattle.protocol.specs.State.{State, tick_of, begun}
use Rattle.protocol.specs.Begin.{Begun, begin_check}
use Rattle.transport.specs.declared.rig.Draft.{Draft}
use Rattle.transport.specs.Parts.{fates_of}
use Rattle.session.specs.declared.command.Call.{Call}
use Rattle.session.specs.declared.command.Command.{Command}
use Rattle.session.specs.Law.{Law}
use Rattle.session.specs.Run.{calls_of, notes_of, ends}
use Rattle.session.specs.Text.{session_text}
use Rattle.replay.specs.Lent.{Held}
use Rattle.replay.specs.declared.outcome.Session.{Session}
use Rattle.replay.specs.declared.outcome.Stopped.{Stopped}
use Rattle.replay.specs.declared.outcome.Stopped.TheVariants.{Begin, Memory}

-- the state in which a draft begins over what it is lent
abbrev pub first_state : Draft → Held → State
first_state d l = begun d.interval (fates_of l.fates d.fates d.delay) l.wire l.resend l.keepalive

-- the refusal that applies to a draft over what it is lent
abbrev pub refusal : Draft → Held → Option RigFault
refusal d l = begin_check d.delay d.interval l.wire l.resend l.keepalive (length l.table)

-- what is lent holds the stores and the records of a state
pub record Holds (s : State) (l : Held) : Type 0 where
  pub wire : l.wire ≡ s.wire
  pub resend : l.resend ≡ s.resend
  pub keepalive : l.keepalive ≡ s.keepalive
  pub table : take 64 l.table ≡ s.table

-- all commands were played from a state in which a session begins: the notes are those of their calls, the text is that of the notes, and the laws hold
pub record Played (s : State) (commands : List Command) (session : Session) (after : Held) : Type 0 where
  pub begins : Begun s
  pub notes : vec_items session.notes ≡ notes_of s (calls_of s commands)
  pub tick : session.finished.tick ≡ tick_of (ends s (calls_of s commands))
  pub packets : session.finished.packets ≡ (ends s (calls_of s commands)).packets
  pub text : vec_items session.text ≡ session_text (notes_of s (calls_of s commands)) (tick_of (ends s (calls_of s commands))) (ends s (calls_of s commands)).packets
  pub leaves : Holds (ends s (calls_of s commands)) after
  pub law : Law s (calls_of s commands)

-- memory ran out after some of the calls
pub record Broken (s : State) (commands : List Command) (after : Held) : Type 0 where
  pub done : List Call
  pub left : List Call
  pub whole : calls_of s commands ≡ done ++ left
  pub leaves : Holds (ends s done) after

-- by the refusal that applies to the draft
abbrev pub Outcome : Draft → List Command → Held → Result Session Stopped → Held → Type 0
Outcome d commands before (Ok session) after =
    (refusal d before ≡ None) × Played (first_state d before) commands session after
Outcome d commands before (Err (Begin e)) after =
    (refusal d before ≡ Some e.fault) × (e.draft ≡ d) × (after ≡ before)
Outcome d commands before (Err Memory) after =
    (refusal d before ≡ None) × Broken (first_state d before) commands after
