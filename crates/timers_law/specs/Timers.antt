-- The timers of all three stores obey the laws of a history.
use Rattle.std.specs.Prelude.{List}
use Rattle.timer.specs.History.{Lawful}
use Rattle.protocol.specs.State.{State}
use Rattle.protocol.specs.Begin.{Begun}
use Rattle.protocol.specs.Rules.{Events, state_after, events_after}
use Rattle.protocol.specs.declared.operation.Operation.{Operation}

pub record Lawfuls (s : State) (es : Events) : Type 0 where
  pub wire : Lawful s.wire es.wire
  pub resend : Lawful s.resend es.resend
  pub keepalive : Lawful s.keepalive es.keepalive

abbrev pub Timers : Type 0
Timers = (s : State) → Begun s → (ops : List Operation) → Lawfuls (state_after s ops) (events_after s ops)
