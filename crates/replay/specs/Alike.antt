-- Rigs that cannot be told apart.
use Rattle.std.specs.Prelude.{◌≡◌, ℕ, Ok, Err, vec_items, Result}
use Rattle.timer.specs.Meaning.{Meaning}
use Rattle.timer.specs.Rules.{limit_rule}
use Rattle.transport.specs.declared.rig.Draft.{Draft}
use Rattle.transport.specs.Parts.{fates_of}
use Rattle.replay.specs.declared.outcome.Session.{Session}
use Rattle.replay.specs.declared.outcome.Stopped.{Stopped}
use Rattle.replay.specs.Lent.{Held}

-- two stores have the same clock, capacity and limits
pub record Same {P : Type 0} (m n : Meaning P) : Type 0 where
  pub now : m.now ≡ n.now
  pub last : m.last ≡ n.last
  pub capacity : m.capacity ≡ n.capacity
  pub limits : (owner : ℕ) → limit_rule m owner ≡ limit_rule n owner

-- two drafts with the same interval and the same fate for every packet, over stores that are the same one by one
pub record Alike (d e : Draft) (l m : Held) : Type 0 where
  pub interval : d.interval ≡ e.interval
  pub fates : (packet : ℕ) → fates_of l.fates d.fates d.delay packet ≡ fates_of m.fates e.fates e.delay packet
  pub wire : Same l.wire m.wire
  pub resend : Same l.resend m.resend
  pub keepalive : Same l.keepalive m.keepalive

-- equal answers in equal ticks, an equal end, equal printed bytes
pub record Indistinguishable (a b : Session) : Type 0 where
  pub notes : vec_items a.notes ≡ vec_items b.notes
  pub finished : a.finished ≡ b.finished
  pub text : vec_items a.text ≡ vec_items b.text

-- said of two rigs that both began and were played to the end
abbrev pub Both : Result Session Stopped → Result Session Stopped → Type 0
Both (Ok a) (Ok b) = Indistinguishable a b
Both (Ok a) (Err f) = Unit {0}
Both (Err e) (Ok b) = Unit {0}
Both (Err e) (Err f) = Unit {0}
