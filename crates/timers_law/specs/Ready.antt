-- What holds between two calls of a rig: the clocks agree, and every timer that was taken may start anew.
use Rattle.std.specs.Prelude.{ℕ, ◌+◌, ◌<◌, ◌≤◌, length, slice_index}
use Rattle.std.specs.List.{AllByRecursion}
use Rattle.timer.specs.Meaning.{Meaning, Sound}
use Rattle.timer.specs.Rules.{count}
use Rattle.protocol.specs.State.{State}
use Rattle.protocol.specs.Begin.{Together}

-- a sound store within its capacity and its limits
pub record Within {P : Type 0} (m : Meaning P) : Type 0 where
  pub sound : Sound m
  pub room : length m.pending ≤ m.capacity
  pub allowed : (o : ℕ) → o < 64 → count o m.pending ≤ slice_index m.limits o
  pub known : AllByRecursion (λ e. e.owner < 64) m.pending
  pub issued : AllByRecursion (λ e. e.ticket ≤ m.given) m.pending

pub record Ready (s : State) : Type 0 where
  pub some : 1 ≤ s.interval
  pub most : s.interval ≤ 60000
  pub resend_clock : Together s.wire s.resend
  pub keepalive_clock : Together s.wire s.keepalive
  pub span : s.wire.now + 60000 ≤ s.wire.last
  pub wire : Within s.wire
  pub resend : Within s.resend
  pub keepalive : Within s.keepalive
