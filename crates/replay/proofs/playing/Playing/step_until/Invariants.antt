use Rattle.std.proofs.Common.{vec_items}
use Rattle.protocol.specs.State.{State}
use Rattle.timers_law.specs.Ends.{measure}
use Rattle.session.specs.Run.{steps_until}
use Rattle.session.specs.Progress.{Underway}
use Rattle.replay.specs.Playing.{Holding, playing_state}
use Rattle.replay.proofs.playing.Playing.step_until.Given as goal

-- the steps that are still to make are those from the state that was reached
abbrev pub invariant-loop-self : goal.invariant-loop-self
invariant-loop-self g l =
    let s : State = playing_state g.W.Store g.R.Store g.K.Store l.initial.self in
    let t : State = playing_state g.W.Store g.R.Store g.K.Store l.self in
    Underway s (vec_items l.initial.self.notes.now) (steps_until s l.tick) (steps_until t l.tick) t (vec_items l.self.notes.now)
    × Holding g.W.Store g.R.Store g.K.Store l.initial.self l.self

abbrev pub decreases-loop-self : goal.decreases-loop-self
decreases-loop-self g l = measure (playing_state g.W.Store g.R.Store g.K.Store l.self) l.tick
