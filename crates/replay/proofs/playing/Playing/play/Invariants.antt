use Rattle.std.proofs.Common.{drop, vec_items}
use Rattle.protocol.specs.State.{State}
use Rattle.session.specs.Run.{calls_of}
use Rattle.session.specs.Progress.{Underway}
use Rattle.replay.specs.Playing.{Holding, playing_state}
use Rattle.replay.proofs.playing.Playing.play.Given as goal

-- the calls that are still to make are those of the commands left, from the state that was reached
abbrev pub invariant-loop-command : goal.invariant-loop-command
invariant-loop-command g l =
    let s : State = playing_state g.W.Store g.R.Store g.K.Store l.initial.self in
    let t : State = playing_state g.W.Store g.R.Store g.K.Store l.self in
    Underway s (vec_items l.initial.self.notes.now) (calls_of s l.commands) (calls_of t (drop l.command-index l.commands)) t (vec_items l.self.notes.now)
    × Holding g.W.Store g.R.Store g.K.Store l.initial.self l.self
