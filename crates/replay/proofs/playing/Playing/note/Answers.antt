use Rattle.protocol.specs.State.{State}
use Rattle.replay.specs.Lent.{state_of}
use Rattle.replay.specs.Playing.{playing_state}
use Rattle.replay.proofs.Readiness.{performed_ready}
use Rattle.replay.proofs.playing.Playing.note.Goals as goal

pub invariant_of-self-2 : goal.invariant_of-self-2
invariant_of-self-2 g c =
    let s : State = playing_state g.W.Store g.R.Store g.K.Store c.args.self.now in
    let t : State = state_of c.perform-answer.new.rig g.W.Store g.R.Store g.K.Store c.perform-answer.new.lent in
    record { ready = performed_ready s t c.args.call c.perform-answer.result c.args.self.now.ready c.perform-answer.ensures.performed }
