use Rattle.std.proofs.Common.{Bool, true, vec_items, sym, subst}
use Rattle.protocol.specs.State.{State}
use Rattle.session.specs.declared.command.Command.{Command}
use Rattle.session.specs.Run.{unfold_one}
use Rattle.session.specs.Progress.{Went}
use Rattle.replay.specs.Playing.{playing_state}
use Rattle.replay.proofs.Commands.{call_made, nothing_made, not_well}
use Rattle.replay.proofs.playing.Playing.carry_out.Goals as goal

pub returns-in_err-note-in-Call-clause-went : goal.returns-in_err-note-in-Call-clause-went
returns-in_err-note-in-Call-clause-went g c =
    let s : State = playing_state g.W.Store g.R.Store g.K.Store c.args.self.now in
    let u : State = playing_state g.W.Store g.R.Store g.K.Store c.note.new.self in
    let k = c.in_err-note-in-Call.ensures.cases in
    let w = nothing_made s (vec_items c.args.self.now.notes.now) (unfold_one s c.args.command) u (vec_items c.note.new.self.notes.now) k.0 k.1 in
    subst (λ (b : Bool). Went s (vec_items c.args.self.now.notes.now) (unfold_one s c.args.command) b u (vec_items c.note.new.self.notes.now)) (sym (not_well c.from_residual.result c.from_residual.ensures.0)) w

pub returns-in_ok-note-in-Call-clause-went : goal.returns-in_ok-note-in-Call-clause-went
returns-in_ok-note-in-Call-clause-went g c =
    let s : State = playing_state g.W.Store g.R.Store g.K.Store c.args.self.now in
    let u : State = playing_state g.W.Store g.R.Store g.K.Store c.note.new.self in
    let k = c.in_ok-note-in-Call.ensures.cases in
    let w = call_made s (vec_items c.args.self.now.notes.now) c.in-Call.call true u (vec_items c.note.new.self.notes.now) k.1 k.2 in
    subst (λ (x : Command). Went s (vec_items c.args.self.now.notes.now) (unfold_one s x) true u (vec_items c.note.new.self.notes.now)) (sym c.in-Call.is) w
