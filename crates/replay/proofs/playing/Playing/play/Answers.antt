use Rattle.std.proofs.Common.{Bool, vec_items, sym, subst}
use Rattle.protocol.specs.State.{State}
use Rattle.session.specs.Run.{calls_of}
use Rattle.session.specs.Progress.{Went}
use Rattle.session.proofs.Going.{underway_none}
use Rattle.replay.specs.Playing.{playing_state}
use Rattle.replay.proofs.Commands.{not_well, command_played, command_broken, all_played}
use Rattle.replay.proofs.Keeping.{holding_still, holding_on}
use Rattle.replay.proofs.playing.Playing.play.Goals as goal

pub loop-command-init : goal.loop-command-init
loop-command-init g c =
    let s : State = playing_state g.W.Store g.R.Store g.K.Store c.args.self.now in
    (underway_none s (vec_items c.args.self.now.notes.now) (calls_of s c.args.commands.now), holding_still g.W.Store g.R.Store g.K.Store c.args.self.now)

pub returns-in_err-carry_out : goal.returns-in_err-carry_out
returns-in_err-carry_out g c =
    let s : State = playing_state g.W.Store g.R.Store g.K.Store c.args.self.now in
    let t : State = playing_state g.W.Store g.R.Store g.K.Store c.loop-command.self in
    let u : State = playing_state g.W.Store g.R.Store g.K.Store c.carry_out.new.self in
    let i = c.loop-command.invariant in
    let w = command_broken s (vec_items c.args.self.now.notes.now) c.args.commands.now c.loop-command.command-index _ t (vec_items c.loop-command.self.notes.now) u (vec_items c.carry_out.new.self.notes.now) i.0 c.loop-command-test.true c.in_err-carry_out.ensures.went in
    record {
      went = subst (λ (b : Bool). Went s (vec_items c.args.self.now.notes.now) (calls_of s c.args.commands.now) b u (vec_items c.carry_out.new.self.notes.now)) (sym (not_well c.from_residual.result c.from_residual.ensures.0)) w;
      kept = holding_on g.W.Store g.R.Store g.K.Store c.args.self.now c.loop-command.self c.carry_out.new.self i.1 c.carry_out.ensures.kept;
    }

pub loop-command-preserved : goal.loop-command-preserved
loop-command-preserved g c =
    let s : State = playing_state g.W.Store g.R.Store g.K.Store c.args.self.now in
    let t : State = playing_state g.W.Store g.R.Store g.K.Store c.loop-command.self in
    let u : State = playing_state g.W.Store g.R.Store g.K.Store c.carry_out.new.self in
    let i = c.loop-command.invariant in (
      command_played s (vec_items c.args.self.now.notes.now) c.args.commands.now c.loop-command.command-index _ t (vec_items c.loop-command.self.notes.now) u (vec_items c.carry_out.new.self.notes.now) i.0 c.loop-command-test.true c.in_ok-carry_out.ensures.went,
      holding_on g.W.Store g.R.Store g.K.Store c.args.self.now c.loop-command.self c.carry_out.new.self i.1 c.carry_out.ensures.kept,
    )

pub returns-clause-went : goal.returns-clause-went
returns-clause-went g c =
    let s : State = playing_state g.W.Store g.R.Store g.K.Store c.args.self.now in
    let t : State = playing_state g.W.Store g.R.Store g.K.Store c.loop-command.self in
    all_played s (vec_items c.args.self.now.notes.now) c.args.commands.now c.loop-command.command-index t (vec_items c.loop-command.self.notes.now) c.loop-command.invariant.0 c.loop-command-test.false
