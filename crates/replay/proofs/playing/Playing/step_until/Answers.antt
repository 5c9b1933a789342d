use Rattle.std.proofs.Common.{◌≡◌, true, false, is_ok, vec_items, sym, ◌∙◌}
use Rattle.protocol.specs.State.{State}
use Rattle.protocol.specs.Rules.{step_rule}
use Rattle.timers_law.specs.Ends.{goes_on}
use Rattle.replay.specs.Playing.{playing_state}
use Rattle.replay.proofs.Keeping.{holding_on}
use Rattle.replay.proofs.Readiness.{ready_out}
use Rattle.replay.proofs.Stepping.{ended, refused, accepted, falls}
use Rattle.replay.proofs.playing.Playing.step_until.Goals as goal

pub returns-then-not-branch-clause-went : goal.returns-then-not-branch-clause-went
returns-then-not-branch-clause-went g c =
    let s : State = playing_state g.W.Store g.R.Store g.K.Store c.args.self.now in
    let t : State = playing_state g.W.Store g.R.Store g.K.Store c.loop-self.self in
    let u : State = playing_state g.W.Store g.R.Store g.K.Store c.step_once.new.self in
    let k = c.in_ok-step_once.ensures.cases in
    let on : goes_on t c.args.tick ≡ true = sym c.goes_on.ensures ∙ c.loop-self-test.true in
    let no' : is_ok (step_rule t).answer ≡ false = sym k.0 ∙ c.if-not-branch.true in
    refused s (vec_items c.args.self.now.notes.now) c.args.tick t (vec_items c.loop-self.self.notes.now) c.loop-self.invariant.0 u (vec_items c.step_once.new.self.notes.now) on k.1 k.2 no'

pub loop-self-smaller : goal.loop-self-smaller
loop-self-smaller g c =
    let t : State = playing_state g.W.Store g.R.Store g.K.Store c.loop-self.self in
    let u : State = playing_state g.W.Store g.R.Store g.K.Store c.step_once.new.self in
    let k = c.in_ok-step_once.ensures.cases in
    let on : goes_on t c.args.tick ≡ true = sym c.goes_on.ensures ∙ c.loop-self-test.true in
    let ok : is_ok (step_rule t).answer ≡ true = sym k.0 ∙ c.if-not-branch.false in
    falls c.args.tick t u (ready_out t c.loop-self.self.ready) on ok k.1

pub loop-self-preserved : goal.loop-self-preserved
loop-self-preserved g c =
    let s : State = playing_state g.W.Store g.R.Store g.K.Store c.args.self.now in
    let t : State = playing_state g.W.Store g.R.Store g.K.Store c.loop-self.self in
    let u : State = playing_state g.W.Store g.R.Store g.K.Store c.step_once.new.self in
    let i = c.loop-self.invariant in
    let k = c.in_ok-step_once.ensures.cases in
    let on : goes_on t c.args.tick ≡ true = sym c.goes_on.ensures ∙ c.loop-self-test.true in
    let ok : is_ok (step_rule t).answer ≡ true = sym k.0 ∙ c.if-not-branch.false in (
      accepted s (vec_items c.args.self.now.notes.now) c.args.tick t (vec_items c.loop-self.self.notes.now) i.0 u (vec_items c.step_once.new.self.notes.now) on k.1 k.2 (ready_out t c.loop-self.self.ready) ok,
      holding_on g.W.Store g.R.Store g.K.Store c.args.self.now c.loop-self.self c.step_once.new.self i.1 c.step_once.ensures.kept,
    )

pub returns-clause-went : goal.returns-clause-went
returns-clause-went g c =
    let s : State = playing_state g.W.Store g.R.Store g.K.Store c.args.self.now in
    let t : State = playing_state g.W.Store g.R.Store g.K.Store c.loop-self.self in
    let off : goes_on t c.args.tick ≡ false = sym c.goes_on.ensures ∙ c.loop-self-test.false in
    ended s (vec_items c.args.self.now.notes.now) c.args.tick t (vec_items c.loop-self.self.notes.now) c.loop-self.invariant.0 off
