use Rattle.std.proofs.Common.{true, take, vec_items, rules}
use Rattle.protocol.specs.State.{State}
use Rattle.transport.specs.Parts.{state_of as rig_state}
use Rattle.replay.specs.Lent.{Held, held}
use Rattle.replay.specs.Outcome.{first_state}
use Rattle.replay.specs.Playing.{playing_state}
use Rattle.replay.proofs.Ending.{begun_state, first_sound, first_begun, first_ready, from_first, played}
use Rattle.replay.proofs.run.run.Goals as goal

pub invariant_of-playing : goal.invariant_of-playing
invariant_of-playing g c =
    let l : Held = held g.W.Store g.R.Store g.K.Store c.args.lent.now in
    let sound = first_sound g.W.Store g.R.Store g.K.Store c.args.draft c.args.lent.now in
    let b = c.in_ok-rig.ensures in
    record { ready = ∣ first_ready c.args.draft l c.in_ok-rig.rig c.begin.new.table b.1 b.2 b.0 sound ∣₁ }

pub returns-clause-outcome : goal.returns-clause-outcome
returns-clause-outcome g c =
    let l : Held = held g.W.Store g.R.Store g.K.Store c.args.lent.now in
    let d = c.args.draft in
    let xs = c.args.commands.now in
    let rig = c.in_ok-rig.rig in
    let t = c.begin.new.table in
    let sound = first_sound g.W.Store g.R.Store g.K.Store d c.args.lent.now in
    let b = c.in_ok-rig.ensures in
    let s : State = first_state d l in
    let z : State = rig_state rig l.fates l.wire l.resend l.keepalive (take 64 t) in
    let u : State = playing_state g.W.Store g.R.Store g.K.Store c.play.new.self in
    let ms = vec_items c.play.new.self.notes.now in
    let w = from_first s z (vec_items c.new-notes.result) xs true u ms (begun_state d l rig t b.1 b.2) c.new-notes.ensures.items c.in_ok-play.ensures.went in (
      b.0,
      played s xs u ms _ _ (first_begun d l rig t b.1 b.2 b.0 sound) w
          (search rules) (search rules) (search rules) (search rules)
          (record { wire = search rules; resend = search rules; keepalive = search rules; table = search rules }),
    )
