use Rattle.replay.specs.Lent.{Held, held}
use Rattle.replay.proofs.Pairs.{indistinguishable}
use Rattle.replay.proofs.pair.run_pair.Goals as goal

pub returns-clause-alike : goal.returns-clause-alike
returns-clause-alike g c =
    let l : Held = held g.W.Store g.R.Store g.K.Store c.args.lent.now in
    let m : Held = held g.X.Store g.S.Store g.L.Store c.args.other.now in
    let n : Held = held g.W.Store g.R.Store g.K.Store c.run-first.new.lent in
    let h : Held = held g.X.Store g.S.Store g.L.Store c.run-second.new.lent in
    indistinguishable c.args.draft c.args.other_draft c.args.commands.now l m c.run-first.result c.run-second.result n h c.run-first.ensures.outcome c.run-second.ensures.outcome
