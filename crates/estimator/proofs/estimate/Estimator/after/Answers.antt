use Rattle.std.proofs.Common.{◌≡◌, sym, refl, ap, ◌∙◌, subst}
use Rattle.std.proofs.lemmas.List.{take_all}
use Rattle.std.proofs.lemmas.List.Sums.{fold_more}
use Rattle.estimator.specs.Estimate.{rounded, no_sample, sample_rule, after_rule}
use Rattle.estimator.specs.Laws.{Bounded}
use Rattle.estimator.proofs.Bounds.{law, differences}
use Rattle.estimator.proofs.estimate.Estimator.after.Goals as goal

pub loop-ticks-preserved : goal.loop-ticks-preserved
loop-ticks-preserved c =
    let more = fold_more sample_rule no_sample c.args.samples.now c.loop-ticks.ticks-index 0 c.loop-ticks-test.true in
    cc

pub returns : goal.returns
unfolding rounded
returns c =
    let value : c.loop-ticks.estimator ≡ after_rule c.args.samples.now =
    c.loop-ticks.invariant ∙ ap after_rule (take_all c.loop-ticks.ticks-index c.args.samples.now c.loop-ticks-test.false) in
    let l = law c.args.samples.now in
    record { value = value; bounded = subst Bounded (sym value) l.0; exact = value ∙ l.1; law = law; differences = differences; examples = (refl, refl, refl, refl) }
