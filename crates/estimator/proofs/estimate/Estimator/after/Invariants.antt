use Rattle.std.proofs.Common.{◌≡◌, take}
use Rattle.estimator.specs.Estimate.{after_rule}
use Rattle.estimator.proofs.estimate.Estimator.after.Given as goal

abbrev pub invariant-loop-ticks : goal.invariant-loop-ticks
invariant-loop-ticks l = l.estimator ≡ after_rule (take l.ticks-index l.samples)
