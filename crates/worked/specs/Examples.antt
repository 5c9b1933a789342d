-- The worked examples of the rules, over the definitions that the contracts of the wheel, the estimator and the link cite.
use Rattle.timer_wheel.specs.Place.{Examples as Places}
use Rattle.estimator.specs.Laws.{Examples as Estimates}
use Rattle.link.specs.Fate.{Examples as Fates}

-- four places in the wheel, four estimates, and two fates that count as one example
abbrev pub Examples : Type 0
Examples = Places × Estimates × Fates
