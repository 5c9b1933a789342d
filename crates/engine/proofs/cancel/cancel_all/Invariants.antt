use Rattle.std.proofs.Common.{◌≡◌, drop}
use Rattle.timer.specs.Frame.{Framed}
use Rattle.protocol.specs.Rules.{all_cancelled}
use Rattle.engine.proofs.cancel.cancel_all.Given as goal

-- the places still to come lead to where all of them lead
abbrev pub invariant-loop-place : goal.invariant-loop-place
invariant-loop-place g l =
    ((all_cancelled (drop l.place-index l.place-items) (g.R.Store.meaning l.resend)).after ≡ (all_cancelled l.place-items (g.R.Store.meaning l.initial.resend)).after)
    × Framed g.R.Store l.initial.resend l.resend
