use Rattle.std.proofs.Common.{◌≡◌, drop}
use Rattle.timer.specs.Frame.{Framed}
use Rattle.timer.specs.History.{ends}
use Rattle.timer.proofs.history.play.Given as goal

-- the calls still to come lead to where all of them lead
abbrev pub invariant-loop-call : goal.invariant-loop-call
invariant-loop-call g l =
    (ends (g.S.Store.meaning l.store) (drop l.call-index l.calls) ≡ ends (g.S.Store.meaning l.initial.store) l.calls)
    × Framed g.S.Store l.initial.store l.store
