use Rattle.std.proofs.Common.{◌≡◌, ◌-◌}
use Rattle.timer_rows.specs.Buckets.{chains, along}
use Rattle.timer_rows.proofs.buckets.previous.Given as goal

abbrev pub invariant-loop : goal.invariant-loop
invariant-loop g l =
    along (64 - l.counter) (chains l.rows) (chains l.rows) l.node l.x ≡ along 64 (chains l.rows) (chains l.rows) l.first l.x
