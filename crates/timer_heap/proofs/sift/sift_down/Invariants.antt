use Rattle.std.proofs.Common.{◌≡◌, ◌-◌}
use Rattle.timer_rows.specs.Rows.{contents}
use Rattle.timer_heap.specs.Positions.{Sinking}
use Rattle.timer_heap.proofs.sift.sift_down.Given as goal

abbrev pub invariant-loop-child : goal.invariant-loop-child
invariant-loop-child g l = (contents l.rows ≡ contents l.initial.rows) × Sinking l.rows l.i l.count

abbrev pub decreases-loop-child : goal.decreases-loop-child
decreases-loop-child g l = l.count - l.i
