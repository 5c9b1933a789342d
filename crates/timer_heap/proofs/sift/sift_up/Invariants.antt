use Rattle.std.proofs.Common.{◌≡◌, ℕ, ◌≢◌}
use Rattle.timer_rows.specs.Rows.{contents}
use Rattle.timer_heap.specs.Order.{Under}
use Rattle.timer_heap.specs.Positions.{Unsettled, rank_at}
use Rattle.timer_heap.proofs.sift.sift_up.Given as goal

abbrev pub invariant-loop-parent : goal.invariant-loop-parent
invariant-loop-parent g l =
    (contents l.rows ≡ contents l.initial.rows)
    × ((k : ℕ) → Unsettled l.initial.rows l.start k → Unsettled l.rows l.i k × (l.i ≢ l.start → Under (rank_at l.rows) l.i k))

abbrev pub decreases-loop-parent : goal.decreases-loop-parent
decreases-loop-parent g l = l.i
