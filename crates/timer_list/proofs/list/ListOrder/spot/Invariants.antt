use Rattle.std.proofs.Common.{◌≡◌, ◌-◌, ◌<◌, ◌≤◌, length, get_or}
use Rattle.timer_rows.specs.Links.{backs, keys_by}
use Rattle.timer_rows.specs.Rows.{deadlines}
use Rattle.timer_rows.specs.Slots.{homes}
use Rattle.timer_list.specs.Sorted.{slot, key, top}
use Rattle.timer_list.proofs.list.ListOrder.spot.Given as goal

abbrev pub invariant-loop-node : goal.invariant-loop-node
invariant-loop-node g l =
    (get_or (homes 1 slot l.rows) l.node 1 ≡ 0)
    × (get_or (backs l.rows l.self.slots.ends) l.node 0 < length l.rows → get_or (deadlines l.rows) (get_or (backs l.rows l.self.slots.ends) l.node 0) 0 ≤ l.deadline)

-- keys rise along the list, up to a number above all of them at its end
abbrev pub decreases-loop-node : goal.decreases-loop-node
decreases-loop-node g l = top l.rows - get_or (keys_by key l.rows) l.node (top l.rows)
