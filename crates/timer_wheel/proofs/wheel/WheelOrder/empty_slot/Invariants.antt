use Rattle.std.proofs.Common.{◌≡◌, ℕ, ◌+◌, ◌-◌, length, get_or}
use Rattle.timer_rows.specs.Links.{ons}
use Rattle.timer_rows.specs.Rows.{tickets, contents}
use Rattle.timer_wheel.specs.Place.{cascade_place_of}
use Rattle.timer_wheel.specs.Emptying.{Midway}
use Rattle.timer_wheel.proofs.wheel.WheelOrder.empty_slot.Given as goal

abbrev pub invariant-loop-x : goal.invariant-loop-x
invariant-loop-x g l =
    (k : ℕ)
    × (Midway l.tick k l.rows l.self.slots.ends)
    × (contents l.rows ≡ contents l.initial.rows)
    × (l.x ≡ get_or (ons l.rows l.self.slots.ends) (length l.rows + cascade_place_of (l.tick + 1)) 0)

-- the tickets at the front rise, up to a number above all of them
abbrev pub decreases-loop-x : goal.decreases-loop-x
decreases-loop-x g l = 4294967296 - get_or (tickets l.rows) l.x 4294967296
