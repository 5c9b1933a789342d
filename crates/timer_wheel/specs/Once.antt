-- That the entries lie in their slots can hold in one way only.
use Rattle.std.specs.Prelude.{List}
use Rattle.std.proofs.Math.Nat.{ℕ_set}
use Rattle.timer_rows.specs.declared.ends.Ends.{Ends}
use Rattle.timer_rows.specs.declared.ledger.Ledger.{Ledger}
use Rattle.timer_rows.specs.declared.row.Row.{Row}
use Rattle.timer_rows.proofs.Props.{slots_prop}
use Rattle.timer_wheel.specs.Placed.{place_at, key, Placed}

pub placed_once : {P : Type 0} (rows : List (Row P)) (l : Ledger) (es : List Ends) → IsProp (Placed rows l es)
placed_once rows l es p q i =
    record {
      slots = slots_prop (place_at l.now) key rows es 256 p.slots q.slots i;
      last = ℕ_set l.last 16777215 p.last q.last i;
    }
