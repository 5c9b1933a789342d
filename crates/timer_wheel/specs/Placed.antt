-- The slots of a wheel: each is a doubly linked list of the pending entries whose place it is, in the order of their tickets.
use Rattle.std.specs.Prelude.{◌≡◌, ℕ, List}
use Rattle.timer.specs.Meaning.{Entry}
use Rattle.timer_rows.specs.declared.row.Row.{Row}
use Rattle.timer_rows.specs.declared.ledger.Ledger.{Ledger}
use Rattle.timer_rows.specs.declared.ends.Ends.{Ends}
use Rattle.timer_rows.specs.Slots.{Slots}
use Rattle.timer_wheel.specs.Place.{place_of}

-- an entry is for the slot of its place
abbrev pub place_at : {P : Type 0} → ℕ → Entry P → ℕ
place_at tick e = place_of tick e.deadline

-- a slot is sorted by ticket
abbrev pub key : {P : Type 0} → Entry P → ℕ
key e = e.ticket

abbrev pub Slotted : {P : Type 0} → ℕ → List (Row P) → List Ends → Type 0
Slotted tick rows es = Slots (place_at tick) key rows es 256

-- what the wheel keeps true
pub record Placed {P : Type 0} (rows : List (Row P)) (l : Ledger) (es : List Ends) : Type 0 where
  pub slots : Slotted l.now rows es
  pub last : l.last ≡ 16777215
