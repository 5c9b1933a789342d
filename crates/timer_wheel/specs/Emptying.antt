-- The wheel while a slot is emptied.
use Rattle.std.specs.Prelude.{◌≡◌, ℕ, ◌+◌, ◌<◌, ◌≤◌, if◌then◌else◌, ◌≢◌, List, length, nat_lt, slice_index}
use Rattle.timer.specs.Meaning.{Entry}
use Rattle.timer_rows.specs.declared.row.Row.{Row}
use Rattle.timer_rows.specs.declared.ends.Ends.{Ends}
use Rattle.timer_rows.specs.Rows.{tickets, deadlines}
use Rattle.timer_rows.specs.Slots.{Slots}
use Rattle.timer_wheel.specs.Placed.{place_at, key}

-- what the rows hold as the tick ends: nothing is due any more
pub record Waiting {P : Type 0} (tick : ℕ) (rows : List (Row P)) : Type 0 where
  pub few : length rows ≤ 4096
  pub apart : (i j : ℕ) → slice_index (tickets rows) i ≢ 0 → slice_index (tickets rows) i ≡ slice_index (tickets rows) j → i ≡ j
  pub small : (i : ℕ) → slice_index (tickets rows) i < 4294967296
  pub later : (i : ℕ) → slice_index (tickets rows) i ≢ 0 → (tick < slice_index (deadlines rows) i) × (slice_index (deadlines rows) i ≤ 16777215)

-- entries with tickets below k lie where the next tick says, and the others still where the tick said
abbrev pub place_midway : {P : Type 0} → ℕ → ℕ → Entry P → ℕ
place_midway tick k e = if nat_lt e.ticket k then place_at (tick + 1) e else place_at tick e

abbrev pub Midway : {P : Type 0} → ℕ → ℕ → List (Row P) → List Ends → Type 0
Midway tick k rows es = Slots (place_midway tick k) key rows es 256
