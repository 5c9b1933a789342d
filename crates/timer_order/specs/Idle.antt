-- A store that was just made.
use Rattle.std.specs.Prelude.{◌≡◌, ℕ, min, List, [], length, replicate, slice_index}
use Rattle.timer.specs.Meaning.{Meaning}
use Rattle.timer_rows.specs.declared.ledger.Ledger.{Ledger}
use Rattle.timer_rows.specs.declared.row.Row.{Row}
use Rattle.timer_rows.specs.Kept.{Kept}
use Rattle.timer_rows.specs.Rows.{tickets}

-- what a store of n rows means that has given no ticket
abbrev pub idle : {P : Type 0} → ℕ → ℕ → ℕ → Meaning P
idle first last n =
    record { now = min first last; last = last; capacity = n; limits = replicate 64 n; given = 0; pending = [] }

-- the order o holds of n vacant rows under any clock that ends at the tick last
abbrev pub Starts : {P O : Type 0} → (O → List (Row P) → Ledger → Type 0) → O → ℕ → ℕ → Type 0
Starts {P} Holds o n last =
    (rows : List (Row P)) (l : Ledger)
    → length rows ≡ n
    → ((i : ℕ) → slice_index (tickets rows) i ≡ 0)
    → Kept rows l
    → l.last ≡ last
    → Holds o rows l
