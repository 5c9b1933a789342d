-- Where the pending entries of a wheel lie.
use Rattle.std.specs.Prelude.{ℕ, ◌+◌, ◌*◌, ◌<◌, Bool, ◌&&◌, List, ◌==◌}
use Rattle.std.specs.List.{All, filter}
use Rattle.timer.specs.Meaning.{Entry}
use Rattle.timer_rows.specs.declared.row.Row.{Row}
use Rattle.timer_rows.specs.declared.ends.Ends.{Ends}
use Rattle.timer_rows.specs.Rows.{entries}
use Rattle.timer_rows.specs.Walks.{Meets}
use Rattle.timer_wheel.specs.Place.{digit, level, Highest}

-- an entry with this deadline lies on level k in slot s
abbrev pub lies : ℕ → ℕ → ℕ → ℕ → Bool
lies tick k s deadline = (level tick deadline == k) && (digit k deadline == s)

-- the entries that do
abbrev pub lying : {P : Type 0} → ℕ → ℕ → ℕ → List (Entry P) → List (Entry P)
lying tick k s es = filter (λ e. lies tick k s e.deadline) es

-- the wheel at a tick: the level of a pending entry is that of the topmost digit where deadline and tick disagree, and 0 where
-- it is due; a walk along the slot s of level k meets the entries of that level whose deadlines have that digit
-- there, in the order of their tickets, and a walk back meets them in the opposite one
pub record Layout {P : Type 0} (tick : ℕ) (rows : List (Row P)) (es : List Ends) : Type 0 where
  pub levels : All (λ e. Highest (level tick e.deadline) tick e.deadline) (entries rows)
  pub walks : (k s : ℕ) → k < 4 → s < 64 → Meets rows es (64 * k + s) (lying tick k s (entries rows))

-- a walk along the slot of each place meets what f has there
abbrev pub Walked : {P : Type 0} → List (Row P) → List Ends → (ℕ → List (Entry P)) → Type 0
Walked rows es f = (p : ℕ) → p < 256 → Meets rows es p (f p)
