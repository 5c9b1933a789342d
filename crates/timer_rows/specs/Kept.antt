-- What every store keeps true of its rows and its ledger.
use Rattle.std.specs.Prelude.{◌≡◌, ℕ, ◌^◌, ◌<◌, ◌≤◌, ◌≢◌, List, length, slice_index}
use Rattle.timer.specs.Rules.{count}
use Rattle.timer_rows.specs.declared.row.Row.{Row}
use Rattle.timer_rows.specs.declared.ledger.Ledger.{Ledger}
use Rattle.timer_rows.specs.Rows.{tickets, deadlines, owners, entries}

pub record Kept {P : Type 0} (rows : List (Row P)) (l : Ledger) : Type 0 where
  pub few : length rows ≤ 4096
  -- no two rows have one ticket, and none has one that was not given
  pub apart : (i j : ℕ) → slice_index (tickets rows) i ≢ 0 → slice_index (tickets rows) i ≡ slice_index (tickets rows) j → i ≡ j
  pub issued : (i : ℕ) → slice_index (tickets rows) i ≤ l.given
  pub numbered : l.given < 2 ^ 32
  -- the counts are right
  pub each : length l.counts ≡ 64
  pub sized : l.pending ≡ length (entries rows)
  pub counted : (o : ℕ) → o < 64 → slice_index l.counts o ≡ count o (entries rows)
  pub owned : (i : ℕ) → slice_index (tickets rows) i ≢ 0 → slice_index (owners rows) i < 64
  -- no deadline has passed, and none lies after the last tick
  pub timed : (i : ℕ) → slice_index (tickets rows) i ≢ 0 → (l.now ≤ slice_index (deadlines rows) i) × (slice_index (deadlines rows) i ≤ l.last)
  pub clock : l.now ≤ l.last
  pub fits : l.last < 2 ^ 32
