use Rattle.std.proofs.Common.{◌≡◌, ℕ, ◌+◌, ◌<◌, ◌≤◌, length, get_or}
use Rattle.timer_rows.specs.Buckets.{buckets, chains}
use Rattle.timer_rows.specs.Rows.{tickets}
use Rattle.timer_rows.proofs.entries.clear.Given as goal

abbrev pub invariant-loop-x : goal.invariant-loop-x
invariant-loop-x g l =
    (k : ℕ) → k < l.x → (get_or (tickets l.rows) k 0 ≡ 0) × (get_or (buckets l.rows) k 65535 ≡ 65535) × (length l.rows ≤ 4096 → get_or (chains l.rows) k 0 ≡ k + 1)
