use Rattle.std.proofs.Common.{◌≡◌, ℕ, ◌+◌, ◌<◌, length, get_or}
use Rattle.timer_rows.proofs.links.Sentinels.empty.Given as goal

abbrev pub invariant-loop-s : goal.invariant-loop-s
invariant-loop-s g l =
    (length l.end-items ≡ g.row.N)
    × ((k : ℕ) → k < l.s → get_or l.end-items k (record { head = 0; tail = 0 }) ≡ record { head = l.rows + k; tail = l.rows + k })
