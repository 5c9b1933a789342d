-- What happens to a ledger when an entry comes or goes, and when the tick goes on.
use Rattle.std.specs.Prelude.{ℕ, ◌+◌, ◌-◌, slice_index, slice_set}
use Rattle.timer_rows.specs.declared.ledger.Ledger.{Ledger}

abbrev pub raised : Ledger → ℕ → ℕ → Ledger
raised l o x =
    record l { given = l.given + 1; pending = l.pending + 1; vacant = x; counts = slice_set l.counts o (slice_index l.counts o + 1) }

abbrev pub lowered : Ledger → ℕ → ℕ → Ledger
lowered l o x =
    record l { pending = l.pending - 1; vacant = x; counts = slice_set l.counts o (slice_index l.counts o - 1) }

abbrev pub ticked_ledger : Ledger → Ledger
ticked_ledger l = record l { now = l.now + 1 }
