-- What rows and a ledger mean is sound.
use Rattle.std.proofs.Common.{List, length, arith}
use Rattle.std.proofs.lemmas.List.{length-replicate}
use Rattle.timer.specs.Meaning.{Sound}
use Rattle.timer_rows.specs.declared.ledger.Ledger.{Ledger}
use Rattle.timer_rows.specs.declared.row.Row.{Row}
use Rattle.timer_rows.specs.Kept.{Kept}
use Rattle.timer_rows.specs.Rows.{meant}
use Rattle.timer_rows.proofs.Pending.{entries_rising}
use Rattle.timer_rows.proofs.Props.{kept_out}

pub meant_sound : {P : Type 0} (rows : List (Row P)) (l : Ledger) → ∥ Kept rows l ∥₁ → Sound (meant rows l)
meant_sound rows l k =
    let k = kept_out rows l k in
    record {
      clock = k.clock;
      fits = let f = k.fits in omega arith;
      limited = length-replicate 64 (length rows);
      rising = entries_rising rows k.apart;
    }
