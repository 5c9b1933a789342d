use Rattle.std.proofs.Common.{refl, arith}
use Rattle.std.proofs.lemmas.List.{map-set}
use Rattle.timer_rows.specs.Rows.{entry_of}
use Rattle.timer_rows.proofs.Columns.{column_same}
use Rattle.timer_rows.proofs.Same.{links_kept}
use Rattle.timer_rows.proofs.buckets.set_bucket.Goals as goal

pub returns : goal.returns
returns g c =
    record {
      chains = (map-set (λ r. r.bucket) c.args.rows.now c.args.x _, column_same (λ r. r.chain) c.args.rows.now c.args.x _ _ (omega arith) refl);
      contents = column_same entry_of c.args.rows.now c.args.x _ _ (omega arith) refl;
      links = links_kept c.args.rows.now c.args.x _ _ (omega arith) refl refl;
    }
