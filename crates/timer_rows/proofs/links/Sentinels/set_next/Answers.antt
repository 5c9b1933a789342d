use Rattle.std.proofs.Common.{◌-◌, ◌++◌, map, length, refl, ap, arith}
use Rattle.timer_rows.specs.Rows.{entry_of}
use Rattle.timer_rows.proofs.Columns.{row_write, end_write, column_same}
use Rattle.timer_rows.proofs.Same.{chains_kept}
use Rattle.timer_rows.proofs.links.Sentinels.set_next.Goals as goal

pub returns-then-i-rows : goal.returns-then-i-rows
returns-then-i-rows g c =
    record {
      ons = row_write (λ r. r.next) (λ e. e.head) c.args.rows.now _ c.args.node _ (omega arith);
      backs = ap (λ l. l ++ map (λ e. e.tail) c.args.self.now.ends) (column_same (λ r. r.prev) c.args.rows.now c.args.node _ _ (omega arith) refl);
      contents = column_same entry_of c.args.rows.now c.args.node _ _ (omega arith) refl;
      chains = chains_kept c.args.rows.now c.args.node _ _ (omega arith) refl refl;
    }

pub returns-else-i-rows : goal.returns-else-i-rows
returns-else-i-rows g c =
    record {
      ons = end_write (λ r. r.next) (λ e. e.head) c.args.rows.now c.args.self.now.ends c.args.node _ (omega arith);
      backs = ap (λ l. map (λ r. r.prev) c.args.rows.now ++ l) (column_same (λ e. e.tail) c.args.self.now.ends (c.args.node - length c.args.rows.now) _ _ (omega arith) refl);
      contents = refl;
      chains = (refl, refl);
    }
