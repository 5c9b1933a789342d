use Rattle.std.proofs.Common.{◌≡◌, ◌+◌, ◌-◌, ◌++◌, map, length, set, get_or, sym, refl, ap, ◌∙◌, arith}
use Rattle.timer_rows.specs.declared.ends.Ends.{Ends}
use Rattle.timer_rows.specs.Links.{backs}
use Rattle.timer_rows.proofs.Columns.{end_write, column_same}
use Rattle.timer_rows.proofs.links.Sentinels.set_last.Goals as goal

pub returns : goal.returns
returns g c =
    let rows = c.args.rows.now in
    let es = c.args.self.now.ends in
    let k : length rows + c.args.slot - length rows ≡ c.args.slot = omega arith in
    let e : Ends = record (get_or es c.args.slot (record { head = 0; tail = 0 })) { tail = c.args.to } in
    record {
      ons = ap (λ l. map (λ r. r.next) rows ++ l) (column_same (λ e. e.head) es c.args.slot e _ (omega arith) refl);
      backs = ap (λ i. backs rows (set es i e)) (sym k) ∙ end_write (λ r. r.prev) (λ e. e.tail) rows es (length rows + c.args.slot) e (omega arith);
    }
