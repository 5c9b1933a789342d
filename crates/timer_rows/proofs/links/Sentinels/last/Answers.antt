use Rattle.std.proofs.Common.{◌≡◌, ◌+◌, ◌-◌, ◌<◌, length, get_or, sym, ap, ◌∙◌, arith}
use Rattle.timer_rows.proofs.Columns.{end_link}
use Rattle.timer_rows.proofs.links.Sentinels.last.Goals as goal

pub returns : goal.returns
returns g c =
    let rows = c.args.rows.now in
    let es = c.args.self.now.ends in
    let k : length rows + c.args.slot - length rows ≡ c.args.slot = omega arith in
    let l : length rows + c.args.slot < length rows + length es = omega arith in
    ap (λ i. (get_or es i (record { head = 0; tail = 0 })).tail) (sym k)
    ∙ end_link (λ r. r.prev) (λ e. e.tail) rows es (length rows + c.args.slot) (record { head = 0; tail = 0 }) (omega arith) l
