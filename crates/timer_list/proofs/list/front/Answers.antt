use Rattle.std.proofs.Common.{ap, ◌∙◌}
use mathlib.Core.Logic.{∥∥₁_elim}
use Rattle.timer_rows.specs.Rows.{used}
use Rattle.timer_rows.specs.Walks.{first_ticket}
use Rattle.timer_rows.proofs.Props.{kept_out, slots_prop}
use Rattle.timer_list.specs.Sorted.{slot, key}
use Rattle.timer_list.proofs.Lists.{read_sorted, read_list, list_met}
use Rattle.timer_list.proofs.list.front.Goals as goal

pub returns : goal.returns
returns g c =
    let l = c.args.list.now in
    let rows = used l.rows.now in
    let es = l.order.slots.ends in
    let k = kept_out rows l.ledger l.kept in
    let held = ∥∥₁_elim l.held (slots_prop slot key rows es 1) (λ q. q) in
    let ends = ap (λ o. o.slots.ends) c.order.ensures in
    record {
      front = c.front.ensures slot key (read_sorted rows l.ledger es k _ _ c.rows.ensures ends held) ∙ ap first_ticket (read_list rows l.ledger es k _ _ c.rows.ensures ends);
      walk = list_met rows l.ledger es k held;
    }
