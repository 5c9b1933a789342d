use Rattle.std.proofs.Common.{◌<◌, sym, ◌∙◌, arith}
use Rattle.std.proofs.lemmas.Bool.{eqb-true, eqb-false}
use Rattle.timer_rows.proofs.Cells.{read_deadline}
use Rattle.timer_order.proofs.Dues.{asked}
use Rattle.timer_heap.proofs.Changes.{top_row, top_due, top_later}
use Rattle.timer_heap.proofs.heap.HeapOrderOrder.first_due.Goals as goal

pub returns : goal.returns
returns g c =
    let ne = c.if-ledger-eq0.false in
    let rows = c.args.rows.now in
    let x = c.row_at-x.result in
    let some : 0 < c.args.ledger.now.pending = omega arith in
    let l = (top_row rows c.args.ledger.now c.requires.kept c.requires.held x some c.row_at-x.ensures).1 in
    let d = read_deadline rows x c.index-rows-x.result c.index-rows-x.is l in
    rw c.then_some.ensures (
    asked rows c.args.ledger.now.now x c.is_due.result
    (λ e. top_due rows c.args.ledger.now c.requires.kept c.requires.held x some c.row_at-x.ensures (d ∙ eqb-true _ _ (sym c.is_due.ensures ∙ e)))
    (λ e. top_later rows c.args.ledger.now c.requires.kept c.requires.held x some c.row_at-x.ensures (λ q. eqb-false _ _ (sym c.is_due.ensures ∙ e) (sym d ∙ q)))
    )
