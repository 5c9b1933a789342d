use Rattle.std.proofs.Common.{◌∙◌}
use Rattle.std.proofs.lemmas.Bool.{ltb-true, ltb-false}
use Rattle.timer_order.proofs.Dues.{asked}
use Rattle.timer_wheel.proofs.Dues.{slot_empty, slot_first}
use Rattle.timer_wheel.proofs.wheel.WheelOrderOrder.first_due.Goals as goal

pub returns : goal.returns
returns g c =
    let rows = c.args.rows.now in
    let l = c.args.ledger.now in
    let x = c.from-x.result in
    let is = c.from-x.ensures ∙ c.first.ensures in
    rw c.then_some.ensures (
    asked rows l.now x _
    (λ e. slot_first rows l c.args.self.now.slots.ends c.requires.kept c.requires.held x is (ltb-true _ _ e))
    (λ e. slot_empty rows l c.args.self.now.slots.ends c.requires.kept c.requires.held x is (ltb-false _ _ e))
    )
