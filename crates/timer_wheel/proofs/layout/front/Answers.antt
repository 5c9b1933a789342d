use Rattle.std.proofs.Common.{ap, ◌∙◌}
use mathlib.Core.Logic.{∥∥₁_elim}
use Rattle.timer_rows.specs.Rows.{used}
use Rattle.timer_rows.specs.Walks.{first_ticket}
use Rattle.timer_rows.proofs.Props.{kept_out}
use Rattle.timer_wheel.specs.Once.{placed_once}
use Rattle.timer_wheel.specs.Placed.{place_at, key}
use Rattle.timer_wheel.proofs.Layouts.{read_slots, read_lying, there, layout}
use Rattle.timer_wheel.proofs.layout.front.Goals as goal

pub returns-then-slot-lt-SLOTS-clause-front : goal.returns-then-slot-lt-SLOTS-clause-front
returns-then-slot-lt-SLOTS-clause-front g c =
    let w = c.args.wheel.now in
    let rows = used w.rows.now in
    let es = w.order.slots.ends in
    let k = kept_out rows w.ledger w.kept in
    let h = ∥∥₁_elim w.held (placed_once rows w.ledger es) (λ q. q) in
    let ends = ap (λ o. o.slots.ends) c.order.ensures in
    c.front.ensures (place_at w.ledger.now) key (read_slots rows w.ledger es k h c.rows.result.now _ c.rows.ensures ends)
    ∙ ap first_ticket (read_lying rows w.ledger es k h c.rows.result.now _ c.rows.ensures ends c.args.level c.args.slot c.if-slot-lt-SLOTS.true)
    ∙ there c.args.level c.args.slot _ _ c.if-level-lt-LEVELS.true c.if-slot-lt-SLOTS.true

pub returns-then-slot-lt-SLOTS-clause-layout : goal.returns-then-slot-lt-SLOTS-clause-layout
returns-then-slot-lt-SLOTS-clause-layout g c =
    let w = c.args.wheel.now in
    let rows = used w.rows.now in
    let es = w.order.slots.ends in
    layout rows w.ledger es (kept_out rows w.ledger w.kept) (∥∥₁_elim w.held (placed_once rows w.ledger es) (λ q. q))

pub returns-else-level-lt-LEVELS-clause-layout : goal.returns-else-level-lt-LEVELS-clause-layout
returns-else-level-lt-LEVELS-clause-layout g c =
    let w = c.args.wheel.now in
    let rows = used w.rows.now in
    let es = w.order.slots.ends in
    layout rows w.ledger es (kept_out rows w.ledger w.kept) (∥∥₁_elim w.held (placed_once rows w.ledger es) (λ q. q))
