use mathlib.Core.Logic.{∥∥₁_elim}
use Rattle.timer_rows.specs.Rows.{used}
use Rattle.timer_rows.proofs.Props.{kept_out}
use Rattle.timer_wheel.specs.Once.{placed_once}
use Rattle.timer_wheel.proofs.Layouts.{walked, advanced_walked}
use Rattle.timer_wheel.proofs.layout.advance.Goals as goal

pub returns-clause-before : goal.returns-clause-before
returns-clause-before g c =
    let w = c.args.wheel.now in
    let rows = used w.rows.now in
    let es = w.order.slots.ends in
    walked rows w.ledger es (kept_out rows w.ledger w.kept) (∥∥₁_elim w.held (placed_once rows w.ledger es) (λ q. q))

pub returns-clause-cascade : goal.returns-clause-cascade
returns-clause-cascade g c =
    let w = c.args.wheel.now in
    let v = c.advance.new.self in
    let rows = used v.rows.now in
    let es = v.order.slots.ends in
    advanced_walked (used w.rows.now) rows w.ledger v.ledger es c.advance.result (kept_out rows v.ledger v.kept) (∥∥₁_elim v.held (placed_once rows v.ledger es) (λ q. q)) c.advance.ensures.answer c.advance.ensures.after
