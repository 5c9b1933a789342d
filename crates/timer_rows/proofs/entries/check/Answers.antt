use Rattle.std.proofs.Common.{sym, ◌∙◌, arith}
use Rattle.timer.proofs.Checks.{check_past, check_late, check_owner, check_spent, check_full}
use Rattle.timer_rows.specs.Rows.{meant}
use Rattle.timer_rows.proofs.Keeping.{check_none}
use Rattle.timer_rows.proofs.entries.check.Goals as goal

pub returns-then-is_past : goal.returns-then-is_past
returns-then-is_past g c =
    check_past (meant c.args.rows.now c.args.ledger.now) c.args.deadline c.args.owner (sym c.is_past.ensures ∙ c.if-is_past.true)

pub returns-then-is_late : goal.returns-then-is_late
returns-then-is_late g c =
    check_late (meant c.args.rows.now c.args.ledger.now) c.args.deadline c.args.owner (sym c.is_past.ensures ∙ c.if-is_past.false) (sym c.is_late.ensures ∙ c.if-is_late.true)

pub returns-then-owner-gt63 : goal.returns-then-owner-gt63
returns-then-owner-gt63 g c =
    check_owner (meant c.args.rows.now c.args.ledger.now) c.args.deadline c.args.owner (sym c.is_past.ensures ∙ c.if-is_past.false) (sym c.is_late.ensures ∙ c.if-is_late.false) (omega arith)

pub returns-then-is_spent : goal.returns-then-is_spent
returns-then-is_spent g c =
    check_spent (meant c.args.rows.now c.args.ledger.now) c.args.deadline c.args.owner (sym c.is_past.ensures ∙ c.if-is_past.false) (sym c.is_late.ensures ∙ c.if-is_late.false) (omega arith) (sym c.is_spent.ensures ∙ c.if-is_spent.true)

pub returns-then-from-rows : goal.returns-then-from-rows
returns-then-from-rows g c =
    check_full (meant c.args.rows.now c.args.ledger.now) c.args.deadline c.args.owner (sym c.is_past.ensures ∙ c.if-is_past.false) (sym c.is_late.ensures ∙ c.if-is_late.false) (omega arith) (sym c.is_spent.ensures ∙ c.if-is_spent.false) (sym c.requires.sized ∙ sym c.from.ensures ∙ c.if-from-rows.true)

pub returns-else-from-rows : goal.returns-else-from-rows
returns-else-from-rows g c =
    check_none c.args.rows.now c.args.ledger.now c.requires c.args.deadline c.args.owner (sym c.is_past.ensures ∙ c.if-is_past.false) (sym c.is_late.ensures ∙ c.if-is_late.false) (omega arith) (sym c.is_spent.ensures ∙ c.if-is_spent.false) (λ e. c.if-from-rows.false (c.from.ensures ∙ e))
