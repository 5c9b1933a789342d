use Rattle.std.proofs.Common.{ℕ, ◌≡◌, ◌<◌, ◌≢◌, List, length, get_or, sym, refl, ap, ◌∙◌, subst, arith}
use mathlib.Core.Logic.{∥∥₁_elim}
use Rattle.timer_rows.specs.declared.ledger.Ledger.{Ledger}
use Rattle.timer_rows.specs.declared.row.Row.{Row}
use Rattle.timer_rows.specs.Kept.{Kept}
use Rattle.timer_rows.specs.Rows.{used, nexts, entries}
use Rattle.timer_rows.proofs.Pending.{ticket_at}
use Rattle.timer_rows.proofs.Props.{kept_out}
use Rattle.timer_heap.specs.Once.{ordered_once}
use Rattle.timer_heap.specs.Positions.{Ordered, Soonest}
use Rattle.timer_heap.proofs.Changes.{none_pending, top_row, top_soonest}
use Rattle.timer_heap.proofs.heap.top.Goals as goal

module _ {P : Type 0} (rows : List (Row P)) (l : Ledger) (k : Kept rows l) (h : Ordered rows l.pending) (m : ℕ) (same : m ≡ l.pending) (some : m ≢ 0) where
  pending : 0 < l.pending
  pending = omega arith

  -- the rows as they were lent to be read
  module _ (ys : List (Row P)) (is : ys ≡ rows) where
    first_row : 0 < length ys
    first_row = subst (λ (z : List (Row P)). 0 < length z) (sym is) (top_row rows l k h _ pending refl).0

    top_inside : (x : ℕ) → x ≡ get_or (nexts ys) 0 0 → x < length ys
    top_inside x at =
        subst (λ (z : List (Row P)). x ≡ get_or (nexts z) 0 0 → x < length z) (sym is) (λ e. (top_row rows l k h x pending e).1) at

    top_first : (x : ℕ) (r : Row P) → x ≡ get_or (nexts ys) 0 0 → Soonest (entries rows) (get_or ys x r).ticket
    top_first x r at =
        subst (λ (z : List (Row P)). x ≡ get_or (nexts z) 0 0 → Soonest (entries rows) (get_or z x r).ticket) (sym is)
        (λ e. subst (Soonest (entries rows)) (ticket_at rows x r (top_row rows l k h x pending e).1) (top_soonest rows l k h x pending e)) at

pub returns-then-ledger-eq0 : goal.returns-then-ledger-eq0
returns-then-ledger-eq0 g c =
    let h = c.args.heap.now in
    let rows = used h.rows.now in
    let held = ∥∥₁_elim h.held (ordered_once rows h.ledger.pending) (λ q. q) in
    record { top = none_pending rows h.ledger (kept_out rows h.ledger h.kept) held (sym (ap (λ l. l.pending) c.ledger.ensures) ∙ c.if-ledger-eq0.true); ordered = held }

pub row_at-requires : goal.row_at-requires
row_at-requires g c =
    let h = c.args.heap.now in
    let rows = used h.rows.now in
    let held = ∥∥₁_elim h.held (ordered_once rows h.ledger.pending) (λ q. q) in
    first_row rows h.ledger (kept_out rows h.ledger h.kept) held _ (ap (λ l. l.pending) c.ledger.ensures) c.if-ledger-eq0.false c.rows-rows.result.now c.rows-rows.ensures

pub bounds-rows-row_at : goal.bounds-rows-row_at
bounds-rows-row_at g c =
    let h = c.args.heap.now in
    let rows = used h.rows.now in
    let held = ∥∥₁_elim h.held (ordered_once rows h.ledger.pending) (λ q. q) in
    top_inside rows h.ledger (kept_out rows h.ledger h.kept) held _ (ap (λ l. l.pending) c.ledger.ensures) c.if-ledger-eq0.false c.rows-rows.result.now c.rows-rows.ensures c.row_at.result c.row_at.ensures

pub returns : goal.returns
returns g c =
    let h = c.args.heap.now in
    let rows = used h.rows.now in
    let held = ∥∥₁_elim h.held (ordered_once rows h.ledger.pending) (λ q. q) in
    record {
      top = top_first rows h.ledger (kept_out rows h.ledger h.kept) held _ (ap (λ l. l.pending) c.ledger.ensures) c.if-ledger-eq0.false c.rows-rows.result.now c.rows-rows.ensures c.row_at.result c.index-rows-row_at.result c.row_at.ensures;
      ordered = held;
    }
