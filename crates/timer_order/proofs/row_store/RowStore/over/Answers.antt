use Rattle.std.proofs.Common.{ℕ, ◌≡◌, min, List, length, get_or, sym, ap, ◌∙◌, arith}
use Rattle.timer_rows.specs.declared.row.Row.{Row}
use Rattle.timer_rows.specs.Kept.{Kept}
use Rattle.timer_rows.specs.Rows.{tickets}
use Rattle.timer_rows.proofs.Parts.{part_used, whole_length, unused_after}
use Rattle.timer_order.proofs.Fresh.{fresh_kept, fresh_meant}
use Rattle.timer_order.proofs.Lending.{whole_of}
use Rattle.timer_order.proofs.row_store.RowStore.over.Goals as goal

pub invariant_of-result : goal.invariant_of-result
invariant_of-result g c =
    let rows = c.args.rows.now in
    let ys = c.clear.new.rows in
    let n = c.capacity-n.result in
    let is = c.capacity-n.ensures.value in
    let same = c.clear.auto.rows in
    let k = fresh_kept rows ys n is same c.clear.ensures.vacant c.args.first c.args.last (omega arith) c.new.result c.new.ensures in
    let long = same ∙ ap length (part_used rows n is) in
    record {
      counted = is ∙ ap (λ k. min k 4096) (sym (whole_length rows n is ys same));
      kept = ∣ whole_of rows n is ys same (λ z. Kept z c.new.result) k ∣₁;
      held = ∣ whole_of rows n is ys same (λ z. g.O.Order.Holds c.args.order z c.new.result) (c.requires.held ys c.new.result long c.clear.ensures.vacant k (ap (λ l. l.last) c.new.ensures)) ∣₁;
    }

pub returns-clause-meaning : goal.returns-clause-meaning
returns-clause-meaning g c =
    fresh_meant c.args.rows.now c.clear.new.rows c.capacity-n.result c.capacity-n.ensures.value c.clear.auto.rows c.clear.ensures.vacant c.args.first c.args.last c.new.result c.new.ensures

pub returns-clause-cleared : goal.returns-clause-cleared
returns-clause-cleared g c =
    whole_of c.args.rows.now c.capacity-n.result c.capacity-n.ensures.value c.clear.new.rows c.clear.auto.rows (λ (z : List (Row g.row.P.Denot)). (i : ℕ) → get_or (tickets z) i 0 ≡ 0) c.clear.ensures.vacant

pub returns-clause-unused : goal.returns-clause-unused
returns-clause-unused g c =
    unused_after c.args.rows.now c.capacity-n.result c.capacity-n.ensures.value c.clear.new.rows c.clear.auto.rows
