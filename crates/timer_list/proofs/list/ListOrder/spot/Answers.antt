use Rattle.std.proofs.Common.{◌<◌, ◌≤◌, length, sym, ◌∙◌, arith}
use Rattle.std.proofs.lemmas.Bool.{ltb-true, ltb-false}
use Rattle.timer_rows.proofs.Cells.{read_next, read_deadline}
use Rattle.timer_list.proofs.Spots.{spot_begin, spot_step, spot_falls}
use Rattle.timer_list.proofs.list.ListOrder.spot.Goals as goal

pub loop-node-init : goal.loop-node-init
loop-node-init g c =
    spot_begin c.args.rows.now c.args.self.now.slots.ends c.requires _ c.args.deadline c.first-node.ensures

pub returns-then-is_after : goal.returns-then-is_after
returns-then-is_after g c =
    let l : c.loop-node.node < length c.args.rows.now = omega arith in
    let d = read_deadline c.args.rows.now c.loop-node.node c.index-rows-node.result c.index-rows-node.is l in
    record { node = c.loop-node.invariant.0; before = c.loop-node.invariant.1; after = λ _. omega (arith, d, ltb-true c.args.deadline c.index-rows-node.result.deadline (sym c.is_after.ensures ∙ c.if-is_after.true)) }

pub loop-node-smaller : goal.loop-node-smaller
loop-node-smaller g c =
    let l : c.loop-node.node < length c.args.rows.now = omega arith in
    spot_falls c.args.rows.now c.args.self.now.slots.ends c.requires c.loop-node.node c.args.deadline l c.loop-node.invariant.0 _
    (read_next c.args.rows.now c.loop-node.node c.index-rows-node.result c.index-rows-node.is l c.args.self.now.slots.ends)

pub loop-node-preserved : goal.loop-node-preserved
loop-node-preserved g c =
    let l : c.loop-node.node < length c.args.rows.now = omega arith in
    let d = read_deadline c.args.rows.now c.loop-node.node c.index-rows-node.result c.index-rows-node.is l in
    let w : c.index-rows-node.result.deadline ≤ c.args.deadline = ltb-false c.args.deadline c.index-rows-node.result.deadline (sym c.is_after.ensures ∙ c.if-is_after.false) in
    spot_step c.args.rows.now c.args.self.now.slots.ends c.requires c.loop-node.node c.args.deadline l c.loop-node.invariant.0 _
    (read_next c.args.rows.now c.loop-node.node c.index-rows-node.result c.index-rows-node.is l c.args.self.now.slots.ends)
    (omega (arith, d))
