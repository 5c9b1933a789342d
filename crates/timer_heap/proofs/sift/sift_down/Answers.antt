use Rattle.std.proofs.Common.{◌∙◌}
use Rattle.timer_heap.proofs.Swaps.{step_down}
use Rattle.timer_heap.proofs.sift.sift_down.Goals as goal

pub loop-child-preserved : goal.loop-child-preserved
loop-child-preserved g c =
    let l = c.loop-child in
    let e = c.swap.ensures in (
      e.contents ∙ l.invariant.0,
      step_down l.rows l.i c.args.count c.swap.new.rows c.in-Some.child e.contents l.invariant.1 c.in-Some.ensures e.cells e.places,
    )
