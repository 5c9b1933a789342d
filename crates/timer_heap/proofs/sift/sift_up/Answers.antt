use Rattle.std.proofs.Common.{◌∙◌}
use Rattle.timer_heap.proofs.Swaps.{step_up, stays_up}
use Rattle.timer_heap.proofs.sift.sift_up.Goals as goal

pub loop-parent-preserved : goal.loop-parent-preserved
loop-parent-preserved g c =
    let l = c.loop-parent in
    let e = c.swap.ensures in (
      e.contents ∙ l.invariant.0,
      λ k h.
          let s = step_up l.rows l.i k c.swap.new.rows c.in-Some.parent e.contents (l.invariant.1 k h).0 c.in-Some.ensures e.cells e.places in
          (s.0, λ _. s.1),
    )

pub returns-clause-sinking : goal.returns-clause-sinking
returns-clause-sinking g c k h =
    let l = c.loop-parent in
    let u = l.invariant.1 k h in
    stays_up l.rows l.i k c.args.start h.inside c.in_default.ensures u.0 u.1
