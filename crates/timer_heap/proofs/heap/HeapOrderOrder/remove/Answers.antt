use Rattle.std.proofs.Common.{refl, ◌-◌, ap, ◌∙◌}
use Rattle.timer_rows.proofs.Same.{same_kept, same_live, same_meant, removed_meant}
use Rattle.timer_heap.proofs.Changes.{removed_unsettled, removed_ordered, removed_all}
use Rattle.timer_heap.proofs.heap.HeapOrderOrder.remove.Goals as goal

pub remove-requires : goal.remove-requires
remove-requires g c =
    let same = c.swap.ensures.contents in
    record {
      kept = same_kept c.args.rows.now c.swap.new.rows c.args.ledger.now same c.requires.kept;
      live = same_live c.args.rows.now c.swap.new.rows c.args.x same c.requires.live;
    }

pub settle-requires : goal.settle-requires
settle-requires g c =
    let s = c.swap.ensures in
    removed_unsettled c.args.rows.now c.args.ledger.now c.requires.kept c.requires.held c.args.x c.requires.live.1 _ _ c.position_of-gap.ensures (ap (λ n. n - 1) c.from-last.ensures) c.swap.new.rows c.remove.new.rows s.cells s.places s.contents c.remove.ensures.contents c.remove.ensures.links c.if-gap-last.true

pub returns-then-gap-last : goal.returns-then-gap-last
returns-then-gap-last g c =
    let rows = c.args.rows.now in
    let l = c.args.ledger.now in
    let end = c.settle.new.rows in
    let left = c.remove.new.rows in
    let l' = c.remove.new.ledger in
    let same = c.settle.ensures.contents in
    let m = same_meant left end l' same ∙ removed_meant rows c.swap.new.rows left l l' c.args.x c.swap.ensures.contents c.remove.ensures.meant in
    record {
      kept = same_kept left end l' same c.remove.ensures.kept;
      held = removed_all rows l c.requires.kept c.requires.held c.args.x c.requires.live.1 end l' (same_kept left end l' same c.remove.ensures.kept) m _ (ap (λ n. n - 1) c.from-last.ensures) c.settle.ensures.ordered;
      meant = m;
      noted = refl;
    }

pub returns-else-gap-last : goal.returns-else-gap-last
returns-else-gap-last g c =
    let rows = c.args.rows.now in
    let l = c.args.ledger.now in
    let left = c.remove.new.rows in
    let l' = c.remove.new.ledger in
    let s = c.swap.ensures in
    let m = removed_meant rows c.swap.new.rows left l l' c.args.x s.contents c.remove.ensures.meant in
    let o = removed_ordered rows l c.requires.kept c.requires.held c.args.x c.requires.live.1 _ _ c.position_of-gap.ensures (ap (λ n. n - 1) c.from-last.ensures) c.swap.new.rows left s.cells s.places s.contents c.remove.ensures.contents c.remove.ensures.links c.if-gap-last.false in
    record { kept = c.remove.ensures.kept; held = removed_all rows l c.requires.kept c.requires.held c.args.x c.requires.live.1 left l' c.remove.ensures.kept m _ (ap (λ n. n - 1) c.from-last.ensures) o; meant = m; noted = refl }
