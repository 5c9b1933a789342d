use Rattle.std.proofs.Common.{refl, ◌+◌, ◌∙◌, arith}
use Rattle.timer.proofs.Checks.{open_says}
use Rattle.timer_rows.specs.Rows.{meant}
use Rattle.timer_rows.proofs.Same.{same_kept, same_meant}
use Rattle.timer_heap.proofs.Changes.{end_inside, entered_unsettled, inserted_ordered, inserted_count}
use Rattle.timer_heap.proofs.heap.HeapOrderOrder.insert.Goals as goal

pub put-requires : goal.put-requires
put-requires g c =
    let rows = c.args.rows.now in
    let l = c.args.ledger.now in
    let x = c.insert-x.result.0 in
    let xl = c.insert-x.ensures.row.0 in
    let o = open_says (meant rows l) c.args.deadline c.args.owner c.requires.allowed in
    let e = end_inside rows l c.requires.kept c.requires.held x c.args.deadline c.args.owner c.args.payload xl c.insert-x.ensures.row.1 o c.insert-x.result.1 c.insert-x.new.rows c.insert-x.new.rows c.insert-x.ensures.ticket c.insert-x.ensures.contents c.insert-x.ensures.links in
    let n = c.insert-x.auto.rows in
    (omega arith, omega arith, omega (arith, c.requires.kept.few))

pub sift_up-requires : goal.sift_up-requires
sift_up-requires g c =
    let rows = c.args.rows.now in
    let l = c.args.ledger.now in
    let x = c.insert-x.result.0 in
    let xl = c.insert-x.ensures.row.0 in
    let o = open_says (meant rows l) c.args.deadline c.args.owner c.requires.allowed in
    (c.args.ledger.now.pending + 1, rw c.from-end.ensures (entered_unsettled rows l c.requires.kept c.requires.held x c.args.deadline c.args.owner c.args.payload xl c.insert-x.ensures.row.1 o c.insert-x.result.1 c.insert-x.new.rows c.put.new.rows c.insert-x.ensures.ticket c.insert-x.ensures.contents c.insert-x.ensures.links c.put.ensures.contents (rw c.from-end.ensures at c.put.ensures.cells) (rw c.from-end.ensures at c.put.ensures.places)))

pub returns : goal.returns
returns g c =
    let rows = c.args.rows.now in
    let l = c.args.ledger.now in
    let x = c.insert-x.result.0 in
    let xl = c.insert-x.ensures.row.0 in
    let o = open_says (meant rows l) c.args.deadline c.args.owner c.requires.allowed in
    let mid = c.insert-x.new.rows in
    let end = c.sift_up.new.rows in
    let l' = c.insert-x.new.ledger in
    let same = c.sift_up.ensures.contents ∙ c.put.ensures.contents in
    let u = entered_unsettled rows l c.requires.kept c.requires.held x c.args.deadline c.args.owner c.args.payload xl c.insert-x.ensures.row.1 o c.insert-x.result.1 mid c.put.new.rows c.insert-x.ensures.ticket c.insert-x.ensures.contents c.insert-x.ensures.links c.put.ensures.contents (rw c.from-end.ensures at c.put.ensures.cells) (rw c.from-end.ensures at c.put.ensures.places) in
    let v = c.sift_up.ensures.sinking (l.pending + 1) (rw c.from-end.ensures u) in
    record {
      ticket = c.insert-x.ensures.ticket;
      kept = same_kept mid end l' same c.insert-x.ensures.kept;
      held = inserted_ordered rows l c.requires.kept c.requires.held end l.pending l'.pending (inserted_count rows l c.requires.kept c.requires.held mid l' c.args.deadline c.args.owner c.args.payload c.insert-x.ensures.kept c.insert-x.ensures.meant) (rw c.from-end.ensures at v);
      meant = same_meant mid end l' same ∙ c.insert-x.ensures.meant;
      noted = refl;
    }
