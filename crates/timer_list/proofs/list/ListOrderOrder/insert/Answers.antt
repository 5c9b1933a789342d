use Rattle.std.proofs.Common.{refl, arith}
use Rattle.timer.proofs.Checks.{open_says}
use Rattle.timer_rows.specs.Rows.{meant}
use Rattle.timer_list.specs.Sorted.{slot, key}
use Rattle.timer_list.proofs.Lists.{spot_between}
use Rattle.timer_list.proofs.list.ListOrderOrder.insert.Goals as goal

pub insert_before-requires : goal.insert_before-requires
insert_before-requires g c =
    (omega arith, (c.requires.kept, (c.requires.allowed, ((slot, key, c.requires.held), omega (arith, c.spot-node.ensures.node)))))

pub returns : goal.returns
returns g c =
    let rows = c.args.rows.now in
    let l = c.args.ledger.now in
    let i = c.insert_before.ensures in
    let o = open_says (meant rows l) c.args.deadline c.args.owner c.requires.allowed in
    record {
      ticket = i.ticket;
      kept = i.kept;
      held = i.slots slot key c.requires.held (spot_between rows l c.args.self.now.slots.ends c.requires.kept c.spot-node.result _ c.spot-node.ensures i.ticket (omega (arith, i.ticket, c.requires.kept.numbered, o.fresh)));
      meant = i.meant;
      noted = refl;
    }
