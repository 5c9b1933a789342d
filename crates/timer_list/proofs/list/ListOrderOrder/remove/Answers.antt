use Rattle.std.proofs.Common.{refl, arith}
use Rattle.timer_list.specs.Sorted.{slot, key}
use Rattle.timer_list.proofs.list.ListOrderOrder.remove.Goals as goal

pub remove-requires : goal.remove-requires
remove-requires g c = (omega arith, (c.requires.kept, (c.requires.live, (slot, key, c.requires.held))))

pub returns : goal.returns
returns g c =
    let r = c.remove.ensures in
    record { kept = r.kept; held = r.slots slot key c.requires.held; meant = r.meant; noted = refl }
