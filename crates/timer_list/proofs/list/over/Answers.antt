use Rattle.std.proofs.Common.{sym, ◌∙◌}
use Rattle.timer_rows.proofs.Moves.{slots_empty}
use Rattle.timer_list.specs.Sorted.{slot, key}
use Rattle.timer_list.proofs.list.over.Goals as goal

pub over-requires : goal.over-requires
over-requires g c =
    record { held = λ rows l e vacant k w. slots_empty slot key rows _ 1 c.capacity.result (e ∙ sym c.capacity.ensures.used) vacant c.empty-slots.ensures.number c.empty-slots.ensures.ends }
