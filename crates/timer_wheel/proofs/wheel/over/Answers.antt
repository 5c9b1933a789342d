use Rattle.std.proofs.Common.{sym, ◌∙◌}
use Rattle.timer_rows.proofs.Moves.{slots_empty}
use Rattle.timer_wheel.specs.Placed.{place_at, key}
use Rattle.timer_wheel.proofs.wheel.over.Goals as goal

pub over-requires : goal.over-requires
over-requires g c =
    record {
      held = λ rows l e vacant k w.
          record { slots = slots_empty (place_at l.now) key rows _ 256 c.capacity.result (e ∙ sym c.capacity.ensures.used) vacant c.empty-slots.ensures.number c.empty-slots.ensures.ends; last = w };
    }
