use Rattle.std.proofs.Common.{refl, sym, ap, ◌∙◌, subst, arith}
use Rattle.timer_wheel.specs.Placed.{place_at, key, Slotted}
use Rattle.timer_wheel.proofs.wheel.WheelOrderOrder.remove.Goals as goal

pub remove-requires : goal.remove-requires
remove-requires g c = (omega arith, (c.requires.kept, (c.requires.live, (place_at c.args.ledger.now.now, key, c.requires.held.slots))))

pub returns : goal.returns
returns g c =
    let r = c.remove.ensures in
    record {
      kept = r.kept;
      held = record {
        slots = subst (λ t. Slotted t c.remove.new.rows c.remove.new.self.ends) (sym (ap (λ m. m.now) r.meant)) (r.slots (place_at c.args.ledger.now.now) key c.requires.held.slots);
        last = ap (λ m. m.last) r.meant ∙ c.requires.held.last;
      };
      meant = r.meant;
      noted = refl;
    }
