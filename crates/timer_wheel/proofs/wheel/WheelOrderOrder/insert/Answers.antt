use Rattle.std.proofs.Common.{refl, sym, ap, ◌∙◌, subst, arith}
use Rattle.timer_wheel.specs.Placed.{place_at, key, Slotted}
use Rattle.timer_wheel.proofs.Places.{place_is, place_below}
use Rattle.timer_wheel.proofs.wheel.WheelOrderOrder.insert.Goals as goal

pub insert_last-requires : goal.insert_last-requires
insert_last-requires g c =
    let now = c.args.ledger.now.now in
    let p = c.place-to.ensures.value ∙ place_is now c.args.deadline in
    (omega arith, (c.requires.kept, (c.requires.allowed, (omega arith, (omega (arith, p, place_below now c.args.deadline), (place_at now, key, c.requires.held.slots))))))

pub returns : goal.returns
returns g c =
    let i = c.insert_last.ensures in
    let now = c.args.ledger.now.now in
    let p = c.place-to.ensures.value ∙ place_is now c.args.deadline in
    record {
      ticket = i.ticket;
      kept = i.kept;
      held = record {
        slots = subst (λ t. Slotted t c.insert_last.new.rows c.insert_last.new.self.ends) (sym (ap (λ m. m.now) i.meant)) (i.slots (place_at now) c.requires.held.slots (sym p));
        last = ap (λ m. m.last) i.meant ∙ c.requires.held.last;
      };
      meant = i.meant;
      noted = refl;
    }
