use Rattle.std.proofs.Common.{refl, ◌≡◌, ◌+◌, ◌-◌, ap, ◌∙◌, subst, arith}
use Rattle.timer_wheel.specs.Placed.{Slotted}
use Rattle.timer_wheel.proofs.Dues.{waiting}
use Rattle.timer_wheel.proofs.wheel.WheelOrderOrder.cascade.Goals as goal

pub cascade_from-requires : goal.cascade_from-requires
cascade_from-requires g c =
    let k = c.requires.kept in
    let b = c.requires.before in
    let n = ap (λ l. l.now) b.1 in
    let m = ap (λ l. l.last) b.1 in
    let e : b.0.now ≡ c.args.ledger.now.now - 1 = omega arith in
    record {
      waiting = waiting c.args.rows.now c.args.ledger.now _ k (omega arith) (omega (arith, b.2.last));
      slots = subst (λ t. Slotted t c.args.rows.now c.args.self.now.slots.ends) e b.2.slots;
      before = omega (arith, k.clock, b.2.last);
    }

pub returns : goal.returns
returns g c =
    let b = c.requires.before in
    let n = ap (λ l. l.now) b.1 in
    let m = ap (λ l. l.last) b.1 in
    let e : c.args.ledger.now.now - 1 + 1 ≡ c.args.ledger.now.now = omega arith in
    record {
      held = record {
        slots = subst (λ t. Slotted t c.cascade_from.new.rows c.cascade_from.new.self.slots.ends) e c.cascade_from.ensures.slots;
        last = m ∙ b.2.last;
      };
      contents = c.cascade_from.ensures.contents;
      noted = refl;
    }
