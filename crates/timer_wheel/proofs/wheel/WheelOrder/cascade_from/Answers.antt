use Rattle.std.proofs.Common.{◌+◌}
use Rattle.timer_wheel.proofs.Places.{turn_comes, no_turn}
use Rattle.timer_wheel.proofs.Emptying.{still}
use Rattle.timer_wheel.proofs.wheel.WheelOrder.cascade_from.Goals as goal

pub empty_slot-requires-clause-turn : goal.empty_slot-requires-clause-turn
empty_slot-requires-clause-turn g c =
    let t = turn_comes (c.args.tick + 1) c.in-Some.from c.in-Some.ensures.value in
    (c.requires.before, t.0, t.1)

pub returns-in_default-clause-slots : goal.returns-in_default-clause-slots
returns-in_default-clause-slots g c =
    still c.args.tick c.args.rows.now c.args.self.now.slots.ends (no_turn (c.args.tick + 1) c.in_default.ensures.value) c.requires.slots
