use Rattle.std.proofs.Common.{◌≡◌, ◌+◌, ◌<◌, length, get_or, sym, refl, ap, ◌∙◌, subst, arith}
use Rattle.std.proofs.lemmas.List.{get_or_default, length-map}
use Rattle.timer_rows.specs.Links.{ons}
use Rattle.timer_rows.specs.Rows.{tickets, deadlines}
use Rattle.timer_rows.specs.Slots.{Moves}
use Rattle.timer_rows.proofs.Pending.{deadline_at}
use Rattle.timer_wheel.specs.Place.{place_of}
use Rattle.timer_wheel.specs.Placed.{key}
use Rattle.timer_wheel.specs.Emptying.{place_midway}
use Rattle.timer_wheel.proofs.Places.{place_is, place_below, cascade_place_below}
use Rattle.timer_wheel.proofs.Emptying.{same_waiting, begun, slot_emptied, front_ticket, goes, front_rises}
use Rattle.timer_wheel.proofs.wheel.WheelOrder.empty_slot.Goals as goal

pub loop-x-init : goal.loop-x-init
loop-x-init g c =
    let rows = c.args.rows.now in
    (0, begun c.args.tick rows c.args.self.now.slots.ends c.requires.slots, refl, c.first-x.ensures ∙ ap (λ s. get_or (ons rows c.args.self.now.slots.ends) (length rows + s) 0) c.requires.turn.2)

pub first-x-requires : goal.first-x-requires
first-x-requires g c = (omega arith, omega (arith, c.requires.turn.2, cascade_place_below (c.args.tick + 1)))

pub first-x-requires-in-loop-x : goal.first-x-requires-in-loop-x
first-x-requires-in-loop-x g c = (omega arith, omega (arith, c.requires.turn.2, cascade_place_below (c.args.tick + 1)))

pub move_last-requires : goal.move_last-requires
move_last-requires g c =
    let rows = c.loop-x.rows in
    let i = c.loop-x.invariant in
    let w = same_waiting c.args.tick c.args.rows.now rows i.2 c.requires.waiting in
    let l : c.loop-x.x < length c.loop-x.rows = omega (arith, c.loop-x-test.true, c.loop-x.auto.rows) in
    let v = front_ticket c.args.tick c.requires.turn.1 rows w c.loop-x.self.slots.ends i.0 i.1 c.loop-x.x i.3 l in
    let p = c.place-to.ensures.value ∙ place_is (c.args.tick + 1) (get_or c.loop-x.rows c.loop-x.x c.index-rows-x.result).deadline in
    let b = place_below (c.args.tick + 1) (get_or c.loop-x.rows c.loop-x.x c.index-rows-x.result).deadline in
    (omega arith, (omega (arith, w.few), ((l, v), (omega (arith, p, b), (place_midway c.args.tick i.0, key, i.1)))))

pub loop-x-preserved : goal.loop-x-preserved
loop-x-preserved g c =
    let rows = c.loop-x.rows in
    let i = c.loop-x.invariant in
    let w = same_waiting c.args.tick c.args.rows.now rows i.2 c.requires.waiting in
    let l : c.loop-x.x < length c.loop-x.rows = omega (arith, c.loop-x-test.true, c.loop-x.auto.rows) in
    let d = deadline_at rows c.loop-x.x c.index-rows-x.result l in
    let to : c.place-to.result ≡ place_of (c.args.tick + 1) (get_or (deadlines c.loop-x.rows) c.loop-x.x 0) = c.place-to.ensures.value ∙ place_is (c.args.tick + 1) (get_or c.loop-x.rows c.loop-x.x c.index-rows-x.result).deadline ∙ ap (place_of (c.args.tick + 1)) (sym d) in
    let k = get_or (tickets rows) c.loop-x.x 0 + 1 in
    let move = goes c.args.tick c.requires.turn.1 rows w c.loop-x.self.slots.ends i.0 i.1 c.loop-x.x i.3 l in
    let m = c.move_last.ensures in (
      get_or (tickets rows) c.loop-x.x 0 + 1,
      m.slots (place_midway c.args.tick i.0) (place_midway c.args.tick (get_or (tickets rows) c.loop-x.x 0 + 1)) key i.1 (subst (Moves (place_midway c.args.tick i.0) (place_midway c.args.tick (get_or (tickets rows) c.loop-x.x 0 + 1)) key rows c.loop-x.x) (sym to) move),
      m.contents ∙ i.2,
      c.first-x-in-loop-x.ensures ∙ ap (λ s. get_or (ons c.move_last.new.rows c.move_last.new.self.ends) (length c.move_last.new.rows + s) 0) c.requires.turn.2,
    )

pub loop-x-smaller : goal.loop-x-smaller
unfolding loop-x-preserved
loop-x-smaller g c =
    let rows = c.loop-x.rows in
    let i = c.loop-x.invariant in
    let a = loop-x-preserved g c in
    let w = same_waiting c.args.tick c.args.rows.now c.move_last.new.rows a.2 c.requires.waiting in
    let s = (same_waiting c.args.tick c.args.rows.now rows i.2 c.requires.waiting).small c.loop-x.x in
    let l : c.loop-x.x < length (tickets c.loop-x.rows) = omega (arith, c.loop-x-test.true, c.loop-x.auto.rows, length-map rows (λ r. r.ticket)) in
    let e = get_or_default (tickets rows) c.loop-x.x 4294967296 0 l in
    let f = front_rises c.args.tick c.requires.turn.1 c.move_last.new.rows w c.move_last.new.self.ends (get_or (tickets rows) c.loop-x.x 0 + 1) a.1 c.first-x-in-loop-x.result a.3 (get_or (tickets rows) c.loop-x.x 0) (omega arith) s in
    omega (arith, e, f)

pub returns-clause-slots : goal.returns-clause-slots
returns-clause-slots g c =
    let rows = c.loop-x.rows in
    let i = c.loop-x.invariant in
    let w = same_waiting c.args.tick c.args.rows.now rows i.2 c.requires.waiting in
    slot_emptied c.args.tick c.requires.turn.1 rows w c.loop-x.self.slots.ends i.0 i.1 c.loop-x.x i.3 (omega (arith, c.loop-x-test.false, c.loop-x.auto.rows))
