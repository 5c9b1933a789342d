use Rattle.std.proofs.Common.{◌+◌, length, get_or, ap, ◌∙◌, arith, rules}
use Rattle.timer_rows.specs.Links.{backs}
use Rattle.timer_rows.proofs.Moves.{last_out, slots_move}
use Rattle.timer_rows.proofs.links.Sentinels.move_last.Goals as goal

pub push-requires : goal.push-requires
push-requires g c =
    let u = c.unlink.ensures in
    let l = c.unlink.auto.rows in
    let o = last_out c.requires.slots.2 c.args.x c.args.slot c.requires.live.0 c.requires.live.1 c.requires.slot in
    let b = ap (λ col. get_or col (length c.args.rows.now + c.args.slot) 0) u.backs in
    let b' = ap (λ n. get_or (backs c.unlink.new.rows c.unlink.new.self.ends) (n + c.args.slot) 0) l in
    (search rules, (omega (arith, l, c.requires.few), (c.requires.slot, (omega (arith, l, c.requires.live.0), omega (arith, o, b, b', l)))))

pub returns : goal.returns
returns g c =
    let u = c.unlink.ensures in
    let k = c.push.ensures in
    record {
      contents = k.contents ∙ u.contents;
      slots = λ old new key h move. slots_move h new c.args.x c.args.slot c.requires.slot c.requires.live.0 c.requires.live.1 move c.unlink.new.rows c.push.new.rows c.unlink.new.self.ends c.push.new.self.ends u.contents u.ons u.backs k.contents k.ons k.backs;
    }
