use Rattle.timer_rows.proofs.Moves.{slots_remove}
use Rattle.timer_rows.proofs.Same.{same_kept, same_live, removed_meant}
use Rattle.timer_rows.proofs.links.Sentinels.remove.Goals as goal

pub remove-requires : goal.remove-requires
remove-requires g c =
    let same = c.unlink.ensures.contents in
    record {
      kept = same_kept c.args.rows.now c.unlink.new.rows c.args.ledger.now same c.requires.kept;
      live = same_live c.args.rows.now c.unlink.new.rows c.args.x same c.requires.live;
    }

pub returns : goal.returns
returns g c =
    let rows = c.args.rows.now in
    let mid = c.unlink.new.rows in
    let u = c.unlink.ensures in
    let r = c.remove.ensures in
    record {
      kept = r.kept;
      meant = removed_meant rows mid c.remove.new.rows c.args.ledger.now c.remove.new.ledger c.args.x u.contents r.meant;
      slots = λ slot key h. slots_remove h c.args.x mid c.remove.new.rows c.unlink.new.self.ends c.requires.live.0 c.requires.live.1 u.contents u.ons u.backs r.contents r.links;
    }
