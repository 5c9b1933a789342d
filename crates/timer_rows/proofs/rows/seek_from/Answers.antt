use Rattle.std.proofs.Common.{◌≤◌, length, rules}
use Rattle.timer_rows.proofs.Seeks.{sought, sought_after, sought_before}
use Rattle.timer_rows.proofs.rows.seek_from.Goals as goal

pub returns-in-Some : goal.returns-in-Some
returns-in-Some g c =
    let h : c.min-first.result ≤ length c.args.rows.now = search rules in
    sought_after c.args.ticket c.args.rows.now c.min-first.result h c.in-Some.x (sought c.args.ticket _ _ c.in-Some.ensures)

pub returns : goal.returns
returns g c =
    let h : c.min-first.result ≤ length c.args.rows.now = search rules in
    sought_before c.args.ticket c.args.rows.now c.min-first.result h c.seek-2.result (sought c.args.ticket _ _ c.in_default.ensures) (sought c.args.ticket _ _ c.seek-2.ensures)
