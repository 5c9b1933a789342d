use Rattle.std.proofs.Common.{◌∙◌, arith}
use Rattle.timer_rows.proofs.Moves.{slots_insert}
use Rattle.timer_rows.proofs.Same.{same_kept, same_meant}
use Rattle.timer_rows.proofs.links.Sentinels.insert_before.Goals as goal

pub returns : goal.returns
returns g c =
    let mid = c.insert-x.new.rows in
    let i = c.insert-x.ensures in
    let k = c.link.ensures in
    record {
      ticket = i.ticket;
      kept = same_kept mid c.link.new.rows c.insert-x.new.ledger k.contents i.kept;
      meant = same_meant mid c.link.new.rows c.insert-x.new.ledger k.contents ∙ i.meant;
      slots = λ slot key h b. slots_insert h c.insert-x.result.0 c.args.node _ mid c.link.new.rows c.link.new.self.ends i.row.0 i.row.1 (λ z. omega (arith, z, i.ticket)) b i.contents i.links k.contents k.ons k.backs;
    }
