use Rattle.std.proofs.Common.{◌+◌, length, ◌∙◌, arith}
use Rattle.timer.specs.Meaning.{Entry}
use Rattle.timer_rows.proofs.Homes.{entry_ticket}
use Rattle.timer_rows.proofs.Moves.{between_last, slots_insert}
use Rattle.timer_rows.proofs.Same.{same_kept, same_meant}
use Rattle.timer_rows.proofs.links.Sentinels.insert_last.Goals as goal

pub returns : goal.returns
returns g c =
    let rows = c.args.rows.now in
    let mid = c.insert-x.new.rows in
    let i = c.insert-x.ensures in
    let k = c.push.ensures in
    record {
      ticket = i.ticket;
      kept = same_kept mid c.push.new.rows c.insert-x.new.ledger k.contents i.kept;
      meant = same_meant mid c.push.new.rows c.insert-x.new.ledger k.contents ∙ i.meant;
      slots = λ of h e.
          let e' : Entry g.row.P.Denot = record { ticket = c.insert-x.result.1; deadline = c.args.deadline; owner = c.args.owner; payload = c.args.payload } in
          let b = between_last h e' c.args.slot (length mid + c.args.slot) c.requires.slot e (omega (arith, c.insert-x.auto.rows)) (λ j f is. omega (arith, entry_ticket rows j f is, c.requires.kept.issued j, i.ticket)) in
          slots_insert h c.insert-x.result.0 (length mid + c.args.slot) e' mid c.push.new.rows c.push.new.self.ends i.row.0 i.row.1 (λ z. omega (arith, z, i.ticket)) b i.contents i.links k.contents k.ons k.backs;
    }
