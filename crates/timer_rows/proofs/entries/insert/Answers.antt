use Rattle.std.proofs.Common.{◌<◌, length, get_or, set, sym, ap, ◌∙◌, arith}
use Rattle.std.proofs.lemmas.List.{get_or-map, map-set}
use Rattle.timer.proofs.Checks.{open_says}
use Rattle.timer.specs.Rules.{check_rule, entered}
use Rattle.timer_rows.specs.declared.row.Row.{Row}
use Rattle.timer_rows.specs.Buckets.{buckets, chains}
use Rattle.timer_rows.specs.Rows.{entry_of, meant}
use Rattle.timer_rows.proofs.Keeping.{insert_fits, kept_insert, meant_insert}
use Rattle.timer_rows.proofs.Same.{same_column, same_kept, same_length, same_meant, links_kept, chains_kept}
use Rattle.timer_rows.proofs.entries.insert.Goals as goal

pub raise-ticket-requires : goal.raise-ticket-requires
raise-ticket-requires g c =
    let o = open_says (meant c.args.rows.now c.args.ledger.now) c.args.deadline c.args.owner c.requires.allowed in
    record { known = o.known; fits = insert_fits c.args.rows.now c.args.ledger.now c.requires.kept c.args.deadline c.args.owner o }

pub vacant_row-x-requires : goal.vacant_row-x-requires
vacant_row-x-requires g c =
    let n = (open_says (meant c.args.rows.now c.args.ledger.now) c.args.deadline c.args.owner c.requires.allowed).room in
    record { room = n }

pub returns : goal.returns
returns g c =
    let rows = c.args.rows.now in
    let mid = c.chain.new.rows in
    let same = c.chain.ensures.contents in
    let l = c.args.ledger.now in
    let x = c.vacant_row-x.result in
    let s = c.index-rows-x-2.result in
    let t = c.raise-ticket.result in
    let r : Row g.row.P.Denot = record { ticket = t; deadline = c.args.deadline; next = s.next; prev = s.prev; bucket = s.bucket; chain = s.chain; owner = c.args.owner; payload = c.args.payload } in
    let xl : c.vacant_row-x.result < length mid = omega (arith, c.vacant_row-x.ensures.row.0, same_length rows mid same) in
    let v = ap (λ ts. get_or ts x 0) (same_column (λ e. e.ticket) rows mid same) ∙ c.vacant_row-x.ensures.row.1 in
    let m = same_meant rows mid l same in
    let k = same_kept rows mid l same c.requires.kept in
    let o = open_says (meant mid l) c.args.deadline c.args.owner (ap (λ m. check_rule m c.args.deadline c.args.owner) m ∙ c.requires.allowed) in
    let top = (get_or rows x c.index-rows-x.result).chain in
    record {
      row = c.vacant_row-x.ensures.row;
      ticket = c.raise-ticket.ensures.ticket;
      kept = rw c.raise-ticket.ensures.after (kept_insert mid l k x r xl v o c.raise-ticket.ensures.ticket top);
      meant = rw c.raise-ticket.ensures.after (meant_insert mid l k x r xl v o c.raise-ticket.ensures.ticket top) ∙ ap (λ m. entered m c.args.deadline c.args.owner c.args.payload) m;
      contents = map-set entry_of mid x r ∙ ap (λ c. set c x (entry_of r)) same;
      links = let k = links_kept mid x r s xl (ap (λ (q : Row g.row.P.Denot). q.next) c.index-rows-x-2.is) (ap (λ (q : Row g.row.P.Denot). q.prev) c.index-rows-x-2.is) in (k.0 ∙ c.chain.ensures.links.0, k.1 ∙ c.chain.ensures.links.1);
      chains = let k = chains_kept mid x r s xl (ap (λ (q : Row g.row.P.Denot). q.bucket) c.index-rows-x-2.is) (ap (λ (q : Row g.row.P.Denot). q.chain) c.index-rows-x-2.is) in
          let h = c.bucket_of.ensures.value c.requires.kept.few in
          (k.0 ∙ c.chain.ensures.chains.0 ∙ ap (λ h. set (buckets rows) h x) h, k.1 ∙ c.chain.ensures.chains.1 ∙ ap (λ h. set (chains rows) x (get_or (buckets rows) h 0)) h);
      top = c.vacant_row-x.ensures.top;
      popped =
          ap (λ l. l.vacant) c.raise-ticket.ensures.after
          ∙ sym (get_or-map (λ r. r.chain) rows x c.index-rows-x.result 0 c.vacant_row-x.ensures.row.0);
    }
