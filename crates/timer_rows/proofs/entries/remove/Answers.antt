use Rattle.std.proofs.Common.{get_or, set, sym, refl, ap, ◌∙◌}
use Rattle.std.proofs.lemmas.List.{map-set, get_or-map}
use Rattle.timer_rows.specs.declared.row.Row.{Row}
use Rattle.timer_rows.specs.Rows.{entry_of, contents, vacated}
use Rattle.timer_rows.proofs.Keeping.{remove_known, remove_some, kept_remove, meant_remove}
use Rattle.timer_rows.proofs.Columns.{column_same}
use Rattle.timer_rows.proofs.Same.{same_kept, same_live, removed_meant, links_kept}
use Rattle.timer_rows.proofs.entries.remove.Goals as goal

pub lower-requires : goal.lower-requires
lower-requires g c =
    let mid = c.unchain.new.rows in
    let s = c.index-rows-x.result in
    let r : Row g.row.P.Denot = record s { ticket = 0; chain = c.args.ledger.now.vacant } in
    let v = same_live c.args.rows.now mid c.args.x c.unchain.ensures.contents c.requires.live in
    let k = same_kept c.args.rows.now mid c.args.ledger.now c.unchain.ensures.contents c.requires.kept in
    record {
      known = remove_known mid c.args.ledger.now k c.args.x r v.0 s c.index-rows-x.is v.1 refl refl refl;
      some = remove_some mid c.args.ledger.now k c.args.x r v.0 s c.index-rows-x.is v.1 refl refl refl;
    }

pub returns : goal.returns
returns g c =
    let rows = c.args.rows.now in
    let mid = c.unchain.new.rows in
    let same = c.unchain.ensures.contents in
    let l = c.args.ledger.now in
    let x = c.args.x in
    let s = c.index-rows-x.result in
    let r : Row g.row.P.Denot = record s { ticket = 0; chain = c.args.ledger.now.vacant } in
    let v = same_live rows mid x same c.requires.live in
    let k = same_kept rows mid l same c.requires.kept in
    record {
      kept = rw c.lower.ensures (kept_remove mid l k x r v.0 s c.index-rows-x.is v.1 refl refl refl x);
      meant = removed_meant rows mid (set mid x r) l c.lower.new.self x same (rw c.lower.ensures (meant_remove mid l k x r v.0 s c.index-rows-x.is v.1 refl refl refl x));
      contents = λ d. map-set entry_of mid x r
          ∙ ap (λ c. set c x (entry_of r)) same
          ∙ ap (λ e. set (contents rows) x (vacated e)) (ap entry_of c.index-rows-x.is ∙ sym (get_or-map entry_of mid x s d v.0) ∙ ap (λ c. get_or c x d) same);
      links = let k = links_kept mid x r s v.0 (ap (λ (q : Row g.row.P.Denot). q.next) c.index-rows-x.is) (ap (λ (q : Row g.row.P.Denot). q.prev) c.index-rows-x.is) in (k.0 ∙ c.unchain.ensures.links.0, k.1 ∙ c.unchain.ensures.links.1);
      bucket = column_same (λ r. r.bucket) mid x r s v.0 (ap (λ (q : Row g.row.P.Denot). q.bucket) c.index-rows-x.is) ∙ c.unchain.ensures.bucket;
      chain = map-set (λ r. r.chain) mid x r ∙ ap (λ c. set c x l.vacant) c.unchain.ensures.chain;
      pushed = ap (λ l. l.vacant) c.lower.ensures;
    }
