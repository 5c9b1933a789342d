use Rattle.std.proofs.Common.{◌≡◌, ◌+◌, ◌<◌, ◌≤◌, length, get_or, Some, sym, ap, ◌∙◌, arith}
use Rattle.std.proofs.lemmas.Bool.{ltb-true, ltb-false}
use Rattle.timer_rows.specs.Links.{ons}
use Rattle.timer_rows.specs.Rows.{tickets}
use Rattle.timer_rows.specs.Walks.{first_ticket}
use Rattle.timer_rows.proofs.Cells.{read_ticket}
use Rattle.timer_rows.proofs.Fronts.{first_met, none_met}
use Rattle.timer_rows.proofs.Meeting.{slot_met}
use Rattle.timer_rows.proofs.links.Sentinels.front.Goals as goal

pub returns-in_err-get : goal.returns-in_err-get
returns-in_err-get g c = λ of key h.
    let rows = c.args.rows.now in
    let es = c.args.self.now.ends in
    let n = length rows in
    let l = ltb-false _ _ (sym c.in_err-get.ensures.lookup.0) in
    let past : length c.args.rows.now ≤ get_or (ons c.args.rows.now c.args.self.now.ends) (length c.args.rows.now + c.args.slot) 0 = omega (arith, l, c.from.ensures, c.first-x.ensures) in
    c.from_residual.ensures
    ∙ sym (ap first_ticket (sym (slot_met h c.args.slot c.requires).onward) ∙ none_met rows (ons rows es) n (get_or (ons rows es) (n + c.args.slot) 0) past)

pub returns : goal.returns
returns g c = λ of key h.
    let rows = c.args.rows.now in
    let es = c.args.self.now.ends in
    let n = length rows in
    let f = c.in_ok-get.ensures.lookup in
    let l = ltb-true _ _ (sym f.0) in
    let inside : get_or (ons c.args.rows.now c.args.self.now.ends) (length c.args.rows.now + c.args.slot) 0 < length c.args.rows.now = omega (arith, l, c.from.ensures, c.first-x.ensures) in
    let t = read_ticket rows c.from.result c.in_ok-get.field-0.now f.1 l in
    ap Some (sym t ∙ ap (λ i. get_or (tickets rows) i 0) (c.from.ensures ∙ c.first-x.ensures))
    ∙ sym (ap first_ticket (sym (slot_met h c.args.slot c.requires).onward) ∙ first_met rows (ons rows es) n (get_or (ons rows es) (n + c.args.slot) 0) inside)
