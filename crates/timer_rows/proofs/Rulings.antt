-- What the rules say of a store, from what was found in its rows.
use Rattle.std.proofs.Common.{◌≡◌, ℕ, ◌<◌, true, false, ◌≢◌, List, length, get_or, is_some, Some, None, sym, ap, ◌∙◌}
use Rattle.timer.specs.Rules.{find, without, with_pending, stopped, stop_rule, taken, take_rule, due_rule}
use Rattle.timer_rows.specs.declared.row.Row.{Row}
use Rattle.timer_rows.specs.declared.ledger.Ledger.{Ledger}
use Rattle.timer_rows.specs.Kept.{Kept}
use Rattle.timer_rows.specs.Rows.{tickets, entry_of, entries, meant, NoneDue, Foremost}
use Rattle.timer_rows.proofs.Pending.{entries_find, entries_due, none_due}
use Rattle.timer_rows.proofs.Cells.{read_ticket}

module _ {P : Type 0} (rows : List (Row P)) (l : Ledger) where
  pub take_none : NoneDue l.now rows → take_rule (meant rows l) ≡ taken (meant rows l) None
  take_none n = ap (taken (meant rows l)) (none_due l.now rows n)

  pub due_none : NoneDue l.now rows → false ≡ due_rule (meant rows l)
  due_none n = ap (λ o. is_some o) (sym (none_due l.now rows n))

  -- the row x, which was read as r
  module _ (k : Kept rows l) (x : ℕ) (r : Row P) (is : r ≡ get_or rows x r) (xl : x < length rows) where
    same_entry : Some (entry_of (get_or rows x r)) ≡ Some (entry_of r)
    same_entry = ap (λ (q : Row P). Some (entry_of q)) (sym is)

    same_left : with_pending (meant rows l) (without r.ticket (entries rows)) ≡ with_pending (meant rows l) (without (get_or (tickets rows) x 0) (entries rows))
    same_left = ap (λ t. with_pending (meant rows l) (without t (entries rows))) (sym (read_ticket rows x r is xl))

    pub stop_some : (t : ℕ) → get_or (tickets rows) x 0 ≡ t → t ≢ 0 → stop_rule (meant rows l) t ≡ stopped (meant rows l) (Some (entry_of r))
    stop_some t e n =
        ap (stopped (meant rows l)) (ap (λ i. find i (entries rows)) (sym e) ∙ entries_find rows x r k.apart xl (λ z. n (sym e ∙ z)) ∙ same_entry)

    pub stop_after : (t : ℕ) → get_or (tickets rows) x 0 ≡ t → t ≢ 0 → with_pending (meant rows l) (without (get_or (tickets rows) x 0) (entries rows)) ≡ (stop_rule (meant rows l) t).after
    stop_after t e n = sym same_left ∙ sym (ap (λ o. o.after) (stop_some t e n))

    pub take_some : Foremost l.now rows x → take_rule (meant rows l) ≡ taken (meant rows l) (Some (entry_of r))
    take_some f = ap (taken (meant rows l)) (entries_due l.now rows x r k.apart f ∙ same_entry)

    pub take_after : Foremost l.now rows x → with_pending (meant rows l) (without (get_or (tickets rows) x 0) (entries rows)) ≡ (take_rule (meant rows l)).after
    take_after f = sym same_left ∙ sym (ap (λ o. o.after) (take_some f))

  pub due_some : Kept rows l → (x : ℕ) (d : Row P) → Foremost l.now rows x → true ≡ due_rule (meant rows l)
  due_some k x d f = ap (λ o. is_some o) (sym (entries_due l.now rows x d k.apart f))
