-- What the questions of a store answer.
use Rattle.std.proofs.Common.{◌≡◌, ℕ, ◌-◌, ◌<◌, min, ◌≢◌, List, length, get_or, take, Some, None, Option, MatchOption, sym, refl, ◌∙◌, subst}
use Rattle.std.specs.Option.{IsSome}
use Rattle.timer.specs.Rules.{find}
use Rattle.timer_rows.specs.declared.ledger.Ledger.{Ledger}
use Rattle.timer_rows.specs.declared.row.Row.{Row}
use Rattle.timer_rows.specs.Kept.{Kept}
use Rattle.timer_rows.specs.Rows.{used, tickets, entries, Sought}
use Rattle.timer_rows.proofs.Parts.{part_used, used_length}
use Rattle.timer_rows.proofs.Pending.{missing, entries_full}
use Rattle.timer_rows.proofs.Props.{kept_out}

module _ {P : Type 0} (rows : List (Row P)) where
  -- of the rows that are used, and of the part that is handed on
  pub capacity_used : length (used rows) ≡ min (length rows) 4096
  capacity_used = used_length rows (min (length rows) 4096) refl

  pub part_kept : (n : ℕ) → n ≡ min (length rows) 4096 → (l : Ledger) → ∥ Kept (used rows) l ∥₁ → Kept (take (n - 0) rows) l
  part_kept n is l k = subst (λ (z : List (Row P)). Kept z l) (sym (part_used rows n is)) (kept_out (used rows) l k)

  -- of a search for a ticket
  pub no_ticket : (t : ℕ) → t ≡ 0 → find t (entries rows) ≡ None
  no_ticket t z = missing t rows (λ i l n e. n (e ∙ z))

  pub sought_ticket : (t : ℕ) (r : Option ℕ) → t ≢ 0 → Sought rows t r → MatchOption r (find t (entries rows) ≡ None) (λ x. (x < length rows) × (get_or (tickets rows) x 0 ≡ t) × (t ≢ 0))
  sought_ticket t None n s = missing t rows (λ i l _. s i l)
  sought_ticket t (Some x) n s = (s.0, s.1, n)

  pub sought_room : (r : Option ℕ) → length (entries rows) ≢ length rows → Sought rows 0 r → IsSome r
  sought_room None n s = absurd (n (entries_full rows s))
  sought_room (Some x) n s = refl
