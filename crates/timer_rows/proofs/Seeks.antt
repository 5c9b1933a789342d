-- A search for a ticket among the rows, in two parts.
use Rattle.std.proofs.Common.{◌≡◌, ℕ, zero, suc, ◌+◌, ◌-◌, ◌<◌, ◌≤◌, true, false, ◌≢◌, List, [], ◌∷◌, length, take, drop, Some, None, Option, get_or, sym, refl, ap, ◌∙◌, subst, ⊎_elim, arith, length-drop, length-take, get_or-drop, get_or-take}
use Rattle.std.specs.Prelude.{◌==◌, position}
use Rattle.std.specs.List.{position_or_len}
use Rattle.std.proofs.lemmas.Bool.{cases_lt, eqb-true, eqb-false}
use Rattle.std.proofs.lemmas.Grind.{common_steps}
use Rattle.std.proofs.lemmas.List.{take_all}
use Rattle.std.proofs.lemmas.List.Quantifiers.{position-Some}
use Rattle.timer_rows.specs.declared.row.Row.{Row}
use Rattle.timer_rows.specs.Rows.{tickets, Sought}
use Rattle.timer_rows.proofs.Moves.{some_row}
use Rattle.timer_rows.proofs.Pending.{ticket_at}

module _ {P : Type 0} (t : ℕ) where
  missed : (rows : List (Row P)) → length rows ≤ position_or_len (λ r. r.ticket == t) rows → (i : ℕ) → i < length rows → get_or (tickets rows) i 0 ≢ t
  missed [] m i l = absurd (omega arith)
  missed (r ∷ rs) m i l =
      elim (r.ticket == t) as (λ b. (r.ticket == t) ≡ b → get_or (tickets (r ∷ rs)) i 0 ≢ t) [
        | true ↦ λ e. absurd (grind (arith, common_steps))
        | false ↦ λ e.
            let n : length rs ≤ position_or_len (λ r. r.ticket == t) rs = grind (arith, common_steps) in
            later r rs (eqb-false r.ticket t e) (missed rs n) i l
      ] refl
    where
      later : (r : Row P) (rs : List (Row P)) → r.ticket ≢ t → ((i : ℕ) → i < length rs → get_or (tickets rs) i 0 ≢ t) → (i : ℕ) → i < length (r ∷ rs) → get_or (tickets (r ∷ rs)) i 0 ≢ t
      later r rs n rest zero l = n
      later r rs n rest (suc i) l = rest i (omega arith)

  -- the answer of a search through a list of rows
  pub sought : (rows : List (Row P)) (r : Option ℕ) → r ≡ position (λ r. r.ticket == t) rows → Sought rows t r
  sought rows None e =
      let m : length rows ≤ position_or_len (λ r. r.ticket == t) rows = grind (arith, common_steps) in
      missed rows m
  sought rows (Some x) e =
      let l : x < length rows = grind (arith, common_steps) in
      let d = some_row rows x l in
      (l, ticket_at rows x d l ∙ eqb-true _ _ (position-Some (λ r. r.ticket == t) rows x d (sym e)).1)

  -- the rows from home on, and those before
  module _ (rows : List (Row P)) (home : ℕ) (h : home ≤ length rows) where
    rest : take (length rows - home) (drop home rows) ≡ drop home rows
    rest = take_all (length rows - home) (drop home rows) (omega (arith, length-drop home rows))

    at_rest : (i : ℕ) → home + i < length rows → get_or (tickets (drop home rows)) i 0 ≡ get_or (tickets rows) (home + i) 0
    at_rest i l =
        let d = some_row rows (home + i) l in
        ticket_at (drop home rows) i d (omega (arith, length-drop home rows))
        ∙ ap (λ (r : Row P). r.ticket) (get_or-drop home rows i d)
        ∙ sym (ticket_at rows (home + i) d l)

    at_front : (i : ℕ) → i < home → get_or (tickets (take home rows)) i 0 ≡ get_or (tickets rows) i 0
    at_front i b =
        let l : i < length rows = omega arith in
        let d = some_row rows i l in
        ticket_at (take home rows) i d (omega (arith, length-take home rows))
        ∙ ap (λ (r : Row P). r.ticket) (get_or-take home rows i d b)
        ∙ sym (ticket_at rows i d l)

    pub sought_after : (x : ℕ) → Sought (take (length rows - home) (drop home rows)) t (Some x) → Sought rows t (Some (home + x))
    sought_after x s =
        let q = subst (λ z. Sought z t (Some x)) rest s in
        let l : home + x < length rows = omega (arith, q.0, length-drop home rows) in
        (l, sym (at_rest x l) ∙ q.1)

    pub sought_before : (r : Option ℕ) → Sought (take (length rows - home) (drop home rows)) t None → Sought (take home rows) t r → Sought rows t r
    sought_before (Some x) after s =
        let b : x < home = omega (arith, s.0, length-take home rows) in
        (omega arith, sym (at_front x b) ∙ s.1)
    sought_before None after s =
        λ i l e.
        ⊎_elim
        (λ (b : i < home). s i (omega (arith, length-take home rows)) (at_front i b ∙ e))
        (λ (b : home ≤ i).
        let j : home + (i - home) ≡ i = omega arith in
        subst (λ z. Sought z t None) rest after (i - home) (omega (arith, length-drop home rows)) (at_rest (i - home) (omega arith) ∙ ap (λ k. get_or (tickets rows) k 0) j ∙ e))
        (cases_lt i home)
