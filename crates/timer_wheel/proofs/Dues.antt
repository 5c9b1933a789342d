-- The slot of the entries that are due, and entries that are still to come.
use Rattle.std.proofs.Common.{◌≡◌, ℕ, ◌+◌, ◌%◌, ◌<◌, ◌≤◌, ◌≢◌, List, length, get_or, sym, ap, ◌∙◌, arith}
use Rattle.timer_rows.specs.declared.row.Row.{Row}
use Rattle.timer_rows.specs.declared.ends.Ends.{Ends}
use Rattle.timer_rows.specs.declared.ledger.Ledger.{Ledger}
use Rattle.timer_rows.specs.Kept.{Kept}
use Rattle.timer_rows.specs.Links.{ons}
use Rattle.timer_rows.specs.Rows.{tickets, deadlines, NoneDue, Foremost}
use Rattle.timer_rows.proofs.Homes.{entry_at, entry_deadline, front_home, front_least, front_live, live_home}
use Rattle.timer_rows.proofs.Pending.{live_row}
use Rattle.timer_wheel.specs.Place.{place_of}
use Rattle.timer_wheel.specs.Placed.{place_at, Placed}
use Rattle.timer_wheel.specs.Emptying.{Waiting}
use Rattle.timer_wheel.proofs.Places.{due_here, here_due}

module _ {P : Type 0} (rows : List (Row P)) (ledger : Ledger) (es : List Ends) (k : Kept rows ledger) (h : Placed rows ledger es) (x : ℕ) (is : x ≡ get_or (ons rows es) (length rows + ledger.now % 64) 0) where
  abbrev now : ℕ
  now = ledger.now

  -- the slot of the tick's digit 0 on level 0
  abbrev here : ℕ
  here = now % 64

  lowest : (i : ℕ) → get_or (tickets rows) i 0 ≢ 0 → get_or (deadlines rows) i 0 ≡ now → (x < length rows) × (get_or (tickets rows) x 0 ≤ get_or (tickets rows) i 0)
  lowest i n d =
      let l = live_row rows i n in
      let e = entry_at rows i l in
      front_least h.slots here (omega arith) x is i l
      (live_home 256 (place_at now) rows i e.0 e.1 n ∙ ap (place_of now) (sym (entry_deadline rows i e.0 e.1) ∙ d) ∙ here_due now)

  pub slot_empty : length rows ≤ x → NoneDue now rows
  slot_empty m i l n d = omega (arith, (lowest i n d).0)

  pub slot_first : x < length rows → Foremost now rows x
  slot_first l =
      let e = entry_at rows x l in
      let v = front_live h.slots here (omega arith) x is l in
      let t = k.timed x v in
      let last = h.last in
      let place = ap (place_of now) (entry_deadline rows x e.0 e.1) ∙ sym (live_home 256 (place_at now) rows x e.0 e.1 v) ∙ front_home h.slots here (omega arith) x is in
      record {
        row = l;
        live = v;
        due = due_here now (get_or (deadlines rows) x 0) t.0 (omega arith) place;
        least = λ i ne n d.
            let a = (lowest i n d).1 in
            let f : get_or (tickets rows) x 0 ≢ get_or (tickets rows) i 0 = λ q. ne (sym (k.apart x i v q)) in
            omega arith;
      }

-- as the tick ends, all entries wait
pub waiting : {P : Type 0} (rows : List (Row P)) (l : Ledger) (tick : ℕ) → Kept rows l → tick < l.now → l.last ≤ 16777215 → Waiting tick rows
waiting rows l tick k before last =
    record {
      few = k.few;
      apart = k.apart;
      small = λ i. let a = k.issued i in let b = k.numbered in omega arith;
      later = λ i n. let t = k.timed i n in (omega arith, omega arith);
    }
