-- One row of the slot that is emptied goes to the slot of its place at the next tick.
use Rattle.std.proofs.Common.{◌≡◌, ℕ, ◌+◌, ◌-◌, ◌%◌, ◌<◌, ◌≤◌, cond, ◌≢◌, List, length, get_or, Some, sym, ap, ◌∙◌, ⊎_elim, arith}
use Rattle.std.specs.Prelude.{slice_get}
use Rattle.std.proofs.lemmas.List.{get_or_default, get_or_past, length-map}
use Rattle.std.proofs.lemmas.Bool.{cases_lt, lt-ltb, le-ltb}
use Rattle.timer.specs.Meaning.{Entry}
use Rattle.timer_rows.specs.declared.row.Row.{Row}
use Rattle.timer_rows.specs.declared.ends.Ends.{Ends}
use Rattle.timer_rows.specs.Links.{ons}
use Rattle.timer_rows.specs.Rows.{tickets, deadlines, contents}
use Rattle.timer_rows.specs.Slots.{Moves}
use Rattle.timer_rows.proofs.Homes.{entry_at, entry_deadline, entry_row, entry_ticket, front_home, front_least, front_live, live_home}
use Rattle.timer_rows.proofs.Moves.{slots_agree}
use Rattle.timer_rows.proofs.Same.{same_column, same_length}
use Rattle.timer_wheel.specs.Place.{place_of, cascade_place_of}
use Rattle.timer_wheel.specs.Placed.{place_at, key, Slotted}
use Rattle.timer_wheel.specs.Emptying.{Waiting, place_midway, Midway}
use Rattle.timer_wheel.proofs.Places.{cascade_place_below, quiet, falls, stays, low, gone}

-- only the links changed
pub same_waiting : {P : Type 0} (n : ℕ) (a b : List (Row P)) → contents b ≡ contents a → Waiting n a → Waiting n b
same_waiting n a b e w =
    let t : tickets b ≡ tickets a = same_column (λ x. x.ticket) a b e in
    let d : deadlines b ≡ deadlines a = same_column (λ x. x.deadline) a b e in
    record {
      few = rw (same_length a b e) w.few;
      apart = rw t w.apart;
      small = rw t w.small;
      later = rw (t, d) w.later;
    }

-- the place of an entry whose ticket is below k, and of another
module _ {P : Type 0} (n k : ℕ) (e : Entry P) where
  gone_on : e.ticket < k → place_midway n k e ≡ place_of (n + 1) e.deadline
  gone_on l = ap (λ b. cond b (place_of (n + 1) e.deadline) (place_of n e.deadline)) (lt-ltb e.ticket k l)

  left : k ≤ e.ticket → place_midway n k e ≡ place_of n e.deadline
  left l = ap (λ b. cond b (place_of (n + 1) e.deadline) (place_of n e.deadline)) (le-ltb e.ticket k l)

module _ {P : Type 0} (n : ℕ) (z : (n + 1) % 64 ≡ 0) (rows : List (Row P)) (w : Waiting n rows) where
  -- the slot that is emptied
  abbrev from : ℕ
  from = cascade_place_of (n + 1)

  -- the row i holds e
  abbrev At : ℕ → Entry P → Type 0
  At i e = slice_get (contents rows) i ≡ Some e

  to_come : (i : ℕ) (e : Entry P) → At i e → e.ticket ≢ 0 → (n < e.deadline) × (e.deadline ≤ 16777215)
  to_come i e at v =
      let y = w.later i (λ q. v (sym (entry_ticket rows i e at) ∙ q)) in
      let d = entry_deadline rows i e at in
      (omega arith, omega arith)

  module _ (es : List Ends) (k : ℕ) (m : Midway n k rows es) (x : ℕ) (is : x ≡ get_or (ons rows es) (length rows + cascade_place_of (n + 1)) 0) where
    -- no entry that has yet to go has a lower ticket than the front row
    lowest : (i : ℕ) (e : Entry P) → At i e → e.ticket ≢ 0 → k ≤ e.ticket → place_of n e.deadline ≡ from → (x < length rows) × (get_or (tickets rows) x 0 ≤ e.ticket)
    lowest i e at v h p =
        let t = entry_ticket rows i e at in
        let home = live_home 256 (place_midway n k) rows i e at (λ q. v (sym t ∙ q)) ∙ left n k e h ∙ p in
        let f = front_least m from (cascade_place_below (n + 1)) x is i (entry_row rows i e at) home in
        (f.0, omega (arith, f.1, t))

    -- the slot is empty: every entry lies where the next tick says
    pub slot_emptied : length rows ≤ x → Slotted (n + 1) rows es
    slot_emptied g =
        slots_agree m (place_at (n + 1)) (λ i e at v.
        ⊎_elim
        (λ (h : e.ticket < k). sym (gone_on n k e h))
        (λ (h : k ≤ e.ticket).
        let y = to_come i e at v in
        stays n e.deadline y.0 y.1 (λ p. omega (arith, (lowest i e at v h p).0)) ∙ sym (left n k e h))
        (cases_lt e.ticket k))

    module _ (l : x < length rows) where
      abbrev ticket : ℕ
      ticket = get_or (tickets rows) x 0

      pub front_ticket : ticket ≢ 0
      front_ticket = front_live m from (cascade_place_below (n + 1)) x is l

      -- the front row has yet to go
      waits : (e : Entry P) → At x e → (k ≤ e.ticket) × (place_of n e.deadline ≡ from)
      waits e at =
          let t = entry_ticket rows x e at in
          let p : place_midway n k e ≡ from = sym (live_home 256 (place_midway n k) rows x e at front_ticket) ∙ front_home m from (cascade_place_below (n + 1)) x is in
          ⊎_elim
          (λ (h : e.ticket < k). let y = to_come x e at (λ q. front_ticket (t ∙ q)) in absurd (gone n e.deadline y.0 y.1 z (sym (gone_on n k e h) ∙ p)))
          (λ (h : k ≤ e.ticket). (h, sym (left n k e h) ∙ p))
          (cases_lt e.ticket k)

      -- it goes to a slot on a lower level, where all have gone before it
      pub goes : Moves (place_midway n k) (place_midway n (ticket + 1)) key rows x (place_of (n + 1) (get_or (deadlines rows) x 0))
      goes =
          record {
            there = λ e at. gone_on n (ticket + 1) e (omega (arith, entry_ticket rows x e at)) ∙ ap (place_of (n + 1)) (sym (entry_deadline rows x e at));
            others = λ i e ne at v.
                let t = entry_ticket rows i e at in
                let f = entry_at rows x l in
                let q = waits f.0 f.1 in
                let u = entry_ticket rows x f.0 f.1 in
                ⊎_elim
                (λ (h : e.ticket < k). gone_on n (ticket + 1) e (omega arith) ∙ sym (gone_on n k e h))
                (λ (h : k ≤ e.ticket).
                ⊎_elim
                (λ (j : e.ticket < ticket).
                let y = to_come i e at v in
                gone_on n (ticket + 1) e (omega arith) ∙ stays n e.deadline y.0 y.1 (λ p. omega (arith, (lowest i e at v h p).1)) ∙ sym (left n k e h))
                (λ (j : ticket ≤ e.ticket).
                let d : e.ticket ≢ ticket = λ p. ne (sym (w.apart x i front_ticket (sym (t ∙ p)))) in
                left n (ticket + 1) e (omega arith) ∙ sym (left n k e h))
                (cases_lt e.ticket ticket))
                (cases_lt e.ticket k);
            last = λ i e f ne at af v p.
                let q = waits e at in
                let u = entry_ticket rows x e at in
                let y = to_come x e at (λ r. front_ticket (u ∙ r)) in
                let b = falls n e.deadline y.0 y.1 z q.1 in
                let d = ap (place_of (n + 1)) (entry_deadline rows x e at) in
                let c = to_come i f af v in
                ⊎_elim
                (λ (h : f.ticket < k). omega arith)
                (λ (h : k ≤ f.ticket). absurd (omega (arith, low n f.deadline c.0 c.1, p, d, left n k f h)))
                (cases_lt f.ticket k);
          }

    -- another row has come to the front, whose ticket is higher
    pub front_rises : (t : ℕ) → t < k → t < 4294967296 → 4294967296 - get_or (tickets rows) x 4294967296 < 4294967296 - t
    front_rises t h u =
        let n' = length-map rows (λ r. r.ticket) in
        ⊎_elim
        (λ (l : x < length rows).
        let e = get_or_default (tickets rows) x 4294967296 0 (omega arith) in
        let f = entry_at rows x l in
        let v = (waits l f.0 f.1).0 in
        let y = w.small x in
        omega (arith, entry_ticket rows x f.0 f.1))
        (λ (l : length rows ≤ x).
        let e = get_or_past (tickets rows) x 4294967296 (omega arith) in
        omega arith)
        (cases_lt x (length rows))

-- nothing has moved yet
pub begun : {P : Type 0} (n : ℕ) (rows : List (Row P)) (es : List Ends) → Slotted n rows es → Midway n 0 rows es
begun n rows es s = slots_agree s (place_midway n 0) (λ i e at v. left n 0 e (omega arith))

-- and where digit 0 of the next tick is not zero, nothing does
pub still : {P : Type 0} (n : ℕ) (rows : List (Row P)) (es : List Ends) → (n + 1) % 64 ≢ 0 → Slotted n rows es → Slotted (n + 1) rows es
still n rows es z s = slots_agree s (place_at (n + 1)) (λ i e at v. quiet n e.deadline z)
