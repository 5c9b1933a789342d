-- The heap when an entry comes or goes, and its first entry.
use Rattle.std.proofs.Common.{◌≡◌, ℕ, ◌+◌, ◌-◌, ◌*◌, ◌<◌, ◌≤◌, ◌≢◌, List, [], ◌∷◌, length, get_or, set, sym, refl, ap, ◌∙◌, subst, arith}
use Rattle.std.proofs.lemmas.List.{length-append, length-map, get_or-map, get_or-set_other}
use Rattle.timer.specs.Meaning.{Entry, Meaning}
use Rattle.timer.specs.Rules.{entered, with_pending, without}
use Rattle.timer.proofs.Checks.{Open}
use Rattle.timer_rows.specs.declared.row.Row.{Row}
use Rattle.timer_rows.specs.declared.ledger.Ledger.{Ledger}
use Rattle.timer_rows.specs.Kept.{Kept}
use Rattle.timer_rows.specs.Rows.{tickets, deadlines, nexts, prevs, contents, entry_of, entries, vacated, meant, NoneDue, Foremost}
use Rattle.timer_rows.proofs.Moves.{some_row}
use Rattle.timer_rows.proofs.Pending.{all_entries, ticket_at, entries_find, entries_most, length_without, live_row}
use Rattle.timer_rows.proofs.Same.{same_column, same_length, column_set, set_length}
use Rattle.timer_heap.specs.Order.{Heap, Loose}
use Rattle.timer_heap.specs.Positions.{Index, Indexed, Ordered, Unsettled, Sinking, Soonest, key, keys, rank_at}
use Rattle.timer_heap.proofs.Places.{added_cell, enter_index, left_cell, leave_index}
use Rattle.timer_heap.proofs.Rises.{top_lowest}
use Rattle.timer_heap.proofs.Sinks.{settles, loose_past, moved_loose, added_loose}
use Rattle.timer_heap.proofs.Swaps.{reach, cell_b, swapped_index, swapped_other}

index_at : {ts ts' cs cs' ps ps' : List ℕ} (k : ℕ) → ts' ≡ ts → cs' ≡ cs → ps' ≡ ps → Index ts cs ps k → Index ts' cs' ps' k
index_at k e f g h = rw (e, f, g) h

empty_of : {X : Type 0} (xs : List X) → length xs ≡ 0 → xs ≡ []
empty_of [] e = refl
empty_of (x ∷ xs) e = absurd (omega arith)

-- the key of a row
key_at : {P : Type 0} (rows : List (Row P)) (i : ℕ) → i < length rows → get_or (keys rows) i 0 ≡ get_or (deadlines rows) i 0 * 4294967296 + get_or (tickets rows) i 0
key_at rows i l =
    let d = some_row rows i l in
    let a = get_or-map (λ r. key (entry_of r)) rows i d 0 l in
    let b = get_or-map (λ r. r.deadline) rows i d 0 l in
    let c = get_or-map (λ r. r.ticket) rows i d 0 l in
    omega arith

module _ {P : Type 0} (rows : List (Row P)) (l : Ledger) (k : Kept rows l) (h : Ordered rows l.pending) where
  -- an entry with the next ticket has come into the vacant row x, and to the end of the heap
  module _ (x deadline owner : ℕ) (payload : P) (xl : x < length rows) (v : get_or (tickets rows) x 0 ≡ 0) (o : Open (meant rows l) deadline owner) (t : ℕ) (mid rows' : List (Row P)) (e : t ≡ l.given + 1) (is : contents mid ≡ set (contents rows) x (record { ticket = t; deadline = deadline; owner = owner; payload = payload })) (links : (nexts mid ≡ nexts rows) × (prevs mid ≡ prevs rows)) where
    pub end_inside : l.pending < length rows
    end_inside = let m = entries_most rows in let s = k.sized in let n = o.room in omega arith

    pub mid_long : length mid ≡ length rows
    mid_long = set_length rows mid x _ is

    module _ (same : contents rows' ≡ contents mid) (cells : nexts rows' ≡ set (nexts mid) l.pending x) (places : prevs rows' ≡ set (prevs mid) x l.pending) where
      now_tickets : tickets rows' ≡ set (tickets rows) x t
      now_tickets = same_column (λ e. e.ticket) mid rows' same ∙ column_set (λ e. e.ticket) rows mid x _ is

      now_keys : keys rows' ≡ set (keys rows) x (deadline * 4294967296 + t)
      now_keys = same_column key mid rows' same ∙ column_set key rows mid x _ is

      now_cells : nexts rows' ≡ set (nexts rows) l.pending x
      now_cells = cells ∙ ap (λ c. set c l.pending x) links.0

      now_places : prevs rows' ≡ set (prevs rows) x l.pending
      now_places = places ∙ ap (λ c. set c x l.pending) links.1

      tn : t ≢ 0
      tn z = omega (arith, z, e)

      xt : x < length (tickets rows)
      xt = omega (arith, length-map rows (λ r. r.ticket))

      kt : l.pending < length (tickets rows)
      kt = omega (arith, length-map rows (λ r. r.ticket), end_inside)

      rank_kept : (i : ℕ) → i < l.pending → rank_at rows' i ≡ rank_at rows i
      rank_kept i b =
          let a = added_cell (tickets rows) (nexts rows) (prevs rows) l.pending h.index x t v xt kt tn i b in
          ap (λ c. get_or (keys rows') (get_or c i 0) 0) now_cells
          ∙ ap (λ r. get_or (keys rows') r 0) (get_or-set_other (nexts rows) l.pending i x 0 (omega arith))
          ∙ ap (λ c. get_or c (get_or (nexts rows) i 0) 0) now_keys
          ∙ get_or-set_other (keys rows) x (get_or (nexts rows) i 0) _ 0 a

      pub entered_unsettled : Unsettled rows' l.pending (l.pending + 1)
      entered_unsettled =
          record {
            few = omega (arith, k.few, same_length mid rows' same, mid_long);
            inside = omega arith;
            index = index_at (l.pending + 1) now_tickets now_cells now_places (enter_index (tickets rows) (nexts rows) (prevs rows) l.pending h.index x t v xt kt tn);
            loose = added_loose (rank_at rows) (rank_at rows') l.pending rank_kept h.heap;
          }

  -- the entry at the end has none below it
  pub inserted_ordered : (rows' : List (Row P)) (k k' : ℕ) → k' ≡ k + 1 → Sinking rows' k (k + 1) → Ordered rows' k'
  inserted_ordered rows' k k' e s =
      subst (λ n. Ordered rows' n) (sym e)
      (record { index = s.index; heap = settles (rank_at rows') k (k + 1) (λ i a b c. absurd (omega arith)) s.sunk })

  -- the count after an entry has come
  pub inserted_count : (rows' : List (Row P)) (l' : Ledger) (deadline owner : ℕ) (payload : P) → Kept rows' l' → meant rows' l' ≡ entered (meant rows l) deadline owner payload → l'.pending ≡ l.pending + 1
  inserted_count rows' l' deadline owner payload kept is =
      let a = kept.sized in
      let b = ap (λ (m : Meaning P). length m.pending) is in
      let c = length-append (entries rows) (record { ticket = l.given + 1; deadline = deadline; owner = owner; payload = payload } ∷ []) in
      let s = k.sized in
      omega arith

  -- the entry of the row x leaves: it has changed places with the last one, and then its row is vacated
  module _ (x : ℕ) (n : get_or (tickets rows) x 0 ≢ 0) where
    pub gap_inside : get_or (prevs rows) x 0 < l.pending
    gap_inside = h.index.placed x n

    module _ (gap last : ℕ) (ge : gap ≡ get_or (prevs rows) x 0) (le : last ≡ l.pending - 1) where
      gap_below : gap < l.pending
      gap_below = omega (arith, gap_inside, ge)

      last_below : last < l.pending
      last_below = omega (arith, gap_inside)

      module _ (mid rows' : List (Row P)) (cells : nexts mid ≡ set (set (nexts rows) gap (get_or (nexts rows) last 0)) last (get_or (nexts rows) gap 0)) (places : prevs mid ≡ set (set (prevs rows) (get_or (nexts rows) last 0) gap) (get_or (nexts rows) gap 0) last) (same : contents mid ≡ contents rows) (is : (d : Entry P) → contents rows' ≡ set (contents mid) x (vacated (get_or (contents mid) x d))) (links : (nexts rows' ≡ nexts mid) × (prevs rows' ≡ prevs mid)) where
        xl : x < length mid
        xl = omega (arith, live_row rows x n, same_length rows mid same)

        d : Entry P
        d = entry_of (some_row mid x xl)

        at_end : get_or (nexts mid) last 0 ≡ x
        at_end = cell_b rows l.pending h.index gap last gap_below last_below mid cells places same ∙ ap (λ i. get_or (nexts rows) i 0) ge ∙ h.index.there x n

        mid_index : Index (tickets mid) (nexts mid) (prevs mid) (last + 1)
        mid_index =
            subst (λ m. Indexed mid m) (let b = last_below in omega arith)
            (swapped_index rows l.pending h.index gap last gap_below last_below mid cells places same)

        left_rank : (i : ℕ) → i < last → i ≢ gap → rank_at rows' i ≡ rank_at rows i
        left_rank i b ng =
            let a = left_cell (tickets mid) (nexts mid) (prevs mid) last x mid_index at_end i b in
            ap (λ c. get_or (keys rows') (get_or c i 0) 0) links.0
            ∙ ap (λ c. get_or c (get_or (nexts mid) i 0) 0) (column_set key mid rows' x _ (is d))
            ∙ get_or-set_other (keys mid) x (get_or (nexts mid) i 0) _ 0 a
            ∙ swapped_other rows l.pending h.index gap last gap_below last_below mid cells places same i ng (omega arith)

        left_index : Indexed rows' last
        left_index =
            index_at last
            (column_set (λ e. e.ticket) mid rows' x _ (is d))
            links.0
            links.1
            (leave_index (tickets mid) (nexts mid) (prevs mid) last x mid_index at_end)

        left_loose : Loose (rank_at rows') gap last
        left_loose =
            moved_loose (rank_at rows) (rank_at rows') gap last left_rank
            (subst (λ m. Heap (rank_at rows) m) (let b = last_below in omega arith) h.heap)

        pub removed_unsettled : gap < last → Unsettled rows' gap last
        removed_unsettled b =
            record {
              few = omega (arith, k.few, same_length rows mid same, set_length mid rows' x _ (is d));
              inside = b;
              index = left_index;
              loose = left_loose;
            }

        pub removed_ordered : last ≤ gap → Ordered rows' last
        removed_ordered b = record { index = left_index; heap = loose_past (rank_at rows') gap last b left_loose }

    -- the count after it has gone
    left_count : (rows' : List (Row P)) (l' : Ledger) → Kept rows' l' → meant rows' l' ≡ with_pending (meant rows l) (without (get_or (tickets rows) x 0) (entries rows)) → l'.pending ≡ l.pending - 1
    left_count rows' l' kept is =
        let xl = live_row rows x n in
        let a = kept.sized in
        let b = ap (λ (m : Meaning P). length m.pending) is in
        let s = k.sized in
        let f = entries_find rows x (some_row rows x xl) k.apart xl n in
        let c = length_without (get_or (tickets rows) x 0) (entries rows) _ f in
        omega arith

    pub removed_all : (rows' : List (Row P)) (l' : Ledger) → Kept rows' l' → meant rows' l' ≡ with_pending (meant rows l) (without (get_or (tickets rows) x 0) (entries rows)) → (last : ℕ) → last ≡ l.pending - 1 → Ordered rows' last → Ordered rows' l'.pending
    removed_all rows' l' kept is last e o = subst (λ m. Ordered rows' m) (e ∙ sym (left_count rows' l' kept is)) o

  -- no entry is pending
  pub none_pending : l.pending ≡ 0 → entries rows ≡ []
  none_pending z = empty_of (entries rows) (sym k.sized ∙ z)

  -- the row at the top
  module _ (x : ℕ) (some : 0 < l.pending) (is : x ≡ get_or (nexts rows) 0 0) where
    pub top_row : (0 < length rows) × (x < length rows)
    top_row = let r = reach rows l.pending h.index 0 some in (r.0, omega (arith, r.1))

    top_live : get_or (tickets rows) x 0 ≢ 0
    top_live z = h.index.live 0 some (ap (λ i. get_or (tickets rows) i 0) (sym is) ∙ z)

    top_least : (i : ℕ) → get_or (tickets rows) i 0 ≢ 0 → get_or (keys rows) x 0 ≤ get_or (keys rows) i 0
    top_least i n =
        let p = h.index.placed i n in
        let t = top_lowest (rank_at rows) l.pending (get_or (prevs rows) i 0) h.heap p in
        let a = ap (λ r. get_or (keys rows) r 0) is in
        let b = ap (λ r. get_or (keys rows) r 0) (h.index.there i n) in
        omega arith

    -- its entry comes before all others
    pub top_soonest : Soonest (entries rows) (get_or (tickets rows) x 0)
    top_soonest =
        let xl = top_row.1 in
        let d = some_row rows x xl in
        let a = get_or-map (λ r. key (entry_of r)) rows x d 0 xl in
        record {
          entry = entry_of (get_or rows x d);
          found = entries_find rows x d k.apart xl top_live;
          first = all_entries (λ e. key (entry_of (get_or rows x d)) ≤ key e) rows (λ i f il n.
              let b = get_or-map (λ r. key (entry_of r)) rows i f 0 il in
              let c = top_least i (λ z. n (sym (ticket_at rows i f il) ∙ z)) in
              omega arith);
        }

    ticket_small : (i : ℕ) → get_or (tickets rows) i 0 < 4294967296
    ticket_small i = let a = k.issued i in let b = k.numbered in omega arith

    pub top_due : get_or (deadlines rows) x 0 ≡ l.now → Foremost l.now rows x
    top_due e =
        let kx = key_at rows x top_row.1 in
        record {
          row = top_row.1;
          live = top_live;
          due = e;
          least = λ i ne n q.
              let a = top_least i n in
              let c = key_at rows i (live_row rows i n) in
              let f : get_or (tickets rows) x 0 ≢ get_or (tickets rows) i 0 = λ w. ne (sym (k.apart x i top_live w)) in
              omega arith;
        }

    pub top_later : get_or (deadlines rows) x 0 ≢ l.now → NoneDue l.now rows
    top_later ne i b n q =
        let kx = key_at rows x top_row.1 in
        let a = top_least i n in
        let c = key_at rows i b in
        let f = (k.timed x top_live).0 in
        let g = ticket_small i in
        omega arith
