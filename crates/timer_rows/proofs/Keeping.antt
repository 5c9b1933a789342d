-- What a store keeps true stays true when a row takes in an entry or gives one up.
use Rattle.std.proofs.Common.{◌≡◌, ℕ, ◌+◌, ◌-◌, ◌^◌, ◌<◌, false, eqb, ltb, leb, ◌≢◌, ◌⊎◌, List, [], ◌∷◌, ◌++◌, map, length, get_or, set, Some, None, sym, ap, ◌∙◌, subst, ⊎_elim, arith}
use Rattle.std.proofs.lemmas.List.{get_or-map, get_or-replicate, get_or-set_same, length-map, length_push, length-set, map-set}
use Rattle.std.proofs.lemmas.Bool.Decides.{nat_tests}
use Rattle.timer.specs.Meaning.{Entry}
use Rattle.timer.specs.Rules.{count, find, without, check_rule, entered, with_pending}
use Rattle.timer.proofs.Checks.{Open, check_open}
use Rattle.timer_rows.specs.declared.row.Row.{Row}
use Rattle.timer_rows.specs.declared.ledger.Ledger.{Ledger}
use Rattle.timer_rows.specs.Rows.{tickets, entry_of, entries, meant}
use Rattle.timer_rows.specs.Counts.{raised, lowered}
use Rattle.timer_rows.specs.Kept.{Kept}
use Rattle.timer_rows.proofs.Columns.{column_same, set_cases}
use Rattle.timer_rows.proofs.Pending.{count_push, count_without, count_most, length_without, entries_insert, entries_remove, entries_find, entries_most}

module _ {P : Type 0} where
  -- a column of rows of which one is changed, at any place
  pub column_cases : (f : Row P → ℕ) (rows : List (Row P)) (x : ℕ) (r : Row P) (i : ℕ) → x < length rows → ((i ≡ x) × (get_or (map f (set rows x r)) i 0 ≡ f r)) ⊎ ((i ≢ x) × (get_or (map f (set rows x r)) i 0 ≡ get_or (map f rows) i 0))
  column_cases f rows x r i l =
      subst (λ col. ((i ≡ x) × (get_or col i 0 ≡ f r)) ⊎ ((i ≢ x) × (get_or col i 0 ≡ get_or (map f rows) i 0))) (sym (map-set f rows x r))
      (set_cases (map f rows) x (f r) 0 i (omega (arith, length-map rows f)))

  -- a count that changes for one owner
  counts_more : (cs : List ℕ) (es : List (Entry P)) (e : Entry P) (o : ℕ) → length cs ≡ 64 → e.owner < 64 → o < 64 → ((o : ℕ) → o < 64 → get_or cs o 0 ≡ count o es) → get_or (set cs e.owner (get_or cs e.owner 0 + 1)) o 0 ≡ count o (es ++ e ∷ [])
  counts_more cs es e o n w h c =
      let p = count_push o es e in
      ⊎_elim
      (λ q. let a = c e.owner w in let b = q.0 in let d = q.1 in subst (λ k. get_or (set cs e.owner (get_or cs e.owner 0 + 1)) k 0 ≡ count k (es ++ e ∷ [])) (sym b) (get_or-set_same cs e.owner _ 0 (omega arith) ∙ (let z = count_push e.owner es e in grind (arith, nat_tests))))
      (λ q. let a = c o h in let b = q.0 in let d = q.1 in d ∙ a ∙ grind (arith, nat_tests))
      (set_cases cs e.owner (get_or cs e.owner 0 + 1) 0 o (omega arith))

  counts_less : (cs : List ℕ) (es : List (Entry P)) (t : ℕ) (e : Entry P) (o : ℕ) → length cs ≡ 64 → e.owner < 64 → o < 64 → find t es ≡ Some e → ((o : ℕ) → o < 64 → get_or cs o 0 ≡ count o es) → get_or (set cs e.owner (get_or cs e.owner 0 - 1)) o 0 ≡ count o (without t es)
  counts_less cs es t e o n w h f c =
      let p = count_without o t es e f in
      ⊎_elim
      (λ q. let b = q.0 in subst (λ k. get_or (set cs e.owner (get_or cs e.owner 0 - 1)) k 0 ≡ count k (without t es)) (sym b) (get_or-set_same cs e.owner _ 0 (omega arith) ∙ (let a = c e.owner w in let z = count_without e.owner t es e f in grind (arith, nat_tests))))
      (λ q. let a = c o h in let b = q.0 in q.1 ∙ a ∙ grind (arith, nat_tests))
      (set_cases cs e.owner (get_or cs e.owner 0 - 1) 0 o (omega arith))

-- the numbers that an entry raises fit their types
pub insert_fits : {P : Type 0} (rows : List (Row P)) (l : Ledger) → Kept rows l → (deadline owner : ℕ) → Open (meant rows l) deadline owner → (l.given + 1 < 2 ^ 32) × (l.pending + 1 < 2 ^ 16) × (get_or l.counts owner 0 + 1 < 2 ^ 16)
insert_fits rows l k deadline owner o =
    let m = entries_most rows in
    let w = count_most owner (entries rows) in
    let a = k.counted owner o.known in
    let b = k.few in
    (let e = k.numbered in let f = o.fresh in omega arith, omega (arith, k.sized), omega arith)

module _ {P : Type 0} (rows : List (Row P)) (l : Ledger) (k : Kept rows l) (x : ℕ) (r : Row P) (xl : x < length rows) where
  -- x is vacant, and takes in r
  module _ (v : get_or (tickets rows) x 0 ≡ 0) (o : Open (meant rows l) r.deadline r.owner) (t : r.ticket ≡ l.given + 1) (top : ℕ) where
    pub entries_with : entries (set rows x r) ≡ entries rows ++ entry_of r ∷ []
    entries_with = entries_insert rows x r xl v (λ i. omega (arith, k.issued i))

    pub kept_insert : Kept (set rows x r) (raised l r.owner top)
    kept_insert =
        record {
          few = simp length-set k.few;
          apart = λ i j n e.
              ⊎_elim
              (λ p. ⊎_elim
              (λ q. p.0 ∙ sym q.0)
              (λ q. absurd (omega (arith, p.1, q.1, k.issued j)))
              (column_cases (λ r. r.ticket) rows x r j xl))
              (λ p. ⊎_elim
              (λ q. absurd (omega (arith, p.1, q.1, k.issued i)))
              (λ q. k.apart i j (λ z. n (p.1 ∙ z)) (sym p.1 ∙ e ∙ q.1))
              (column_cases (λ r. r.ticket) rows x r j xl))
              (column_cases (λ r. r.ticket) rows x r i xl);
          issued = λ i.
              ⊎_elim
              (λ p. omega (arith, p.1))
              (λ p. omega (arith, p.1, k.issued i))
              (column_cases (λ r. r.ticket) rows x r i xl);
          numbered = let a = k.numbered in let b = o.fresh in omega arith;
          each = simp length-set k.each;
          sized = omega (arith, k.sized, ap length entries_with, length_push (entries rows) (entry_of r));
          counted = λ w h. counts_more l.counts (entries rows) (entry_of r) w k.each o.known h k.counted ∙ ap (count w) (sym entries_with);
          owned = λ i n.
              ⊎_elim
              (λ p. omega (arith, p.1, o.known))
              (λ p. ⊎_elim
              (λ q. absurd (p.0 q.0))
              (λ q. omega (arith, p.1, k.owned i (λ z. n (q.1 ∙ z))))
              (column_cases (λ r. r.ticket) rows x r i xl))
              (column_cases (λ r. r.owner) rows x r i xl);
          timed = λ i n.
              ⊎_elim
              (λ p. (omega (arith, p.1, o.later), omega (arith, p.1, o.within)))
              (λ p. ⊎_elim
              (λ q. absurd (p.0 q.0))
              (λ q. let w = k.timed i (λ z. n (q.1 ∙ z)) in (omega (arith, p.1), omega (arith, p.1)))
              (column_cases (λ r. r.ticket) rows x r i xl))
              (column_cases (λ r. r.deadline) rows x r i xl);
          clock = k.clock;
          fits = k.fits;
        }

    pub meant_insert : meant (set rows x r) (raised l r.owner top) ≡ entered (meant rows l) r.deadline r.owner r.payload
    meant_insert =
        let n = length-set rows x r in
        let e : entry_of r ≡ record { ticket = l.given + 1; deadline = r.deadline; owner = r.owner; payload = r.payload } = ap (λ i. record { ticket = i; deadline = r.deadline; owner = r.owner; payload = r.payload }) t in
        rw (entries_with, n, e)

  -- x holds an entry, and gives it up
  module _ (s : Row P) (is : s ≡ get_or rows x s) (v : get_or (tickets rows) x 0 ≢ 0) (t : r.ticket ≡ 0) (ow : r.owner ≡ s.owner) (dl : r.deadline ≡ s.deadline) where
    found : find (get_or (tickets rows) x 0) (entries rows) ≡ Some (entry_of s)
    found = entries_find rows x s k.apart xl v ∙ ap (λ (q : Row P). Some (entry_of q)) (sym is)

    pub entries_but : entries (set rows x r) ≡ without (get_or (tickets rows) x 0) (entries rows)
    entries_but = entries_remove rows x r k.apart v t

    -- the counts can be lowered
    pub remove_known : s.owner < 64
    remove_known = omega (arith, k.owned x v, get_or-map (λ r. r.owner) rows x s 0 xl, ap (λ (q : Row P). q.owner) is)

    pub remove_some : (0 < l.pending) × (0 < get_or l.counts s.owner 0)
    remove_some =
        let a = length_without (get_or (tickets rows) x 0) (entries rows) (entry_of s) found in
        let b = count_without s.owner (get_or (tickets rows) x 0) (entries rows) (entry_of s) found in
        let c = k.counted s.owner remove_known in
        (omega (arith, k.sized), grind (arith, nat_tests))

    pub kept_remove : (y : ℕ) → Kept (set rows x r) (lowered l s.owner y)
    kept_remove y =
        record {
          few = simp length-set k.few;
          apart = λ i j n e.
              ⊎_elim
              (λ p. absurd (n (p.1 ∙ t)))
              (λ p. ⊎_elim
              (λ q. absurd (n (e ∙ q.1 ∙ t)))
              (λ q. k.apart i j (λ z. n (p.1 ∙ z)) (sym p.1 ∙ e ∙ q.1))
              (column_cases (λ r. r.ticket) rows x r j xl))
              (column_cases (λ r. r.ticket) rows x r i xl);
          issued = λ i.
              ⊎_elim
              (λ p. omega (arith, p.1))
              (λ p. omega (arith, p.1, k.issued i))
              (column_cases (λ r. r.ticket) rows x r i xl);
          numbered = k.numbered;
          each = simp length-set k.each;
          sized = omega (arith, k.sized, ap length entries_but, length_without (get_or (tickets rows) x 0) (entries rows) (entry_of s) found);
          counted = λ w h. counts_less l.counts (entries rows) (get_or (tickets rows) x 0) (entry_of s) w k.each remove_known h found k.counted ∙ ap (count w) (sym entries_but);
          owned = λ i n.
              ⊎_elim
              (λ p. absurd (n (p.1 ∙ t)))
              (λ p. rw (column_same (λ r. r.owner) rows x r s xl (ow ∙ ap (λ (q : Row P). q.owner) is)) (k.owned i (λ z. n (p.1 ∙ z))))
              (column_cases (λ r. r.ticket) rows x r i xl);
          timed = λ i n.
              ⊎_elim
              (λ p. absurd (n (p.1 ∙ t)))
              (λ p. rw (column_same (λ r. r.deadline) rows x r s xl (dl ∙ ap (λ (q : Row P). q.deadline) is)) (k.timed i (λ z. n (p.1 ∙ z))))
              (column_cases (λ r. r.ticket) rows x r i xl);
          clock = k.clock;
          fits = k.fits;
        }

    pub meant_remove : (y : ℕ) → meant (set rows x r) (lowered l s.owner y) ≡ with_pending (meant rows l) (without (get_or (tickets rows) x 0) (entries rows))
    meant_remove y = let n = length-set rows x r in rw (entries_but, n)

-- where the store is not full, no owner has reached its limit
pub check_none : {P : Type 0} (rows : List (Row P)) (l : Ledger) → Kept rows l → (deadline owner : ℕ) → leb deadline l.now ≡ false → ltb l.last deadline ≡ false → owner < 64 → eqb l.given 4294967295 ≡ false → l.pending ≢ length rows → None ≡ check_rule (meant rows l) deadline owner
check_none rows l k deadline owner a b c d e =
    let n : length (entries rows) ≢ length rows = λ q. e (k.sized ∙ q) in
    let m = entries_most rows in
    let w = count_most owner (entries rows) in
    let g = get_or-replicate 64 owner (length rows) 0 c in
    check_open (meant rows l) deadline owner a b c d n (omega arith)
