-- Slots when an entry comes, goes or moves.
use Rattle.std.proofs.Common.{◌≡◌, ℕ, ◌+◌, ◌-◌, ◌<◌, ◌≤◌, cond, eqb, ◌≢◌, List, [], ◌∷◌, ◌++◌, map, length, get_or, set, Some, sym, refl, ap, ◌∙◌, ⊎_elim, arith}
use Rattle.std.specs.Prelude.{slice_get}
use Rattle.std.proofs.lemmas.List.{get_or_past, get_or-set_other, get_or-set_same, length-map, length-set, set-append_left, set-get_or, set-set}
use Rattle.std.proofs.lemmas.Bool.{cases_eq, cases_lt, eq-eqb, ne_eqb}
use Rattle.timer.specs.Meaning.{Entry}
use Rattle.timer_rows.specs.declared.row.Row.{Row}
use Rattle.timer_rows.specs.declared.ends.Ends.{Ends}
use Rattle.timer_rows.specs.Links.{ons, backs, Leads, Linked, keys_by}
use Rattle.timer_rows.specs.Rows.{tickets, nexts, prevs, contents, entry_of, vacated}
use Rattle.timer_rows.specs.Slots.{home, numbered, homes, Slots, Between, Moves}
use Rattle.timer_rows.proofs.Columns.{column_length, end_link, set_cases}
use Rattle.timer_rows.proofs.Linking.{linked_at, linked_in, linked_key, linked_out}
use Rattle.timer_rows.proofs.Same.{column_set, same_column, same_length, set_length}
use Rattle.timer_rows.proofs.Homes.{column_at, entry_at, entry_ticket, home_live, homes_are, homes_length, live_home, row_home, sentinel_home, vacant_home}

module _ {P : Type 0} where
  -- a list that is not empty has a row
  pub some_row : (rows : List (Row P)) (x : ℕ) → x < length rows → Row P
  some_row [] x l = absurd (omega arith)
  some_row (r ∷ rs) x l = r

  -- the links of all nodes, where those of the rows stay
  pub ons_same : (a b : List (Row P)) (es : List Ends) → nexts b ≡ nexts a → ons b es ≡ ons a es
  ons_same a b es e = ap (λ c. c ++ map (λ e. e.head) es) e

  pub backs_same : (a b : List (Row P)) (es : List Ends) → prevs b ≡ prevs a → backs b es ≡ backs a es
  backs_same a b es e = ap (λ c. c ++ map (λ e. e.tail) es) e

  -- the slots of the nodes when what one row holds changes
  homes_set : (m : ℕ) (slot : Entry P → ℕ) (a b : List (Row P)) (x : ℕ) (e : Entry P) → x < length a → contents b ≡ set (contents a) x e → homes m slot b ≡ set (homes m slot a) x (home m slot e)
  homes_set m slot a b x e l is =
      ap (λ c. c ++ numbered m) (column_set (home m slot) a b x e is)
      ∙ sym (set-append_left (map (λ r. home m slot (entry_of r)) a) (numbered m) x (home m slot e) (omega (arith, length-map a (λ r. home m slot (entry_of r)))))

  -- and when only links change
  homes_same : (m : ℕ) (slot : Entry P → ℕ) (a b : List (Row P)) → contents b ≡ contents a → homes m slot b ≡ homes m slot a
  homes_same m slot a b e = ap (λ c. c ++ numbered m) (same_column (home m slot) a b e)

  -- where one row is in another slot, or in none
  each_set : (m : ℕ) (a b : List (Row P)) (slot slot' : Entry P → ℕ) (x t s : ℕ) → tickets b ≡ set (tickets a) x t → homes m slot' b ≡ set (homes m slot a) x s → ((i : ℕ) → get_or (tickets a) i 0 ≢ 0 → get_or (homes m slot a) i m < m) → (t ≢ 0 → s < m) → x < length a → (i : ℕ) → get_or (tickets b) i 0 ≢ 0 → get_or (homes m slot' b) i m < m
  each_set m a b slot slot' x t s ts hs each here l i n =
      let lt : x < length (tickets a) = omega (arith, length-map a (λ r. r.ticket)) in
      ⊎_elim
      (λ p. let e = ap (λ c. get_or c i 0) ts ∙ p.1 in omega (arith, here (λ z. n (e ∙ z)), ap (λ c. get_or c i m) hs, ap (λ j. get_or (set (homes m slot a) x s) j m) p.0, get_or-set_same (homes m slot a) x s m (omega (arith, homes_length m slot a))))
      (λ p. let e = ap (λ c. get_or c i 0) ts ∙ p.1 in omega (arith, each i (λ z. n (e ∙ z)), ap (λ c. get_or c i m) hs, get_or-set_other (homes m slot a) x i s m p.0))
      (set_cases (tickets a) x t 0 i lt)

module _ {P : Type 0} {slot key : Entry P → ℕ} {rows : List (Row P)} {es : List Ends} {m : ℕ} (h : Slots slot key rows es m) where
  -- another map by which every pending entry is for the slot that it was for
  pub slots_agree : (slot' : Entry P → ℕ) → ((i : ℕ) (e : Entry P) → slice_get (contents rows) i ≡ Some e → e.ticket ≢ 0 → slot' e ≡ slot e) → Slots slot' key rows es m
  slots_agree slot' same =
      let hs : homes m slot' rows ≡ homes m slot rows = homes_are m slot' rows (homes m slot rows) (homes_length m slot rows)
      (λ i e is.
      ⊎_elim
      (λ (z : e.ticket ≡ 0). ap (λ b. cond b m (slot' e)) (eq-eqb e.ticket 0 z) ∙ sym (ap (λ b. cond b m (slot e)) (eq-eqb e.ticket 0 z)) ∙ sym (row_home m slot rows i e is))
      (λ (n : e.ticket ≢ 0). ap (λ v. cond (eqb e.ticket 0) m v) (same i e is n) ∙ sym (row_home m slot rows i e is))
      (cases_eq e.ticket 0))
      (λ s l. sentinel_home m slot rows s l) in
      record { each = λ i n. rw hs (h.each i n); linked = linked_at m refl refl hs refl refl h.linked }

  -- the row x is taken out and gives up its entry
  pub slots_remove : (x : ℕ) (mid rows' : List (Row P)) (es' : List Ends) → x < length rows → get_or (tickets rows) x 0 ≢ 0 → contents mid ≡ contents rows → ons mid es' ≡ set (ons rows es) (get_or (backs rows es) x 0) (get_or (ons rows es) x 0) → backs mid es' ≡ set (backs rows es) (get_or (ons rows es) x 0) (get_or (backs rows es) x 0) → ((d : Entry P) → contents rows' ≡ set (contents mid) x (vacated (get_or (contents mid) x d))) → (nexts rows' ≡ nexts mid) × (prevs rows' ≡ prevs mid) → Slots slot key rows' es' m
  slots_remove x mid rows' es' l live same on back is links =
      let k = h.linked in
      let w = h.each x live in
      let e = vacated (get_or (contents mid) x (entry_at rows x l).0) in
      let put = is (entry_at rows x l).0 in
      let n = same_length rows mid same in
      let out = linked_out (ons rows es) (backs rows es) (homes m slot rows) (keys_by key rows) (length rows) m k x l w in
      let free = get_or-set_same (homes m slot rows) x m m (omega (arith, k.homes)) in
      let hs : homes m slot rows' ≡ set (homes m slot rows) x m = homes_set m slot mid rows' x e (omega arith) put ∙ ap (λ c. set c x m) (homes_same m slot rows mid same) in
      let ts : tickets rows' ≡ set (tickets rows) x 0 = column_set (λ e. e.ticket) mid rows' x e put ∙ ap (λ c. set c x 0) (same_column (λ e. e.ticket) rows mid same) in
      record {
        each = each_set m rows rows' slot slot x 0 m ts hs h.each (λ n. absurd (n refl)) l;
        linked = linked_at m
            (ons_same mid rows' es' links.0 ∙ on)
            (backs_same mid rows' es' links.1 ∙ back)
            hs
            (column_set key mid rows' x e put ∙ ap (λ c. set c x (key e)) (same_column key rows mid same))
            (set_length mid rows' x e put ∙ n)
            (linked_key _ _ _ _ (length rows) m out x (key e) l (omega (arith, free)));
      }

  -- the vacant row x takes in an entry, and is put before the node q
  pub slots_insert : (x q : ℕ) (e : Entry P) (mid rows' : List (Row P)) (es' : List Ends) → x < length rows → get_or (tickets rows) x 0 ≡ 0 → e.ticket ≢ 0 → Between slot key rows es m q e → contents mid ≡ set (contents rows) x e → (nexts mid ≡ nexts rows) × (prevs mid ≡ prevs rows) → contents rows' ≡ contents mid → ons rows' es' ≡ set (set (ons mid es) (get_or (backs mid es) q 0) x) x q → backs rows' es' ≡ set (set (backs mid es) q x) x (get_or (backs mid es) q 0) → Slots slot key rows' es' m
  slots_insert x q e mid rows' es' l v n b is links same on back =
      let at : home m slot e ≡ slot e = ap (λ b. cond b m (slot e)) (ne_eqb e.ticket 0 n) in
      let free = vacant_home m slot rows x l v in
      let onm = ons_same rows mid es links.0 in
      let bkm = backs_same rows mid es links.1 in
      let hs : homes m slot rows' ≡ set (homes m slot rows) x (slot e) = homes_same m slot mid rows' same ∙ homes_set m slot rows mid x e l is ∙ ap (set (homes m slot rows) x) at in
      let ts : tickets rows' ≡ set (tickets rows) x e.ticket = same_column (λ e. e.ticket) mid rows' same ∙ column_set (λ e. e.ticket) rows mid x e is in
      record {
        each = each_set m rows rows' slot slot x e.ticket (slot e) ts hs h.each (λ n. b.slot_below) l;
        linked = linked_at m
            (on ∙ ap (λ c. set (set c (get_or (backs mid es) q 0) x) x q) onm ∙ ap (λ c. set (set (ons rows es) (get_or c q 0) x) x q) bkm)
            (back ∙ ap (λ c. set (set c q x) x (get_or c q 0)) bkm)
            hs
            (same_column key mid rows' same ∙ column_set key rows mid x e is)
            (same_length mid rows' same ∙ set_length rows mid x e is)
            (linked_in (ons rows es) (backs rows es) (homes m slot rows) (keys_by key rows) (length rows) m h.linked x q (slot e) (key e) l (omega (arith, free)) b.node b.slot_below b.after b.before);
      }

  -- an entry whose key is above all belongs before the sentinel of its slot
  pub between_last : (e : Entry P) (s q : ℕ) → s < m → slot e ≡ s → q ≡ length rows + s → ((i : ℕ) (f : Entry P) → slice_get (contents rows) i ≡ Some f → key f < key e) → Between slot key rows es m q e
  between_last e s q sm of at up =
      record {
        slot_below = omega arith;
        node = ap (λ i. get_or (homes m slot rows) i m) at ∙ sentinel_home m slot rows s sm ∙ sym of;
        after = λ l.
            let f = entry_at rows (get_or (backs rows es) q 0) l in
            omega (arith, column_at rows key (get_or (backs rows es) q 0) 0 f.0 f.1, up (get_or (backs rows es) q 0) f.0 f.1);
        before = λ l. absurd (omega arith);
      }

  -- once the row x is out, the last node of a slot is a node
  pub last_out : (x s : ℕ) → x < length rows → get_or (tickets rows) x 0 ≢ 0 → s < m → get_or (set (backs rows es) (get_or (ons rows es) x 0) (get_or (backs rows es) x 0)) (length rows + s) 0 < length rows + m
  last_out x s l n sm =
      let out = linked_out (ons rows es) (backs rows es) (homes m slot rows) (keys_by key rows) (length rows) m h.linked x l (h.each x n) in
      (out.back (length rows + s) (omega (arith, out.sentinels s sm))).0

  -- the row x is taken out, and put before the sentinel of another slot
  module _ (slot' : Entry P → ℕ) (x s : ℕ) (sm : s < m) (xl : x < length rows) (xt : get_or (tickets rows) x 0 ≢ 0) (move : Moves slot slot' key rows x s) where
    xh : get_or (homes m slot rows) x m < m
    xh = h.each x xt

    abbrev e : Entry P
    e = (entry_at rows x xl).0

    at : slice_get (contents rows) x ≡ Some e
    at = (entry_at rows x xl).1

    abbrev ons_out : List ℕ
    ons_out = set (ons rows es) (get_or (backs rows es) x 0) (get_or (ons rows es) x 0)

    abbrev backs_out : List ℕ
    backs_out = set (backs rows es) (get_or (ons rows es) x 0) (get_or (backs rows es) x 0)

    out : Linked ons_out backs_out (set (homes m slot rows) x m) (keys_by key rows) (length rows) m
    out = linked_out (ons rows es) (backs rows es) (homes m slot rows) (keys_by key rows) (length rows) m h.linked x xl xh

    end : get_or (set (homes m slot rows) x m) (length rows + s) m ≡ s
    end = out.sentinels s sm

    -- whatever is in that slot has a lower key
    below : get_or backs_out (length rows + s) 0 < length rows → get_or (keys_by key rows) (get_or backs_out (length rows + s) 0) 0 < key e
    below l =
        let q = get_or backs_out (length rows + s) 0 in
        let b = out.back (length rows + s) (omega (arith, end)) in
        let hl = homes_length m slot rows in
        ⊎_elim
        (λ c. absurd (omega (arith, b.1, end, c.1)))
        (λ c.
        let v : get_or (homes m slot rows) (get_or backs_out (length rows + s) 0) m ≡ s = sym c.1 ∙ b.1 ∙ end in
        let f = entry_at rows (get_or backs_out (length rows + s) 0) l in
        let n = home_live m slot rows (get_or backs_out (length rows + s) 0) l (omega (arith, v)) in
        let t = entry_ticket rows (get_or backs_out (length rows + s) 0) f.0 f.1 in
        let g = move.last (get_or backs_out (length rows + s) 0) e f.0 c.0 at f.1 (λ z. n (t ∙ z)) (sym (live_home m slot rows (get_or backs_out (length rows + s) 0) f.0 f.1 n) ∙ v) in
        omega (arith, g, column_at rows key (get_or backs_out (length rows + s) 0) 0 f.0 f.1))
        (set_cases (homes m slot rows) x m m (get_or backs_out (length rows + s) 0) (omega arith))

    into : Linked (set (set ons_out (get_or backs_out (length rows + s) 0) x) x (length rows + s)) (set (set backs_out (length rows + s) x) x (get_or backs_out (length rows + s) 0)) (set (set (homes m slot rows) x m) x s) (set (keys_by key rows) x (key e)) (length rows) m
    into =
        let hl = homes_length m slot rows in
        let g = get_or-set_same (homes m slot rows) x m m (omega arith) in
        linked_in ons_out backs_out (set (homes m slot rows) x m) (keys_by key rows) (length rows) m out x (length rows + s) s (key e) xl (omega arith) end sm below (λ l. absurd (omega arith))

    homes_then : homes m slot' rows ≡ set (set (homes m slot rows) x m) x s
    homes_then =
        let hl = homes_length m slot rows in
        let hl' : length (set (homes m slot rows) x m) ≡ length rows + m = length-set (homes m slot rows) x m ∙ hl in
        homes_are m slot' rows (set (set (homes m slot rows) x m) x s) (length-set (set (homes m slot rows) x m) x s ∙ hl')
        (λ i f is.
        ⊎_elim
        (λ c.
        let is' = ap (slice_get (contents rows)) (sym c.0) ∙ is in
        let t = entry_ticket rows x f is' in
        ap (λ b. cond b m (slot' f)) (ne_eqb f.ticket 0 (λ z. xt (t ∙ z))) ∙ move.there f is' ∙ sym c.1)
        (λ c.
        let r = get_or-set_other (homes m slot rows) x i m m c.0 in
        ⊎_elim
        (λ (z : f.ticket ≡ 0). ap (λ b. cond b m (slot' f)) (eq-eqb f.ticket 0 z) ∙ sym (ap (λ b. cond b m (slot f)) (eq-eqb f.ticket 0 z)))
        (λ (n : f.ticket ≢ 0). ap (λ v. cond (eqb f.ticket 0) m v) (move.others i f c.0 is n))
        (cases_eq f.ticket 0)
        ∙ sym (row_home m slot rows i f is) ∙ sym r ∙ sym c.1)
        (set_cases (set (homes m slot rows) x m) x s m i (omega arith)))
        (λ u ul. into.sentinels u ul)

    pub slots_move : (mid rows' : List (Row P)) (es₁ es' : List Ends) → contents mid ≡ contents rows → ons mid es₁ ≡ ons_out → backs mid es₁ ≡ backs_out → contents rows' ≡ contents mid → ons rows' es' ≡ set (set (ons mid es₁) (get_or (backs mid es₁) (length mid + s) 0) x) x (length mid + s) → backs rows' es' ≡ set (set (backs mid es₁) (length mid + s) x) x (get_or (backs mid es₁) (length mid + s) 0) → Slots slot' key rows' es' m
    slots_move mid rows' es₁ es' a b c d f g =
        let same : contents rows' ≡ contents rows = d ∙ a in
        let n = same_length rows mid a in
        let hs : homes m slot' rows' ≡ set (set (homes m slot rows) x m) x s = homes_same m slot' rows rows' same ∙ homes_then in
        record {
          each = each_set m rows rows' slot slot' x (get_or (tickets rows) x 0) s (same_column (λ e. e.ticket) rows rows' same ∙ sym (set-get_or (tickets rows) x 0)) (hs ∙ set-set (homes m slot rows) x m s) h.each (λ n. sm) xl;
          linked = linked_at m
              (f ∙ rw (n, b, c))
              (g ∙ rw (n, c))
              hs
              (same_column key rows rows' same ∙ sym (ap (set (keys_by key rows) x) (sym (column_at rows key x 0 e at)) ∙ set-get_or (keys_by key rows) x 0))
              (same_length rows rows' same)
              into;
        }

-- slots with no row in them: each sentinel leads to itself
module _ {P : Type 0} (slot key : Entry P → ℕ) (rows : List (Row P)) (es : List Ends) (m : ℕ) (n : ℕ) (long : length rows ≡ n) (vacant : (i : ℕ) → get_or (tickets rows) i 0 ≡ 0) (number : length es ≡ m) (blank : (s : ℕ) → s < m → get_or es s (record { head = 0; tail = 0 }) ≡ record { head = n + s; tail = n + s }) where
  abbrev hs : List ℕ
  hs = homes m slot rows

  -- a node of a slot is a sentinel
  sentinel : (y : ℕ) → get_or hs y m < m → (s : ℕ) × (s < m) × (length rows + s ≡ y)
  sentinel y w =
      ⊎_elim
      (λ (l : y < length rows). absurd (omega (arith, vacant_home m slot rows y l (vacant y))))
      (λ (l : length rows ≤ y).
      ⊎_elim
      (λ (u : y < length rows + m). (y - length rows, omega arith, omega arith))
      (λ (u : length rows + m ≤ y). absurd (omega (arith, get_or_past hs y m (omega (arith, homes_length m slot rows)))))
      (cases_lt y (length rows + m)))
      (cases_lt y (length rows))

  -- its link in a column that is read off the rows and off the sentinels
  link_at : (f : Row P → ℕ) (g : Ends → ℕ) → ((t : ℕ) → g (record { head = t; tail = t }) ≡ t) → (y : ℕ) → get_or hs y m < m → get_or (map f rows ++ map g es) y 0 ≡ y
  link_at f g one y w =
      let p = sentinel y w in
      let d : Ends = record { head = 0; tail = 0 } in
      sym (end_link f g rows es y d (omega (arith, p.2)) (omega (arith, p.1, p.2)))
      ∙ ap (λ i. g (get_or es i d)) (omega (arith, p.2)) ∙ ap g (blank p.0 p.1) ∙ one (n + p.0) ∙ omega (arith, p.2)

  itself : (ns ps : List ℕ) → ((y : ℕ) → get_or hs y m < m → get_or ns y 0 ≡ y) → ((y : ℕ) → get_or hs y m < m → get_or ps y 0 ≡ y) → Leads ns ps hs (length rows) m
  itself ns ps a b y w =
      let p = sentinel y w in
      rw (a y w) (omega (arith, p.1, p.2), refl, b y w)

  pub slots_empty : Slots slot key rows es m
  slots_empty =
      let a = link_at (λ r. r.next) (λ e. e.head) (λ t. refl) in
      let b = link_at (λ r. r.prev) (λ e. e.tail) (λ t. refl) in
      record {
        each = λ i n. absurd (n (vacant i));
        linked = record {
          on = itself (ons rows es) (backs rows es) a b;
          back = itself (backs rows es) (ons rows es) b a;
          up = λ y l w. absurd (omega (arith, vacant_home m slot rows y l (vacant y)));
          sentinels = sentinel_home m slot rows;
          onward = column_length (λ r. r.next) (λ e. e.head) rows es ∙ ap (λ k. length rows + k) number;
          backward = column_length (λ r. r.prev) (λ e. e.tail) rows es ∙ ap (λ k. length rows + k) number;
          homes = homes_length m slot rows;
          keys = length-map rows (λ r. key (entry_of r));
        };
      }
