-- A walk along a slot meets the pending entries whose slot it is, by their keys.
use Rattle.std.proofs.Common.{◌≡◌, ℕ, suc, ◌+◌, ◌*◌, ◌<◌, Bool, true, false, cond, eqb, leb, ltb, ◌≢◌, List, [], ◌∷◌, ◌++◌, length, reverse, get_or, Some, Option, sym, refl, ap, ◌∙◌, ⊎_elim, arith}
use Rattle.std.specs.Prelude.{slice_get}
use Rattle.std.specs.List.{AllByRecursion, cons_option, filter, filter_map, range_with_len}
use Rattle.std.proofs.lemmas.List.{length-map, reverse-append}
use Rattle.std.proofs.lemmas.List.Elements.{filter_map-append}
use Rattle.std.proofs.lemmas.Bool.{cases_Bool, ne_eqb, eqb-false, eqb-true}
use Rattle.std.proofs.lemmas.Bool.Decides.{nat_tests}
use Rattle.timer.specs.Meaning.{Entry, Rising}
use Rattle.timer_rows.specs.declared.row.Row.{Row}
use Rattle.timer_rows.specs.declared.ends.Ends.{Ends}
use Rattle.timer_rows.specs.Links.{ons, backs, keys_by}
use Rattle.timer_rows.specs.Rows.{contents, tickets, entry_of, placed, listed, entries}
use Rattle.timer_rows.specs.Slots.{homes, Slots}
use Rattle.timer_rows.specs.Walks.{put_by, sort_by, Meets}
use Rattle.timer_rows.proofs.Pending.{Apart, all_placed, entries_rising, under}
use Rattle.timer_rows.proofs.Homes.{column_at, entry_at, entry_row, row_home}
use Rattle.timer_rows.proofs.Sorts.{RisesBy, all_sorted, put_swap, rises_filter, sorted_same}
use Rattle.timer_rows.proofs.Walking.{found, found_rows, in_slot, in_slot_rows, slot_apart, walk_on, walk_back}

-- numbers that stand for elements, and a key of either
module _ {X : Type 0} (g : ℕ → Option X) (nk : ℕ → ℕ) (key : X → ℕ) (same : (i : ℕ) (x : X) → g i ≡ Some x → nk i ≡ key x) where
  abbrev Known : ℕ → Type 0
  Known i = (x : X) × (g i ≡ Some x)

  put_known : (i : ℕ) (js : List ℕ) → Known i → AllByRecursion Known js → (x : X) → g i ≡ Some x → filter_map g (put_by nk i js) ≡ put_by key x (filter_map g js)
  put_known i [] a b x e = ap (λ o. cons_option o []) e
  put_known i (j ∷ js) a b x e =
      let y = b.0.0 in
      let f = b.0.1 in
      let r = put_known i js a b.1 x e in
      let c = same i x e in
      let d = same j y f in
      rw (f, c, d)
      (elim (leb (key x) (key y)) as (λ v. filter_map g (cond v (i ∷ j ∷ js) (j ∷ put_by nk i js)) ≡ cond v (x ∷ y ∷ filter_map g js) (y ∷ put_by key x (filter_map g js))) [
        | true ↦ rw (e, f)
        | false ↦ rw f (ap (λ l. y ∷ l) r)
      ])

  sort_known : (is : List ℕ) → AllByRecursion Known is → filter_map g (sort_by nk is) ≡ sort_by key (filter_map g is)
  sort_known [] a = refl
  sort_known (i ∷ is) a =
      let x = a.0.0 in
      let e = a.0.1 in
      put_known i (sort_by nk is) a.0 (all_sorted nk Known is a.1) x e
      ∙ ap (put_by key x) (sort_known is a.1)
      ∙ rw e

  reverse_known : (is : List ℕ) → AllByRecursion Known is → filter_map g (reverse is) ≡ reverse (filter_map g is)
  reverse_known [] a = refl
  reverse_known (i ∷ is) a =
      let x = a.0.0 in
      let e = a.0.1 in
      ap (filter_map g) (reverse-append (i ∷ []) is)
      ∙ filter_map-append g (reverse is) (i ∷ [])
      ∙ ap (λ l. l ++ filter_map g (i ∷ [])) (reverse_known is a.1)
      ∙ rw e (sym (reverse-append (x ∷ []) (filter_map g is)))

-- a list filtered by the places of its elements
filter_places : {X : Type 0} (g : ℕ → Option X) (p : ℕ → Bool) (q : X → Bool) → ((i : ℕ) (x : X) → g i ≡ Some x → p i ≡ q x) → (a : ℕ) (xs : List X) → ((j : ℕ) → j < length xs → slice_get xs j ≡ g (a + j)) → filter_map g (filter p (range_with_len a (length xs))) ≡ filter q xs
filter_places g p q same a [] at = refl
filter_places g p q same a (x ∷ xs) at =
    let e : g a ≡ Some x = ap g (omega arith) ∙ sym (at 0 (omega arith)) in
    let r = filter_places g p q same (a + 1) xs (λ j l. at (suc j) (omega arith) ∙ ap g (omega arith)) in
    let s = same a x e in
    rw s
    (elim (q x) as (λ v. filter_map g (cond v (a ∷ filter p (range_with_len (a + 1) (length xs))) (filter p (range_with_len (a + 1) (length xs)))) ≡ cond v (x ∷ filter q xs) (filter q xs)) [
      | true ↦ rw e (ap (λ l. x ∷ l) r)
      | false ↦ r
    ])

-- entries in order, whichever way they were listed
module _ {P : Type 0} (key : Entry P → ℕ) (q : Entry P → Bool) where
  -- the entry has another key than those of a list that pass the test
  abbrev Other : Entry P → List (Entry P) → Type 0
  Other e es = AllByRecursion (λ f. q f ≡ true → key e ≢ key f) es

  sort_placed : (e : Entry P) (es : List (Entry P)) → q e ≡ true → Other e es → sort_by key (filter q (placed e es)) ≡ put_by key e (sort_by key (filter q es))
  sort_placed e [] h o = rw h
  sort_placed e (f ∷ fs) h o =
      let r = sort_placed e fs h o.1 in
      elim (ltb e.ticket f.ticket) as (λ v. sort_by key (filter q (cond v (e ∷ f ∷ fs) (f ∷ placed e fs))) ≡ put_by key e (sort_by key (filter q (f ∷ fs)))) [
        | true ↦ rw h
        | false ↦ ⊎_elim
            (λ (g : q f ≡ true). rw g (ap (put_by key f) r ∙ sym (put_swap key e f (sort_by key (filter q fs)) (o.0 g))))
            (λ (g : q f ≡ false). rw g r)
            (cases_Bool (q f))
      ]

  filter_placed : (e : Entry P) (es : List (Entry P)) → q e ≡ false → filter q (placed e es) ≡ filter q es
  filter_placed e [] h = rw h
  filter_placed e (f ∷ fs) h =
      let r = filter_placed e fs h in
      elim (ltb e.ticket f.ticket) as (λ v. filter q (cond v (e ∷ f ∷ fs) (f ∷ placed e fs)) ≡ filter q (f ∷ fs)) [
        | true ↦ rw h
        | false ↦ ap (λ l. cond (q f) (f ∷ l) l) r
      ]

  -- what holds of each entry that has a ticket holds of those that are listed
  all_listed : (Q : Entry P → Type 0) (es : List (Entry P)) → ((j : ℕ) (f : Entry P) → slice_get es j ≡ Some f → f.ticket ≢ 0 → Q f) → AllByRecursion Q (listed es)
  all_listed Q [] h = tt
  all_listed Q (e ∷ es) h =
      let rest = all_listed Q es (λ j f. h (suc j) f) in
      ⊎_elim
      (λ (z : eqb e.ticket 0 ≡ true). rw z rest)
      (λ (z : eqb e.ticket 0 ≡ false). rw z (all_placed Q e (listed es) (h 0 e refl (eqb-false e.ticket 0 z)) rest))
      (cases_Bool (eqb e.ticket 0))

  -- a vacant row passes no test
  abbrev live : Entry P → Bool
  live e = cond (eqb e.ticket 0) false (q e)

  sort_listed : (es : List (Entry P)) → ((i j : ℕ) (e f : Entry P) → slice_get es i ≡ Some e → slice_get es j ≡ Some f → live e ≡ true → live f ≡ true → key e ≡ key f → i ≡ j) → sort_by key (filter live es) ≡ sort_by key (filter q (listed es))
  sort_listed [] u = refl
  sort_listed (e ∷ es) u =
      let r = sort_listed es (λ i j a b x y v w k. let d = u (suc i) (suc j) a b x y v w k in omega arith) in
      ⊎_elim
      (λ (z : eqb e.ticket 0 ≡ true). rw z r)
      (λ (z : eqb e.ticket 0 ≡ false).
      rw z
      (⊎_elim
      (λ (h : q e ≡ true).
      let o : Other e (listed es) = all_listed (λ f. q f ≡ true → key e ≢ key f) es (λ j f a n b k.
      let c = u 0 (suc j) e f refl a (rw z h) (rw (ne_eqb f.ticket 0 n) b) k in omega arith) in
      rw h (ap (put_by key e) r) ∙ sym (sort_placed e (listed es) h o))
      (λ (h : q e ≡ false). rw h r ∙ ap (sort_by key) (sym (filter_placed e (listed es) h)))
      (cases_Bool (q e))))
      (cases_Bool (eqb e.ticket 0))

module _ {P : Type 0} {slot key : Entry P → ℕ} {rows : List (Row P)} {es : List Ends} {m : ℕ} (h : Slots slot key rows es m) (s : ℕ) (sm : s < m) where
  abbrev ns : List ℕ
  ns = ons rows es

  abbrev ps : List ℕ
  ps = backs rows es

  abbrev hs : List ℕ
  hs = homes m slot rows

  abbrev ks : List ℕ
  ks = keys_by key rows

  abbrev n : ℕ
  n = length rows

  -- the entries whose slot it is
  abbrev mine : Entry P → Bool
  mine e = eqb (slot e) s

  tested : (i : ℕ) (e : Entry P) → slice_get (contents rows) i ≡ Some e → eqb (get_or hs i m) s ≡ live key mine e
  tested i e is =
      ap (λ v. eqb v s) (row_home m slot rows i e is)
      ∙ elim (eqb e.ticket 0) as (λ v. eqb (cond v m (slot e)) s ≡ cond v false (eqb (slot e) s)) [
        | true ↦ ne_eqb m s (λ z. omega (arith, z))
        | false ↦ refl
      ]

  key_at : (i : ℕ) (e : Entry P) → slice_get (contents rows) i ≡ Some e → get_or ks i 0 ≡ key e
  key_at i e is = column_at rows key i 0 e is

  is_in : (i : ℕ) (e : Entry P) → slice_get (contents rows) i ≡ Some e → live key mine e ≡ true → (i < n) × (get_or hs i m ≡ s)
  is_in i e is v = (entry_row rows i e is, eqb-true (get_or hs i m) s (tested i e is ∙ v))

  apart : (i j : ℕ) (e f : Entry P) → slice_get (contents rows) i ≡ Some e → slice_get (contents rows) j ≡ Some f → live key mine e ≡ true → live key mine f ≡ true → key e ≡ key f → i ≡ j
  apart i j e f is js v w k =
      slot_apart ns ps hs ks n m h.linked s sm i j (is_in i e is v) (is_in j f js w) (key_at i e is ∙ k ∙ sym (key_at j f js))

  known : (is : List ℕ) → AllByRecursion (λ i. i < n) is → AllByRecursion (λ i. (e : Entry P) × (slice_get (contents rows) i ≡ Some e)) is
  known [] a = tt
  known (i ∷ is) a = (entry_at rows i a.0, known is a.1)

  met : filter_map (slice_get (contents rows)) (in_slot ns ps hs ks n m h.linked s sm) ≡ sort_by key (filter mine (entries rows))
  met =
      let g = slice_get (contents rows) in
      let is = found ns ps hs ks n m h.linked s sm in
      sort_known g (λ i. get_or ks i 0) key key_at is (known is (found_rows ns ps hs ks n m h.linked s sm))
      ∙ ap (sort_by key) (
      ap (λ c. filter_map g (filter (λ i. eqb (get_or hs i m) s) (range_with_len 0 c))) (sym (length-map rows entry_of))
      ∙ filter_places g (λ i. eqb (get_or hs i m) s) (live key mine) tested 0 (contents rows) (λ j l. ap g (omega arith))
      )
      ∙ sort_listed key mine (contents rows) apart

  pub slot_met : Meets rows es s (sort_by key (filter mine (entries rows)))
  slot_met =
      let g = slice_get (contents rows) in
      let is = in_slot ns ps hs ks n m h.linked s sm in
      record {
        onward = ap (filter_map g) (walk_on ns ps hs ks n m h.linked s sm (suc n) (omega arith)) ∙ met;
        back = ap (filter_map g) (walk_back ns ps hs ks n m h.linked s sm (suc n) (omega arith))
            ∙ reverse_known g (λ i. get_or ks i 0) key key_at is (known is (in_slot_rows ns ps hs ks n m h.linked s sm))
            ∙ ap reverse met;
      }

-- the order by ticket, and by deadline and then ticket
module _ {P : Type 0} where
  rises : (es : List (Entry P)) → Rising es → RisesBy (λ e. e.ticket) es
  rises [] r = tt
  rises (e ∷ es) r = (r.0, rises es r.1)

  -- pending entries stand in the order of their tickets
  pub by_ticket : (rows : List (Row P)) → Apart rows → (q : Entry P → Bool) → sort_by (λ e. e.ticket) (filter q (entries rows)) ≡ filter q (entries rows)
  by_ticket rows a q =
      sorted_same (λ e. e.ticket) (filter q (entries rows)) (rises_filter q (λ e. e.ticket) (entries rows) (rises (entries rows) (entries_rising rows a)))

  -- a deadline and a ticket as one number
  abbrev pub both : Entry P → ℕ
  both e = e.deadline * 4294967296 + e.ticket

  put_both : (e : Entry P) (es : List (Entry P)) → e.ticket < 4294967296 → AllByRecursion (λ f. (e.ticket < f.ticket) × (f.ticket < 4294967296)) es → put_by both e es ≡ put_by (λ f. f.deadline) e es
  put_both e [] l a = refl
  put_both e (f ∷ fs) l a =
      let t = a.0 in
      let d : leb (both e) (both f) ≡ leb e.deadline f.deadline = grind (arith, nat_tests) in
      rw d (ap (λ l. cond (leb e.deadline f.deadline) (e ∷ f ∷ fs) (f ∷ l)) (put_both e fs l a.1))

  sort_both : (es : List (Entry P)) → RisesBy (λ e. e.ticket) es → AllByRecursion (λ e. e.ticket < 4294967296) es → sort_by both es ≡ sort_by (λ e. e.deadline) es
  sort_both [] r a = refl
  sort_both (e ∷ es) r a =
      put_both e (sort_by both es) a.0 (all_sorted both (λ f. (e.ticket < f.ticket) × (f.ticket < 4294967296)) es (join (λ f. e.ticket < f.ticket) (λ f. f.ticket < 4294967296) es r.0 a.1))
      ∙ ap (put_by (λ f. f.deadline) e) (sort_both es r.1 a.1)
    where
      join : (Q R : Entry P → Type 0) (es : List (Entry P)) → AllByRecursion Q es → AllByRecursion R es → AllByRecursion (λ e. Q e × R e) es
      join Q R [] a b = tt
      join Q R (e ∷ es) a b = ((a.0, b.0), join Q R es a.1 b.1)

  -- so a sort by deadline leaves those with one deadline in the order of their tickets
  pub by_deadline : (rows : List (Row P)) → Apart rows → ((i : ℕ) → get_or (tickets rows) i 0 < 4294967296) → sort_by both (entries rows) ≡ sort_by (λ e. e.deadline) (entries rows)
  by_deadline rows a s = sort_both (entries rows) (rises (entries rows) (entries_rising rows a)) (under 4294967296 rows s)

  -- where there is one slot, every entry is in it
  pub filter_every : (es : List (Entry P)) → filter (λ e. true) es ≡ es
  filter_every [] = refl
  filter_every (e ∷ es) = ap (λ l. e ∷ l) (filter_every es)
