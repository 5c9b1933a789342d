-- The entries of rows, when a row takes one in, gives one up, or is looked for.
use Rattle.std.proofs.Common.{◌≡◌, ℕ, zero, suc, ◌+◌, ◌<◌, ◌≤◌, true, false, cond, eqb, ltb, ◌≢◌, List, [], ◌∷◌, ◌++◌, length, get_or, set, Some, None, sym, refl, ap, ◌∙◌, subst, ⊎_elim, arith}
use Rattle.std.specs.List.{AllByRecursion}
use Rattle.std.proofs.lemmas.List.{get_or-map, get_or_past, length-map}
use Rattle.std.proofs.lemmas.Bool.Decides.{nat_tests}
use Rattle.std.proofs.lemmas.Bool.{cases_Bool, cases_eq, cases_lt, eqb-false, eq-eqb, ne_eqb, ltb-true, ltb-false, lt-ltb, le-ltb}
use Rattle.timer.specs.Meaning.{Entry, Rising}
use Rattle.timer.specs.Rules.{count, find, without, due_entry}
use Rattle.timer_rows.specs.declared.row.Row.{Row}
use Rattle.timer_rows.specs.Rows.{tickets, deadlines, entry_of, placed, entries, NoneDue, Foremost}

-- no entry of the list has the ticket
abbrev pub Lacks : {P : Type 0} → ℕ → List (Entry P) → Type 0
Lacks t es = AllByRecursion (λ e. e.ticket ≢ t) es

-- every ticket of the list is below t
abbrev pub Under : {P : Type 0} → ℕ → List (Entry P) → Type 0
Under t es = AllByRecursion (λ e. e.ticket < t) es

-- of the entries that are due at n, every ticket is above t
abbrev pub Later : {P : Type 0} → ℕ → ℕ → List (Entry P) → Type 0
Later n t es = AllByRecursion (λ e. e.deadline ≡ n → t < e.ticket) es

module _ {P : Type 0} where
  -- what holds of an entry and of the others holds of all with it placed among them
  pub all_placed : (Q : Entry P → Type 0) (e : Entry P) (es : List (Entry P)) → Q e → AllByRecursion Q es → AllByRecursion Q (placed e es)
  all_placed Q e [] q a = (q, tt)
  all_placed Q e (f ∷ fs) q a =
      elim (ltb e.ticket f.ticket) as (λ v. AllByRecursion Q (cond v (e ∷ f ∷ fs) (f ∷ placed e fs))) [
        | true ↦ (q, a)
        | false ↦ (a.0, all_placed Q e fs q a.1)
      ]

  pub length_placed : (e : Entry P) (es : List (Entry P)) → length (placed e es) ≡ suc (length es)
  length_placed e [] = refl
  length_placed e (f ∷ fs) =
      elim (ltb e.ticket f.ticket) as (λ v. length (cond v (e ∷ f ∷ fs) (f ∷ placed e fs)) ≡ suc (suc (length fs))) [
        | true ↦ refl
        | false ↦ ap suc (length_placed e fs)
      ]

  under_rising : (t u : ℕ) (es : List (Entry P)) → t < u → AllByRecursion (λ f. u < f.ticket) es → AllByRecursion (λ f. t < f.ticket) es
  under_rising t u [] l a = tt
  under_rising t u (f ∷ fs) l a = (omega (arith, a.0), under_rising t u fs l a.1)

  pub placed_rising : (e : Entry P) (es : List (Entry P)) → Lacks e.ticket es → Rising es → Rising (placed e es)
  placed_rising e [] k r = (tt, tt)
  placed_rising e (f ∷ fs) k r =
      ⊎_elim
      (λ (h : ltb e.ticket f.ticket ≡ true).
      let l = ltb-true e.ticket f.ticket h in
      rw h ((l, under_rising e.ticket f.ticket fs l r.0), r))
      (λ (h : ltb e.ticket f.ticket ≡ false).
      let g = ltb-false e.ticket f.ticket h in
      let ne = k.0 in
      let l : f.ticket < e.ticket = omega (arith, g, ne) in
      rw h (all_placed (λ x. f.ticket < x.ticket) e fs l r.0, placed_rising e fs k.1 r.1))
      (cases_Bool (ltb e.ticket f.ticket))

  -- an entry with a ticket above all goes to the end
  placed_last : (e : Entry P) (es : List (Entry P)) → Under e.ticket es → placed e es ≡ es ++ e ∷ []
  placed_last e [] u = refl
  placed_last e (f ∷ fs) u =
      rw (le-ltb e.ticket f.ticket (omega (arith, u.0))) (ap (λ l. f ∷ l) (placed_last e fs u.1))

  -- and stays there when another comes in
  placed_push : (d : Entry P) (es : List (Entry P)) (e : Entry P) → d.ticket < e.ticket → placed d (es ++ e ∷ []) ≡ placed d es ++ e ∷ []
  placed_push d [] e l = rw (lt-ltb d.ticket e.ticket l)
  placed_push d (f ∷ fs) e l =
      elim (ltb d.ticket f.ticket) as (λ v. cond v (d ∷ f ∷ (fs ++ e ∷ [])) (f ∷ placed d (fs ++ e ∷ [])) ≡ cond v (d ∷ f ∷ fs) (f ∷ placed d fs) ++ e ∷ []) [
        | true ↦ refl
        | false ↦ ap (λ l. f ∷ l) (placed_push d fs e l)
      ]

  -- an entry is found where it was placed, and others as before
  find_placed : (e : Entry P) (es : List (Entry P)) → Lacks e.ticket es → find e.ticket (placed e es) ≡ Some e
  find_placed e [] k = rw (eq-eqb e.ticket e.ticket refl)
  find_placed e (f ∷ fs) k =
      elim (ltb e.ticket f.ticket) as (λ v. find e.ticket (cond v (e ∷ f ∷ fs) (f ∷ placed e fs)) ≡ Some e) [
        | true ↦ rw (eq-eqb e.ticket e.ticket refl)
        | false ↦ rw (ne_eqb f.ticket e.ticket k.0) (find_placed e fs k.1)
      ]

  find_other : (t : ℕ) (e : Entry P) (es : List (Entry P)) → e.ticket ≢ t → find t (placed e es) ≡ find t es
  find_other t e [] n = rw (ne_eqb e.ticket t n)
  find_other t e (f ∷ fs) n =
      elim (ltb e.ticket f.ticket) as (λ v. find t (cond v (e ∷ f ∷ fs) (f ∷ placed e fs)) ≡ find t (f ∷ fs)) [
        | true ↦ rw (ne_eqb e.ticket t n)
        | false ↦ ap (λ o. cond (eqb f.ticket t) (Some f) o) (find_other t e fs n)
      ]

  -- an entry that was placed is taken out again
  without_placed : (e : Entry P) (es : List (Entry P)) → Lacks e.ticket es → without e.ticket (placed e es) ≡ es
  without_placed e [] k = rw (eq-eqb e.ticket e.ticket refl)
  without_placed e (f ∷ fs) k =
      elim (ltb e.ticket f.ticket) as (λ v. without e.ticket (cond v (e ∷ f ∷ fs) (f ∷ placed e fs)) ≡ f ∷ fs) [
        | true ↦ rw (eq-eqb e.ticket e.ticket refl)
        | false ↦ rw (ne_eqb f.ticket e.ticket k.0) (ap (λ l. f ∷ l) (without_placed e fs k.1))
      ]

  placed_first : (e : Entry P) (es : List (Entry P)) → AllByRecursion (λ f. e.ticket < f.ticket) es → placed e es ≡ e ∷ es
  placed_first e [] a = refl
  placed_first e (f ∷ fs) a = rw (lt-ltb e.ticket f.ticket a.0)

  without_other : (t : ℕ) (e : Entry P) (es : List (Entry P)) → e.ticket ≢ t → Rising es → without t (placed e es) ≡ placed e (without t es)
  without_other t e [] n r = rw (ne_eqb e.ticket t n)
  without_other t e (f ∷ fs) n r =
      ⊎_elim
      (λ (h : ltb e.ticket f.ticket ≡ true).
      let l = ltb-true e.ticket f.ticket h in
      rw (h, ne_eqb e.ticket t n)
      (elim (eqb f.ticket t) as (λ v. e ∷ cond v fs (f ∷ without t fs) ≡ placed e (cond v fs (f ∷ without t fs))) [
        | true ↦ sym (placed_first e fs (under_rising e.ticket f.ticket fs l r.0))
        | false ↦ rw h
      ]))
      (λ (h : ltb e.ticket f.ticket ≡ false).
      rw h
      (elim (eqb f.ticket t) as (λ v. cond v (placed e fs) (f ∷ without t (placed e fs)) ≡ placed e (cond v fs (f ∷ without t fs))) [
        | true ↦ refl
        | false ↦ rw h (ap (λ l. f ∷ l) (without_other t e fs n r.1))
      ]))
      (cases_Bool (ltb e.ticket f.ticket))

  -- the first entry that is due, where one is placed that is due before all others, not at all, or after
  due_placed : (n : ℕ) (e : Entry P) (es : List (Entry P)) → e.deadline ≡ n → Later n e.ticket es → due_entry n (placed e es) ≡ Some e
  due_placed n e [] d k = rw (eq-eqb e.deadline n d)
  due_placed n e (f ∷ fs) d k =
      ⊎_elim
      (λ (h : ltb e.ticket f.ticket ≡ true). rw (h, eq-eqb e.deadline n d))
      (λ (h : ltb e.ticket f.ticket ≡ false).
      let ne : f.deadline ≡ n → ⊥ = λ q. omega (arith, k.0 q, ltb-false e.ticket f.ticket h) in
      rw (h, ne_eqb f.deadline n ne) (due_placed n e fs d k.1))
      (cases_Bool (ltb e.ticket f.ticket))

  due_other : (n : ℕ) (e : Entry P) (es : List (Entry P)) → e.deadline ≢ n → due_entry n (placed e es) ≡ due_entry n es
  due_other n e [] d = rw (ne_eqb e.deadline n d)
  due_other n e (f ∷ fs) d =
      elim (ltb e.ticket f.ticket) as (λ v. due_entry n (cond v (e ∷ f ∷ fs) (f ∷ placed e fs)) ≡ due_entry n (f ∷ fs)) [
        | true ↦ rw (ne_eqb e.deadline n d)
        | false ↦ ap (λ o. cond (eqb f.deadline n) (Some f) o) (due_other n e fs d)
      ]

  -- in rising entries the first due one is no earlier than a number below all of them
  due_above : (n t : ℕ) (d : Entry P) (es : List (Entry P)) → AllByRecursion (λ f. t < f.ticket) es → due_entry n es ≡ Some d → t < d.ticket
  due_above n t d [] a h = let z : ◌≡◌ {A = ℕ} 0 1 = cc in absurd (omega arith)
  due_above n t d (f ∷ fs) a h =
      ⊎_elim
      (λ (q : eqb f.deadline n ≡ true). let e : f ≡ d = let k = rw q at h in cc in subst (λ (x : Entry P). t < x.ticket) e a.0)
      (λ (q : eqb f.deadline n ≡ false). due_above n t d fs a.1 (rw q at h))
      (cases_Bool (eqb f.deadline n))

  due_after : (n : ℕ) (d e : Entry P) (es : List (Entry P)) → Rising es → d.ticket < e.ticket → due_entry n es ≡ Some d → due_entry n (placed e es) ≡ Some d
  due_after n d e [] r l h = let z : ◌≡◌ {A = ℕ} 0 1 = cc in absurd (omega arith)
  due_after n d e (f ∷ fs) r l h =
      ⊎_elim
      (λ (q : ltb e.ticket f.ticket ≡ true).
      let k = ltb-true e.ticket f.ticket q in
      absurd (omega (arith, due_above n e.ticket d (f ∷ fs) (k, under_rising e.ticket f.ticket fs k r.0) h)))
      (λ (q : ltb e.ticket f.ticket ≡ false).
      rw q
      (⊎_elim
      (λ (p : eqb f.deadline n ≡ true). rw p (rw p at h))
      (λ (p : eqb f.deadline n ≡ false). rw p (due_after n d e fs r.1 l (rw p at h)))
      (cases_Bool (eqb f.deadline n))))
      (cases_Bool (ltb e.ticket f.ticket))

  -- counts of a list that an entry joins or leaves
  pub count_push : (o : ℕ) (es : List (Entry P)) (e : Entry P) → count o (es ++ e ∷ []) ≡ count o es + cond (eqb e.owner o) 1 0
  count_push o [] e = elim (eqb e.owner o) as (λ v. cond v (◌+◌ 0 1) 0 ≡ 0 + cond v 1 0) [ true ↦ refl | false ↦ refl ]
  count_push o (f ∷ fs) e = let i = count_push o fs e in grind (arith, nat_tests)

  pub count_without : (o t : ℕ) (es : List (Entry P)) (e : Entry P) → find t es ≡ Some e → count o es ≡ count o (without t es) + cond (eqb e.owner o) 1 0
  count_without o t [] e h = let z : ◌≡◌ {A = ℕ} 0 1 = cc in absurd (omega arith)
  count_without o t (f ∷ fs) e h =
      ⊎_elim
      (λ (q : eqb f.ticket t ≡ true).
      let k = rw q at h in
      let p : f ≡ e = cc in
      rw q (subst (λ (x : Entry P). cond (eqb f.owner o) (count o fs + 1) (count o fs) ≡ count o fs + cond (eqb x.owner o) 1 0) p (grind (arith, nat_tests))))
      (λ (q : eqb f.ticket t ≡ false). let i = count_without o t fs e (rw q at h) in rw q (grind (arith, nat_tests)))
      (cases_Bool (eqb f.ticket t))

  pub length_without : (t : ℕ) (es : List (Entry P)) (e : Entry P) → find t es ≡ Some e → length es ≡ suc (length (without t es))
  length_without t [] e h = let z : ◌≡◌ {A = ℕ} 0 1 = cc in absurd (omega arith)
  length_without t (f ∷ fs) e h =
      ⊎_elim
      (λ (q : eqb f.ticket t ≡ true). rw q)
      (λ (q : eqb f.ticket t ≡ false). rw q (ap suc (length_without t fs e (rw q at h))))
      (cases_Bool (eqb f.ticket t))

  pub count_most : (o : ℕ) (es : List (Entry P)) → count o es ≤ length es
  count_most o [] = omega arith
  count_most o (f ∷ fs) = let i = count_most o fs in grind (arith, nat_tests)

  find_none : (t : ℕ) (es : List (Entry P)) → Lacks t es → find t es ≡ None
  find_none t [] k = refl
  find_none t (f ∷ fs) k = rw (ne_eqb f.ticket t k.0) (find_none t fs k.1)

  due_none : (n : ℕ) (es : List (Entry P)) → AllByRecursion (λ e. e.deadline ≢ n) es → due_entry n es ≡ None
  due_none n [] k = refl
  due_none n (f ∷ fs) k = rw (ne_eqb f.deadline n k.0) (due_none n fs k.1)

  -- what holds of each row that holds an entry holds of the entries
  pub all_entries : (Q : Entry P → Type 0) (rows : List (Row P)) → ((i : ℕ) (d : Row P) → i < length rows → (get_or rows i d).ticket ≢ 0 → Q (entry_of (get_or rows i d))) → AllByRecursion Q (entries rows)
  all_entries Q [] h = tt
  all_entries Q (r ∷ rs) h =
      let rest = all_entries Q rs (λ i d l. h (suc i) d (omega arith)) in
      ⊎_elim
      (λ (q : eqb r.ticket 0 ≡ true). rw q rest)
      (λ (q : eqb r.ticket 0 ≡ false). rw q (all_placed Q (entry_of r) (entries rs) (h 0 r (omega arith) (eqb-false r.ticket 0 q)) rest))
      (cases_Bool (eqb r.ticket 0))

  -- a column of the rows, at a row
  pub ticket_at : (rows : List (Row P)) (i : ℕ) (d : Row P) → i < length rows → get_or (tickets rows) i 0 ≡ (get_or rows i d).ticket
  ticket_at rows i d l = get_or-map (λ r. r.ticket) rows i d 0 l

  -- only a row has a ticket
  pub live_row : (rows : List (Row P)) (i : ℕ) → get_or (tickets rows) i 0 ≢ 0 → i < length rows
  live_row rows i n =
      ⊎_elim
      (λ (h : i < length rows). h)
      (λ (h : length rows ≤ i). absurd (n (get_or_past (tickets rows) i 0 (omega (arith, length-map rows (λ r. r.ticket))))))
      (cases_lt i (length rows))

  pub deadline_at : (rows : List (Row P)) (i : ℕ) (d : Row P) → i < length rows → get_or (deadlines rows) i 0 ≡ (get_or rows i d).deadline
  deadline_at rows i d l = get_or-map (λ r. r.deadline) rows i d 0 l

  pub missing : (t : ℕ) (rows : List (Row P)) → ((i : ℕ) → i < length rows → get_or (tickets rows) i 0 ≢ 0 → get_or (tickets rows) i 0 ≢ t) → find t (entries rows) ≡ None
  missing t rows h =
      find_none t (entries rows)
      (all_entries (λ e. e.ticket ≢ t) rows (λ i d l n. let e = ticket_at rows i d l in subst (λ k. k ≢ t) e (h i l (subst (λ k. k ≢ 0) (sym e) n))))

  pub none_due : (n : ℕ) (rows : List (Row P)) → NoneDue n rows → due_entry n (entries rows) ≡ None
  none_due n rows h =
      due_none n (entries rows)
      (all_entries (λ e. e.deadline ≢ n) rows (λ i d l k. subst (λ k. k ≢ n) (deadline_at rows i d l) (h i l (subst (λ k. k ≢ 0) (sym (ticket_at rows i d l)) k))))

  pub under : (t : ℕ) (rows : List (Row P)) → ((i : ℕ) → get_or (tickets rows) i 0 < t) → Under t (entries rows)
  under t rows h = all_entries (λ e. e.ticket < t) rows (λ i d l n. subst (λ k. k < t) (ticket_at rows i d l) (h i))

  -- no two rows have one ticket
  abbrev pub Apart : List (Row P) → Type 0
  Apart rows = (i j : ℕ) → get_or (tickets rows) i 0 ≢ 0 → get_or (tickets rows) i 0 ≡ get_or (tickets rows) j 0 → i ≡ j

  apart_rest : (r : Row P) (rs : List (Row P)) → Apart (r ∷ rs) → Apart rs
  apart_rest r rs a i j n e = let k = a (suc i) (suc j) n e in omega arith

  -- no row after the first has its ticket
  apart_first : (r : Row P) (rs : List (Row P)) → r.ticket ≢ 0 → Apart (r ∷ rs) → Lacks r.ticket (entries rs)
  apart_first r rs n a =
      all_entries (λ e. e.ticket ≢ r.ticket) rs (λ i d l m e. let k = a 0 (suc i) n (sym e ∙ sym (ticket_at rs i d l)) in absurd (omega arith))

  pub entries_rising : (rows : List (Row P)) → Apart rows → Rising (entries rows)
  entries_rising [] a = tt
  entries_rising (r ∷ rs) a =
      let rest = entries_rising rs (apart_rest r rs a) in
      ⊎_elim
      (λ (q : eqb r.ticket 0 ≡ true). rw q rest)
      (λ (q : eqb r.ticket 0 ≡ false). rw q (placed_rising (entry_of r) (entries rs) (apart_first r rs (eqb-false r.ticket 0 q) a) rest))
      (cases_Bool (eqb r.ticket 0))

  -- a vacant row takes in an entry with a ticket above all
  pub entries_insert : (rows : List (Row P)) (x : ℕ) (r : Row P) → x < length rows → get_or (tickets rows) x 0 ≡ 0 → ((i : ℕ) → get_or (tickets rows) i 0 < r.ticket) → entries (set rows x r) ≡ entries rows ++ entry_of r ∷ []
  entries_insert [] x r l z h = absurd (omega arith)
  entries_insert (s ∷ rs) zero r l z h =
      let n : r.ticket ≢ 0 = λ e. omega (arith, h 0) in
      rw (ne_eqb r.ticket 0 n, eq-eqb s.ticket 0 z) (placed_last (entry_of r) (entries rs) (under r.ticket rs (λ i. h (suc i))))
  entries_insert (s ∷ rs) (suc x) r l z h =
      let i = entries_insert rs x r (omega arith) z (λ i. h (suc i)) in
      ⊎_elim
      (λ (q : eqb s.ticket 0 ≡ true). rw q i)
      (λ (q : eqb s.ticket 0 ≡ false). rw q (ap (placed (entry_of s)) i ∙ placed_push (entry_of s) (entries rs) (entry_of r) (h 0)))
      (cases_Bool (eqb s.ticket 0))

  -- a row gives up its entry
  pub entries_remove : (rows : List (Row P)) (x : ℕ) (r : Row P) → Apart rows → get_or (tickets rows) x 0 ≢ 0 → r.ticket ≡ 0 → entries (set rows x r) ≡ without (get_or (tickets rows) x 0) (entries rows)
  entries_remove [] x r a n z = absurd (n refl)
  entries_remove (s ∷ rs) zero r a n z =
      rw (eq-eqb r.ticket 0 z, ne_eqb s.ticket 0 n) (sym (without_placed (entry_of s) (entries rs) (apart_first s rs n a)))
  entries_remove (s ∷ rs) (suc x) r a n z =
      let i = entries_remove rs x r (apart_rest s rs a) n z in
      ⊎_elim
      (λ (q : eqb s.ticket 0 ≡ true). rw q i)
      (λ (q : eqb s.ticket 0 ≡ false).
      let m : s.ticket ≢ get_or (tickets rs) x 0 = λ e. let k = a 0 (suc x) (eqb-false s.ticket 0 q) e in omega arith in
      rw q (ap (placed (entry_of s)) i ∙ sym (without_other (get_or (tickets rs) x 0) (entry_of s) (entries rs) m (entries_rising rs (apart_rest s rs a)))))
      (cases_Bool (eqb s.ticket 0))

  -- the entry of a row is found by its ticket
  pub entries_find : (rows : List (Row P)) (x : ℕ) (d : Row P) → Apart rows → x < length rows → get_or (tickets rows) x 0 ≢ 0 → find (get_or (tickets rows) x 0) (entries rows) ≡ Some (entry_of (get_or rows x d))
  entries_find [] x d a l n = absurd (n refl)
  entries_find (s ∷ rs) zero d a l n =
      rw (ne_eqb s.ticket 0 n) (find_placed (entry_of s) (entries rs) (apart_first s rs n a))
  entries_find (s ∷ rs) (suc x) d a l n =
      let i = entries_find rs x d (apart_rest s rs a) (omega arith) n in
      ⊎_elim
      (λ (q : eqb s.ticket 0 ≡ true). rw q i)
      (λ (q : eqb s.ticket 0 ≡ false).
      let m : s.ticket ≢ get_or (tickets rs) x 0 = λ e. let k = a 0 (suc x) (eqb-false s.ticket 0 q) e in omega arith in
      rw q (find_other (get_or (tickets rs) x 0) (entry_of s) (entries rs) m ∙ i))
      (cases_Bool (eqb s.ticket 0))

  -- the row with the lowest ticket of those that are due
  foremost_rest : (n : ℕ) (s : Row P) (rs : List (Row P)) (x : ℕ) → Foremost n (s ∷ rs) (suc x) → Foremost n rs x
  foremost_rest n s rs x f =
      record { row = omega (arith, f.row); live = f.live; due = f.due; least = λ i k. f.least (suc i) (λ e. k (omega arith)) }

  pub entries_due : (n : ℕ) (rows : List (Row P)) (x : ℕ) (d : Row P) → Apart rows → Foremost n rows x → due_entry n (entries rows) ≡ Some (entry_of (get_or rows x d))
  entries_due n [] x d a f = absurd (f.live refl)
  entries_due n (s ∷ rs) zero d a f =
      rw (ne_eqb s.ticket 0 f.live)
      (due_placed n (entry_of s) (entries rs) f.due
      (all_entries (λ e. e.deadline ≡ n → s.ticket < e.ticket) rs
      (λ i d l m e.
      let t = ticket_at rs i d l in
      subst (λ k. s.ticket < k) t (f.least (suc i) (λ q. omega (arith, q)) (λ q. m (sym t ∙ q)) (deadline_at rs i d l ∙ e)))))
  entries_due n (s ∷ rs) (suc x) d a f =
      let i = entries_due n rs x d (apart_rest s rs a) (foremost_rest n s rs x f) in
      let r = entries_rising rs (apart_rest s rs a) in
      let t = ticket_at rs x d (foremost_rest n s rs x f).row in
      ⊎_elim
      (λ (q : eqb s.ticket 0 ≡ true). rw q i)
      (λ (q : eqb s.ticket 0 ≡ false).
      rw q
      (⊎_elim
      (λ (e : s.deadline ≡ n). due_after n (entry_of (get_or rs x d)) (entry_of s) (entries rs) r (subst (λ k. k < s.ticket) t (f.least 0 (λ q. omega (arith, q)) (eqb-false s.ticket 0 q) e)) i)
      (λ (e : s.deadline ≢ n). due_other n (entry_of s) (entries rs) e ∙ i)
      (cases_eq s.deadline n)))
      (cases_Bool (eqb s.ticket 0))

  -- how many entries there are
  pub entries_full : (rows : List (Row P)) → ((i : ℕ) → i < length rows → get_or (tickets rows) i 0 ≢ 0) → length (entries rows) ≡ length rows
  entries_full [] h = refl
  entries_full (r ∷ rs) h =
      rw (ne_eqb r.ticket 0 (h 0 (omega arith))) (length_placed (entry_of r) (entries rs) ∙ ap suc (entries_full rs (λ i l. h (suc i) (omega arith))))

  pub entries_most : (rows : List (Row P)) → length (entries rows) ≤ length rows
  entries_most [] = omega arith
  entries_most (r ∷ rs) =
      let i = entries_most rs in
      ⊎_elim
      (λ (q : eqb r.ticket 0 ≡ true). rw q (omega arith))
      (λ (q : eqb r.ticket 0 ≡ false). rw q (omega (arith, length_placed (entry_of r) (entries rs))))
      (cases_Bool (eqb r.ticket 0))

  pub entries_none : (rows : List (Row P)) → ((i : ℕ) → get_or (tickets rows) i 0 ≡ 0) → entries rows ≡ []
  entries_none [] h = refl
  entries_none (r ∷ rs) h = rw (eq-eqb r.ticket 0 (h 0)) (entries_none rs (λ i. h (suc i)))
