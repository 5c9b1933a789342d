-- The slots of rows and of sentinels.
use Rattle.std.proofs.Common.{◌≡◌, ℕ, zero, suc, ◌+◌, ◌-◌, ◌<◌, ◌≤◌, cond, ◌≢◌, List, [], ◌∷◌, map, length, get_or, Some, sym, refl, ap, ◌∙◌, subst, ⊎_elim, arith}
use Rattle.std.specs.Prelude.{slice_get}
use Rattle.std.proofs.lemmas.List.FromFn.{length-range_with_len, get_or-range_with_len}
use Rattle.std.proofs.lemmas.List.{ext_get_or, get_or_append_left, get_or-append_right, get_or-map, length-append, length-map}
use Rattle.std.proofs.lemmas.Option.{slice_get_within, get_or_from_slice_get}
use Rattle.std.proofs.lemmas.Bool.{cases_lt, eq-eqb, ne_eqb}
use Rattle.timer.specs.Meaning.{Entry}
use Rattle.timer_rows.specs.declared.row.Row.{Row}
use Rattle.timer_rows.specs.declared.ends.Ends.{Ends}
use Rattle.timer_rows.specs.Links.{ons, backs, keys_by}
use Rattle.timer_rows.specs.Rows.{tickets, deadlines, contents, entry_of}
use Rattle.timer_rows.specs.Slots.{home, numbered, homes, Slots}
use Rattle.timer_rows.proofs.Linking.{node_below}
use Rattle.timer_rows.proofs.Same.{column_of}
use Rattle.timer_rows.proofs.Walking.{first_least, next_least}

numbered_length : (m : ℕ) → length (numbered m) ≡ m
unfolding numbered
numbered_length m = length-range_with_len 0 m

numbered_at : (m s : ℕ) → s < m → get_or (numbered m) s m ≡ s
unfolding numbered
numbered_at m s l = get_or-range_with_len 0 m s m l ∙ omega arith

-- the entry that a row holds
pub entry_at : {P : Type 0} (rows : List (Row P)) (i : ℕ) → i < length rows → (e : Entry P) × (slice_get (contents rows) i ≡ Some e)
entry_at [] i l = absurd (omega arith)
entry_at (r ∷ rs) zero l = (entry_of r, refl)
entry_at (r ∷ rs) (suc i) l = entry_at rs i (omega arith)

module _ {P : Type 0} (rows : List (Row P)) where
  -- a column of what the rows hold
  pub column_at : (f : Entry P → ℕ) (i d : ℕ) (e : Entry P) → slice_get (contents rows) i ≡ Some e → get_or (map (λ r. f (entry_of r)) rows) i d ≡ f e
  column_at f i d e is =
      ap (λ c. get_or c i d) (column_of f rows)
      ∙ get_or-map f (contents rows) i e d (slice_get_within (contents rows) i e is)
      ∙ ap f (get_or_from_slice_get (contents rows) i e e is)

  pub entry_row : (i : ℕ) (e : Entry P) → slice_get (contents rows) i ≡ Some e → i < length rows
  entry_row i e is = omega (arith, slice_get_within (contents rows) i e is, length-map rows entry_of)

  pub entry_ticket : (i : ℕ) (e : Entry P) → slice_get (contents rows) i ≡ Some e → get_or (tickets rows) i 0 ≡ e.ticket
  entry_ticket i e is = column_at (λ e. e.ticket) i 0 e is

  pub entry_deadline : (i : ℕ) (e : Entry P) → slice_get (contents rows) i ≡ Some e → get_or (deadlines rows) i 0 ≡ e.deadline
  entry_deadline i e is = column_at (λ e. e.deadline) i 0 e is

module _ {P : Type 0} (m : ℕ) (slot : Entry P → ℕ) (rows : List (Row P)) where
  -- the slot of a row
  pub row_home : (i : ℕ) (e : Entry P) → slice_get (contents rows) i ≡ Some e → get_or (homes m slot rows) i m ≡ home m slot e
  row_home i e is =
      get_or_append_left (map (λ r. home m slot (entry_of r)) rows) (numbered m) m i (omega (arith, entry_row rows i e is, length-map rows (λ r. home m slot (entry_of r))))
      ∙ column_at rows (home m slot) i m e is

  pub live_home : (i : ℕ) (e : Entry P) → slice_get (contents rows) i ≡ Some e → get_or (tickets rows) i 0 ≢ 0 → get_or (homes m slot rows) i m ≡ slot e
  live_home i e is n =
      let t = entry_ticket rows i e is in
      row_home i e is ∙ ap (λ b. cond b m (slot e)) (ne_eqb e.ticket 0 (λ z. n (t ∙ z)))

  -- a vacant row is in none
  pub vacant_home : (i : ℕ) → i < length rows → get_or (tickets rows) i 0 ≡ 0 → get_or (homes m slot rows) i m ≡ m
  vacant_home i l z =
      let e = entry_at rows i l in
      let t = entry_ticket rows i e.0 e.1 in
      row_home i e.0 e.1 ∙ ap (λ b. cond b m (slot e.0)) (eq-eqb e.0.ticket 0 (sym t ∙ z))

  pub home_live : (i : ℕ) → i < length rows → get_or (homes m slot rows) i m < m → get_or (tickets rows) i 0 ≢ 0
  home_live i l h z = omega (arith, vacant_home i l z)

  -- the slot of a sentinel
  pub sentinel_home : (s : ℕ) → s < m → get_or (homes m slot rows) (length rows + s) m ≡ s
  sentinel_home s l =
      get_or-append_right (map (λ r. home m slot (entry_of r)) rows) (numbered m) (length rows) (length rows + s) m (length-map rows (λ r. home m slot (entry_of r))) (omega arith)
      ∙ ap (λ i. get_or (numbered m) i m) (omega arith) ∙ numbered_at m s l

  pub homes_length : length (homes m slot rows) ≡ length rows + m
  homes_length =
      length-append (map (λ r. home m slot (entry_of r)) rows) (numbered m)
      ∙ (let a = length-map rows (λ r. home m slot (entry_of r)) in let b = numbered_length m in omega arith)

  -- a list that agrees with the homes
  pub homes_are : (hs : List ℕ) → length hs ≡ length rows + m → ((i : ℕ) (e : Entry P) → slice_get (contents rows) i ≡ Some e → home m slot e ≡ get_or hs i m) → ((s : ℕ) → s < m → get_or hs (length rows + s) m ≡ s) → homes m slot rows ≡ hs
  homes_are hs n here there =
      ext_get_or m (homes m slot rows) hs (homes_length ∙ sym n) (λ i l.
      ⊎_elim
      (λ (h : i < length rows). let e = entry_at rows i h in row_home i e.0 e.1 ∙ here i e.0 e.1)
      (λ (h : length rows ≤ i).
      let z : i - length rows < m = omega (arith, homes_length) in
      let e : i ≡ length rows + (i - length rows) = omega arith in
      subst (λ k. get_or (homes m slot rows) k m ≡ get_or hs k m) (sym e) (sentinel_home (i - length rows) z ∙ sym (there (i - length rows) z)))
      (cases_lt i (length rows)))

module _ {P : Type 0} {slot key : Entry P → ℕ} {rows : List (Row P)} {es : List Ends} {m : ℕ} (h : Slots slot key rows es m) where
  -- the links of a node in a slot are nodes
  pub node_links : (q : ℕ) → get_or (homes m slot rows) q m < m → (q < length rows + m) × (get_or (ons rows es) q 0 < length rows + m) × (get_or (backs rows es) q 0 < length rows + m)
  node_links q z =
      let k = h.linked in
      (node_below (ons rows es) (backs rows es) (homes m slot rows) (keys_by key rows) (length rows) m k q z, (k.on q z).0, (k.back q z).0)

  -- the first row of a slot, or its sentinel
  module _ (s : ℕ) (sm : s < m) (x : ℕ) (is : x ≡ get_or (ons rows es) (length rows + s) 0) where
    pub front_home : get_or (homes m slot rows) x m ≡ s
    front_home =
        let z = sentinel_home m slot rows s sm in
        ap (λ j. get_or (homes m slot rows) j m) is ∙ (h.linked.on (length rows + s) (omega arith)).1 ∙ z

    pub front_live : x < length rows → get_or (tickets rows) x 0 ≢ 0
    front_live l = home_live m slot rows x l (omega (arith, front_home))

    -- its key is the lowest
    pub front_least : (i : ℕ) → i < length rows → get_or (homes m slot rows) i m ≡ s → (x < length rows) × (get_or (keys_by key rows) x 0 ≤ get_or (keys_by key rows) i 0)
    front_least i l e =
        let f = first_least (ons rows es) (backs rows es) (homes m slot rows) (keys_by key rows) (length rows) m h.linked s sm i (l, e) in
        subst (λ y. (y < length rows) × (get_or (keys_by key rows) y 0 ≤ get_or (keys_by key rows) i 0)) (sym is) (f.0.0, f.1)

  -- and what comes next after a row has the lowest of the higher keys
  pub next_lowest : (s : ℕ) → s < m → (x i : ℕ) → x < length rows → get_or (homes m slot rows) x m ≡ s → i < length rows → get_or (homes m slot rows) i m ≡ s → get_or (keys_by key rows) x 0 < get_or (keys_by key rows) i 0 → (get_or (ons rows es) x 0 < length rows) × (get_or (keys_by key rows) (get_or (ons rows es) x 0) 0 ≤ get_or (keys_by key rows) i 0)
  next_lowest s sm x i xl xh il ih l =
      let f = next_least (ons rows es) (backs rows es) (homes m slot rows) (keys_by key rows) (length rows) m h.linked s sm x i (xl, xh) (il, ih) l in
      (f.0.0, f.1)
