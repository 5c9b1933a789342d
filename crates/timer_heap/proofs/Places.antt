-- The rows and positions of a heap when two entries change places, and when one comes or goes.
use Rattle.std.proofs.Common.{◌≡◌, ℕ, ◌+◌, ◌<◌, ◌≤◌, ◌≢◌, List, length, get_or, set, sym, ap, ◌∙◌, ⊎_elim, arith}
use Rattle.std.proofs.lemmas.List.{get_or_past, get_or-set_same, get_or-set_other, length-set, map-set}
use Rattle.std.proofs.lemmas.Bool.{cases_eq, cases_lt}
use Rattle.timer_rows.proofs.Columns.{column_same, set_cases}
use Rattle.timer_heap.specs.Positions.{Index}

-- a column of the rows after a write
pub ruleset written = (column_same, map-set)

-- a row that holds an entry is one of the rows
pub within : (ts : List ℕ) (r : ℕ) → get_or ts r 0 ≢ 0 → r < length ts
within ts r n =
    ⊎_elim (λ (l : r < length ts). l) (λ (l : length ts ≤ r). absurd (n (get_or_past ts r 0 l))) (cases_lt r (length ts))

module _ (ts cs ps : List ℕ) (k : ℕ) (h : Index ts cs ps k) where
  -- at two positions stand two rows
  pub apart : (i j : ℕ) → i < k → j < k → get_or cs i 0 ≡ get_or cs j 0 → i ≡ j
  apart i j a b e = sym (h.back i a) ∙ ap (λ r. get_or ps r 0) e ∙ h.back j b

  pub cell_within : (i : ℕ) → i < k → get_or cs i 0 < length ts
  cell_within i l = within ts (get_or cs i 0) (h.live i l)

  -- the entries at a and b, of the rows x and y, change places
  module _ (a b x y : ℕ) (ak : a < k) (bk : b < k) (xa : get_or cs a 0 ≡ x) (yb : get_or cs b 0 ≡ y) (cs' ps' : List ℕ) (ca : get_or cs' a 0 ≡ y) (cb : get_or cs' b 0 ≡ x) (co : (i : ℕ) → i ≢ a → i ≢ b → get_or cs' i 0 ≡ get_or cs i 0) (px : get_or ps' x 0 ≡ b) (py : get_or ps' y 0 ≡ a) (po : (r : ℕ) → r ≢ x → r ≢ y → get_or ps' r 0 ≡ get_or ps r 0) (lc : length cs' ≡ length cs) (lp : length ps' ≡ length ps) where
    swap_live : (i : ℕ) → i < k → get_or ts (get_or cs' i 0) 0 ≢ 0
    swap_live i l z =
        ⊎_elim
        (λ (e : i ≡ a). h.live b bk (ap (λ r. get_or ts r 0) (yb ∙ sym ca ∙ ap (λ j. get_or cs' j 0) (sym e)) ∙ z))
        (λ (na : i ≢ a).
        ⊎_elim
        (λ (e : i ≡ b). h.live a ak (ap (λ r. get_or ts r 0) (xa ∙ sym cb ∙ ap (λ j. get_or cs' j 0) (sym e)) ∙ z))
        (λ (nb : i ≢ b). h.live i l (ap (λ r. get_or ts r 0) (sym (co i na nb)) ∙ z))
        (cases_eq i b))
        (cases_eq i a)

    swap_back : (i : ℕ) → i < k → get_or ps' (get_or cs' i 0) 0 ≡ i
    swap_back i l =
        ⊎_elim
        (λ (e : i ≡ a). ap (λ r. get_or ps' r 0) (ap (λ j. get_or cs' j 0) e ∙ ca) ∙ py ∙ sym e)
        (λ (na : i ≢ a).
        ⊎_elim
        (λ (e : i ≡ b). ap (λ r. get_or ps' r 0) (ap (λ j. get_or cs' j 0) e ∙ cb) ∙ px ∙ sym e)
        (λ (nb : i ≢ b).
        ap (λ r. get_or ps' r 0) (co i na nb)
        ∙ po (get_or cs i 0) (λ e. na (apart i a l ak (e ∙ sym xa))) (λ e. nb (apart i b l bk (e ∙ sym yb)))
        ∙ h.back i l)
        (cases_eq i b))
        (cases_eq i a)

    swap_placed : (r : ℕ) → get_or ts r 0 ≢ 0 → get_or ps' r 0 < k
    swap_placed r n =
        ⊎_elim
        (λ (e : r ≡ x). omega (arith, ap (λ j. get_or ps' j 0) e, px))
        (λ (nx : r ≢ x).
        ⊎_elim
        (λ (e : r ≡ y). omega (arith, ap (λ j. get_or ps' j 0) e, py))
        (λ (ny : r ≢ y). omega (arith, po r nx ny, h.placed r n))
        (cases_eq r y))
        (cases_eq r x)

    swap_there : (r : ℕ) → get_or ts r 0 ≢ 0 → get_or cs' (get_or ps' r 0) 0 ≡ r
    swap_there r n =
        ⊎_elim
        (λ (e : r ≡ x). ap (λ j. get_or cs' j 0) (ap (λ j. get_or ps' j 0) e ∙ px) ∙ cb ∙ sym e)
        (λ (nx : r ≢ x).
        ⊎_elim
        (λ (e : r ≡ y). ap (λ j. get_or cs' j 0) (ap (λ j. get_or ps' j 0) e ∙ py) ∙ ca ∙ sym e)
        (λ (ny : r ≢ y).
        let t = h.there r n in
        ap (λ j. get_or cs' j 0) (po r nx ny)
        ∙ co (get_or ps r 0) (λ e. nx (sym t ∙ ap (λ j. get_or cs j 0) e ∙ xa)) (λ e. ny (sym t ∙ ap (λ j. get_or cs j 0) e ∙ yb))
        ∙ t)
        (cases_eq r y))
        (cases_eq r x)

    pub swap_index : Index ts cs' ps' k
    swap_index =
        record {
          live = swap_live;
          back = swap_back;
          placed = swap_placed;
          there = swap_there;
          room = h.room;
          cells = lc ∙ h.cells;
          places = lp ∙ h.places;
        }

  -- the vacant row x takes in an entry, at the position k
  module _ (x t : ℕ) (free : get_or ts x 0 ≡ 0) (xl : x < length ts) (kl : k < length ts) (tn : t ≢ 0) where
    pub added_cell : (i : ℕ) → i < k → get_or cs i 0 ≢ x
    added_cell i l e = h.live i l (ap (λ r. get_or ts r 0) e ∙ free)

    pub enter_index : Index (set ts x t) (set cs k x) (set ps x k) (k + 1)
    enter_index =
        record {
          live = λ i l z.
              ⊎_elim
              (λ p. tn (sym (get_or-set_same ts x t 0 xl) ∙ ap (λ r. get_or (set ts x t) r 0) (sym p.1) ∙ z))
              (λ p.
              let ik : i < k = let n = p.0 in omega arith in
              h.live i ik (sym (get_or-set_other ts x (get_or cs i 0) t 0 (added_cell i ik)) ∙ ap (λ r. get_or (set ts x t) r 0) (sym p.1) ∙ z))
              (set_cases cs k x 0 i (omega (arith, h.cells)));
          back = λ i l.
              ⊎_elim
              (λ p. ap (λ r. get_or (set ps x k) r 0) p.1 ∙ get_or-set_same ps x k 0 (omega (arith, h.places)) ∙ sym p.0)
              (λ p.
              let ik : i < k = let n = p.0 in omega arith in
              ap (λ r. get_or (set ps x k) r 0) p.1 ∙ get_or-set_other ps x (get_or cs i 0) k 0 (added_cell i ik) ∙ h.back i ik)
              (set_cases cs k x 0 i (omega (arith, h.cells)));
          placed = λ r n.
              ⊎_elim
              (λ p. omega (arith, p.1))
              (λ p. omega (arith, p.1, h.placed r (λ z. n (get_or-set_other ts x r t 0 p.0 ∙ z))))
              (set_cases ps x k 0 r (omega (arith, h.places)));
          there = λ r n.
              ⊎_elim
              (λ p. ap (λ j. get_or (set cs k x) j 0) p.1 ∙ get_or-set_same cs k x 0 (omega (arith, h.cells)) ∙ sym p.0)
              (λ p.
              let nr : get_or ts r 0 ≢ 0 = λ z. n (get_or-set_other ts x r t 0 p.0 ∙ z) in
              let w = h.placed r nr in
              ap (λ j. get_or (set cs k x) j 0) p.1 ∙ get_or-set_other cs k (get_or ps r 0) x 0 (omega arith) ∙ h.there r nr)
              (set_cases ps x k 0 r (omega (arith, h.places)));
          room = simp length-set (omega arith);
          cells = simp length-set h.cells;
          places = simp length-set h.places;
        }

-- the row x, whose entry stands last, gives it up
module _ (ts cs ps : List ℕ) (k x : ℕ) (h : Index ts cs ps (k + 1)) (e : get_or cs k 0 ≡ x) where
  pub left_cell : (i : ℕ) → i < k → get_or cs i 0 ≢ x
  left_cell i l z = omega (arith, apart ts cs ps (k + 1) h i k (omega arith) (omega arith) (z ∙ sym e))

  pub leave_index : Index (set ts x 0) cs ps k
  leave_index =
      let xl : x < length ts = omega (arith, e, cell_within ts cs ps (k + 1) h k (omega arith)) in
      let was : (r : ℕ) → get_or (set ts x 0) r 0 ≢ 0 → (r ≢ x) × (get_or ts r 0 ≢ 0) = λ r n.
      ⊎_elim (λ p. absurd (n p.1)) (λ p. (p.0, λ z. n (p.1 ∙ z))) (set_cases ts x 0 0 r xl) in
      record {
        live = λ i l z. h.live i (omega arith) (sym (get_or-set_other ts x (get_or cs i 0) 0 0 (left_cell i l)) ∙ z);
        back = λ i l. h.back i (omega arith);
        placed = λ r n.
            let w = was r n in
            let p = h.placed r w.1 in
            let q : get_or ps r 0 ≢ k = λ z. w.0 (sym (h.there r w.1) ∙ ap (λ j. get_or cs j 0) z ∙ e) in
            omega arith;
        there = λ r n. h.there r (was r n).1;
        room = simp length-set (omega (arith, h.room));
        cells = simp length-set h.cells;
        places = simp length-set h.places;
      }

-- a list after two writes that do not conflict
module _ (xs : List ℕ) (a b u v : ℕ) (al : a < length xs) (bl : b < length xs) (same : a ≡ b → u ≡ v) where
  pub twice_first : get_or (set (set xs a u) b v) a 0 ≡ u
  twice_first =
      ⊎_elim
      (λ p. p.1 ∙ sym (same p.0))
      (λ p. p.1 ∙ get_or-set_same xs a u 0 al)
      (set_cases (set xs a u) b v 0 a (simp length-set bl))

  pub twice_second : get_or (set (set xs a u) b v) b 0 ≡ v
  twice_second = get_or-set_same (set xs a u) b v 0 (simp length-set bl)

  pub twice_other : (i : ℕ) → i ≢ a → i ≢ b → get_or (set (set xs a u) b v) i 0 ≡ get_or xs i 0
  twice_other i na nb = get_or-set_other (set xs a u) b i v 0 nb ∙ get_or-set_other xs a i u 0 na
