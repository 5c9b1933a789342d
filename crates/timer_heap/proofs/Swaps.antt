-- The heap in the rows when the entries at two positions change places.
use Rattle.std.proofs.Common.{◌≡◌, ℕ, ◌<◌, ◌≢◌, List, length, get_or, set, sym, refl, ap, ◌∙◌, subst, arith}
use Rattle.std.proofs.lemmas.List.{length-map, length-set}
use Rattle.timer_rows.specs.declared.row.Row.{Row}
use Rattle.timer_rows.specs.Rows.{tickets, nexts, prevs, contents}
use Rattle.timer_rows.proofs.Same.{same_column, same_length}
use Rattle.timer_heap.specs.Order.{Under, Sooner, Settled, Later}
use Rattle.timer_heap.specs.Positions.{Index, Indexed, Unsettled, Sinking, key, keys, rank_at}
use Rattle.timer_heap.proofs.Places.{cell_within, swap_index, twice_first, twice_second, twice_other}
use Rattle.timer_heap.proofs.Rises.{rise, rise_under, rests, risen}
use Rattle.timer_heap.proofs.Sinks.{sink}

module _ {P : Type 0} (rows : List (Row P)) (k : ℕ) (h : Indexed rows k) where
  -- a position and the row that stands there
  pub reach : (i : ℕ) → i < k → (i < length rows) × (get_or (nexts rows) i 0 < length rows)
  reach i l =
      let n = length-map rows (λ r. r.ticket) in
      (omega (arith, h.room), omega (arith, cell_within (tickets rows) (nexts rows) (prevs rows) k h i l))

  module _ (a b : ℕ) (ak : a < k) (bk : b < k) (rows' : List (Row P)) (cells : nexts rows' ≡ set (set (nexts rows) a (get_or (nexts rows) b 0)) b (get_or (nexts rows) a 0)) (places : prevs rows' ≡ set (set (prevs rows) (get_or (nexts rows) b 0) a) (get_or (nexts rows) a 0) b) (same : contents rows' ≡ contents rows) where
    cell : (i r : ℕ) → get_or (set (set (nexts rows) a (get_or (nexts rows) b 0)) b (get_or (nexts rows) a 0)) i 0 ≡ r → get_or (nexts rows') i 0 ≡ r
    cell i r e = ap (λ l. get_or l i 0) cells ∙ e

    place : (r i : ℕ) → get_or (set (set (prevs rows) (get_or (nexts rows) b 0) a) (get_or (nexts rows) a 0) b) r 0 ≡ i → get_or (prevs rows') r 0 ≡ i
    place r i e = ap (λ l. get_or l r 0) places ∙ e

    cells_long : length (nexts rows) ≡ length rows
    cells_long = length-map rows (λ r. r.next)

    places_long : length (prevs rows) ≡ length rows
    places_long = length-map rows (λ r. r.prev)

    al : a < length (nexts rows)
    al = omega (arith, (reach a ak).0, cells_long)

    bl : b < length (nexts rows)
    bl = omega (arith, (reach b bk).0, cells_long)

    xl : get_or (nexts rows) a 0 < length (prevs rows)
    xl = omega (arith, (reach a ak).1, places_long)

    yl : get_or (nexts rows) b 0 < length (prevs rows)
    yl = omega (arith, (reach b bk).1, places_long)

    one : a ≡ b → get_or (nexts rows) b 0 ≡ get_or (nexts rows) a 0
    one e = ap (λ i. get_or (nexts rows) i 0) (sym e)

    other : get_or (nexts rows) b 0 ≡ get_or (nexts rows) a 0 → a ≡ b
    other e = sym (h.back a ak) ∙ ap (λ r. get_or (prevs rows) r 0) (sym e) ∙ h.back b bk

    cell_a : get_or (nexts rows') a 0 ≡ get_or (nexts rows) b 0
    cell_a = cell a _ (twice_first (nexts rows) a b _ _ al bl one)

    pub cell_b : get_or (nexts rows') b 0 ≡ get_or (nexts rows) a 0
    cell_b = cell b _ (twice_second (nexts rows) a b _ _ al bl one)

    cell_other : (i : ℕ) → i ≢ a → i ≢ b → get_or (nexts rows') i 0 ≡ get_or (nexts rows) i 0
    cell_other i na nb = cell i _ (twice_other (nexts rows) a b _ _ al bl one i na nb)

    pub swapped_index : Indexed rows' k
    swapped_index =
        subst (λ ts. Index ts (nexts rows') (prevs rows') k) (sym (same_column (λ e. e.ticket) rows rows' same))
        (swap_index (tickets rows) (nexts rows) (prevs rows) k h a b (get_or (nexts rows) a 0) (get_or (nexts rows) b 0) ak bk refl refl (nexts rows') (prevs rows')
        cell_a cell_b cell_other
        (place _ _ (twice_second (prevs rows) _ _ a b yl xl other))
        (place _ _ (twice_first (prevs rows) _ _ a b yl xl other))
        (λ r nx ny. place r _ (twice_other (prevs rows) _ _ a b yl xl other r ny nx))
        (ap length cells ∙ simp length-set)
        (ap length places ∙ simp length-set))

    rank_by : (i j : ℕ) → get_or (nexts rows') i 0 ≡ get_or (nexts rows) j 0 → rank_at rows' i ≡ rank_at rows j
    rank_by i j e =
        ap (λ l. get_or l (get_or (nexts rows') i 0) 0) (same_column key rows rows' same) ∙ ap (λ r. get_or (keys rows) r 0) e

    pub swapped_a : rank_at rows' a ≡ rank_at rows b
    swapped_a = rank_by a b cell_a

    pub swapped_b : rank_at rows' b ≡ rank_at rows a
    swapped_b = rank_by b a cell_b

    pub swapped_other : (i : ℕ) → i ≢ a → i ≢ b → rank_at rows' i ≡ rank_at rows i
    swapped_other i na nb = rank_by i i (cell_other i na nb)

module _ {P : Type 0} (rows : List (Row P)) (i k : ℕ) where
  -- an entry that rises no more
  pub stays_up : (start : ℕ) → start < k → Settled (rank_at rows) i → Unsettled rows i k → (i ≢ start → Under (rank_at rows) i k) → Sinking rows start k
  stays_up start l w u d =
      record {
        few = u.few;
        inside = l;
        index = u.index;
        sunk = risen (rank_at rows) k start i d (rests (rank_at rows) k i w u.loose);
      }

  -- a step up to q, and a step down to q
  module _ (rows' : List (Row P)) (q : ℕ) (same : contents rows' ≡ contents rows) where
    pub step_up : Unsettled rows i k → Later (rank_at rows) i q → nexts rows' ≡ set (set (nexts rows) q (get_or (nexts rows) i 0)) i (get_or (nexts rows) q 0) → prevs rows' ≡ set (set (prevs rows) (get_or (nexts rows) i 0) q) (get_or (nexts rows) q 0) i → Unsettled rows' q k × Under (rank_at rows') q k
    step_up u t cells places =
        let ik : i < k = u.inside in
        let qk : q < k = omega (arith, t.parent) in
        let a = swapped_a rows k u.index q i qk ik rows' cells places same in
        let b = swapped_b rows k u.index q i qk ik rows' cells places same in
        let o = swapped_other rows k u.index q i qk ik rows' cells places same in (
          record {
            few = omega (arith, u.few, same_length rows rows' same);
            inside = qk;
            index = swapped_index rows k u.index q i qk ik rows' cells places same;
            loose = rise (rank_at rows) (rank_at rows') q i k t.some t.parent ik a b o t.higher u.loose;
          },
          rise_under (rank_at rows) (rank_at rows') q i k t.some t.parent ik a b o t.higher u.loose,
        )

    pub step_down : Sinking rows i k → Sooner (rank_at rows) i k q → nexts rows' ≡ set (set (nexts rows) i (get_or (nexts rows) q 0)) q (get_or (nexts rows) i 0) → prevs rows' ≡ set (set (prevs rows) (get_or (nexts rows) q 0) i) (get_or (nexts rows) i 0) q → Sinking rows' q k
    step_down s t cells places =
        let ik = s.inside in
        let qk = t.least.inside in
        record {
          few = omega (arith, s.few, same_length rows rows' same);
          inside = qk;
          index = swapped_index rows k s.index i q ik qk rows' cells places same;
          sunk = sink (rank_at rows) (rank_at rows') i q k t.least (swapped_a rows k s.index i q ik qk rows' cells places same) (swapped_b rows k s.index i q ik qk rows' cells places same) (swapped_other rows k s.index i q ik qk rows' cells places same) t.lower s.sunk;
        }
