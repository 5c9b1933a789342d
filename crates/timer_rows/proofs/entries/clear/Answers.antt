use Rattle.std.proofs.Common.{◌≡◌, ℕ, ◌+◌, ◌<◌, ◌≤◌, ◌≢◌, List, map, length, length-set, get_or, set, sym, refl, ap, ◌∙◌, ⊎_elim, arith}
use Rattle.std.proofs.Math.Nat.{min-eq_left}
use Rattle.std.proofs.lemmas.List.{get_or_past, length-map, map-set}
use Rattle.std.proofs.lemmas.Bool.{cases_lt}
use Rattle.timer_rows.specs.declared.row.Row.{Row}
use Rattle.timer_rows.specs.Buckets.{buckets}
use Rattle.timer_rows.specs.Rows.{tickets}
use Rattle.timer_rows.proofs.Columns.{set_cases}
use Rattle.timer_rows.proofs.entries.clear.Goals as goal

-- one field of the rows when one of them is written
written : {P : Type 0} (f : Row P → ℕ) (rows : List (Row P)) (x : ℕ) (r : Row P) (k d v : ℕ) → x < length rows → (k ≡ x → f r ≡ v) → (k ≢ x → get_or (map f rows) k d ≡ v) → get_or (map f (set rows x r)) k d ≡ v
written f rows x r k d v l e o =
    ap (λ c. get_or c k d) (map-set f rows x r)
    ∙ ⊎_elim (λ p. p.1 ∙ e p.0) (λ p. p.1 ∙ o p.0) (set_cases (map f rows) x (f r) d k (omega (arith, length-map rows f)))

-- writing a row leaves the number of rows
short : {P : Type 0} (rows : List (Row P)) (x : ℕ) (r : Row P) → length (set rows x r) ≤ 4096 → length rows ≤ 4096
short rows x r h = omega (arith, length-set rows x r)

pub loop-x-preserved : goal.loop-x-preserved
loop-x-preserved g c = λ k h.
    let rows = c.loop-x.rows in
    let x = c.loop-x.x in
    let l : c.loop-x.x < length c.loop-x.rows = omega arith in (
      written (λ r. r.ticket) rows x _ k 0 0 l (λ e. refl) (λ n. (c.loop-x.invariant k (omega arith)).0),
      written (λ r. r.bucket) rows x _ k 65535 65535 l (λ e. refl) (λ n. (c.loop-x.invariant k (omega arith)).1),
      (λ few.
          let f : length rows ≤ 4096 = short rows x _ few in
          written (λ r. r.chain) rows x _ k 0 (k + 1) l (λ e. c.min.ensures ∙ min-eq_left (omega (arith, c.from.ensures)) ∙ ap (λ i. i + 1) (sym e)) (λ n. (c.loop-x.invariant k (omega arith)).2 f)),
    )

pub returns : goal.returns
returns g c =
    let rows = c.loop-x.rows in
    record {
      vacant = λ i.
          ⊎_elim
          (λ (h : i < length c.loop-x.rows). (c.loop-x.invariant i (omega arith)).0)
          (λ h. get_or_past (tickets rows) i 0 (omega (arith, length-map rows (λ r. r.ticket))))
          (cases_lt i (length rows));
      buckets = λ i.
          ⊎_elim
          (λ (h : i < length c.loop-x.rows). (c.loop-x.invariant i (omega arith)).1)
          (λ h. get_or_past (buckets rows) i 65535 (omega (arith, length-map rows (λ r. r.bucket))))
          (cases_lt i (length rows));
      stack = λ few i h. (c.loop-x.invariant i (omega arith)).2 (omega arith);
    }
