-- The first entry that a walk meets.
use Rattle.std.proofs.Common.{◌≡◌, ℕ, suc, ◌<◌, ◌≤◌, List, get_or, length, Some, None, refl, sym, ap, ◌∙◌, arith}
use Rattle.std.specs.Prelude.{slice_get}
use Rattle.std.specs.List.{filter_map}
use Rattle.std.proofs.lemmas.Bool.{lt-ltb, le-ltb}
use Rattle.timer_rows.specs.declared.row.Row.{Row}
use Rattle.timer_rows.specs.Rows.{contents, tickets}
use Rattle.timer_rows.specs.Walks.{walk, first_ticket}
use Rattle.timer_rows.proofs.Homes.{entry_at, entry_ticket}

module _ {P : Type 0} (rows : List (Row P)) (ns : List ℕ) (k x : ℕ) where
  pub first_met : x < length rows → first_ticket (filter_map (slice_get (contents rows)) (walk (suc k) ns (length rows) x)) ≡ Some (get_or (tickets rows) x 0)
  unfolding walk
  first_met l =
      let e = entry_at rows x l in
      rw (lt-ltb x (length rows) l, e.1) (ap Some (sym (entry_ticket rows x e.0 e.1)))

  pub none_met : length rows ≤ x → first_ticket (filter_map (slice_get (contents rows)) (walk (suc k) ns (length rows) x)) ≡ None
  unfolding walk
  none_met l = rw (le-ltb x (length rows) l) refl
