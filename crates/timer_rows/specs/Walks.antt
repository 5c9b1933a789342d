-- The way along a slot, from its sentinel on.
use Rattle.std.specs.Prelude.{◌≡◌, ℕ, zero, suc, ◌+◌, ◌/◌, if◌then◌else◌, List, [], ◌∷◌, length, reverse, nat_le, nat_lt, Some, None, Option, ◌==◌, slice_index}
use Rattle.std.specs.List.{filter, filter_map, slice_get}
use Rattle.timer.specs.Meaning.{Entry}
use Rattle.timer_rows.specs.declared.row.Row.{Row}
use Rattle.timer_rows.specs.declared.ends.Ends.{Ends}
use Rattle.timer_rows.specs.Links.{ons, backs}
use Rattle.timer_rows.specs.Rows.{contents, entries}

-- the rows met along links from a node on, until a sentinel is met, but at most k of them; the nodes below n are rows
unfoldable pub walk : ℕ → List ℕ → ℕ → ℕ → List ℕ
walk zero ns n node = []
walk (suc k) ns n node = if nat_lt node n then node ∷ walk k ns n (slice_index ns node) else []

-- the rows of slot s, from its front on, and from its end back; a walk that did not end would meet one more than there are
abbrev pub forward : {P : Type 0} → List (Row P) → List Ends → ℕ → List ℕ
forward rows es s = walk (suc (length rows)) (ons rows es) (length rows) (slice_index (ons rows es) (length rows + s))

abbrev pub backward : {P : Type 0} → List (Row P) → List Ends → ℕ → List ℕ
backward rows es s = walk (suc (length rows)) (backs rows es) (length rows) (slice_index (backs rows es) (length rows + s))

-- a walk along slot s meets these entries and no others, in this order, and a walk back meets them in the opposite one
pub record Meets {P : Type 0} (rows : List (Row P)) (es : List Ends) (s : ℕ) (met : List (Entry P)) : Type 0 where
  pub onward : filter_map (slice_get (contents rows)) (forward rows es s) ≡ met
  pub back : filter_map (slice_get (contents rows)) (backward rows es s) ≡ reverse met

-- an element put among others, before the first whose key is not lower
abbrev pub put_by : {X : Type 0} → (X → ℕ) → X → List X → List X
put_by key x [] = x ∷ []
put_by key x (y ∷ ys) = if nat_le (key x) (key y) then x ∷ y ∷ ys else y ∷ put_by key x ys

-- the elements by key; those with one key stay in their order
abbrev pub sort_by : {X : Type 0} → (X → ℕ) → List X → List X
sort_by key [] = []
sort_by key (x ∷ xs) = put_by key x (sort_by key xs)

-- the ticket of the first of some entries
abbrev pub first_ticket : {P : Type 0} → List (Entry P) → Option ℕ
first_ticket [] = None
first_ticket (e ∷ es) = Some e.ticket

-- the pending entries of a slot by key
abbrev pub in_slot : {P : Type 0} → (Entry P → ℕ) → (Entry P → ℕ) → ℕ → List (Row P) → List (Entry P)
in_slot slot key s rows = sort_by key (filter (λ e. slot e == s) (entries rows))

-- three rows, of which 2 and 0 are in the one slot, whose sentinel is 3; five numbers by their tens
abbrev pub Examples : Type 0
Examples =
    (walk 4 (3 ∷ 0 ∷ 0 ∷ 2 ∷ []) 3 2 ≡ 2 ∷ 0 ∷ [])
    × (walk 4 (2 ∷ 0 ∷ 3 ∷ 0 ∷ []) 3 0 ≡ 0 ∷ 2 ∷ [])
    × (walk 4 (3 ∷ 0 ∷ 0 ∷ 2 ∷ []) 3 3 ≡ [])
    × (walk 1 (3 ∷ 0 ∷ 0 ∷ 2 ∷ []) 3 2 ≡ 2 ∷ [])
    × (sort_by (λ n. n / 10) (31 ∷ 12 ∷ 25 ∷ 10 ∷ 24 ∷ []) ≡ 12 ∷ 10 ∷ 25 ∷ 24 ∷ 31 ∷ [])
