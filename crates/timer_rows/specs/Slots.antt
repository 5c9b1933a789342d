-- The slots of a store: each is a doubly linked list of the rows whose entries it is for, sorted by a key.
use Rattle.std.specs.Prelude.{◌≡◌, ℕ, ◌<◌, if◌then◌else◌, ◌≢◌, List, ◌++◌, map, length, Some, ◌==◌, slice_get, slice_index, slice_index_or}
use Rattle.std.specs.List.{range_with_len}
use Rattle.timer.specs.Meaning.{Entry}
use Rattle.timer_rows.specs.declared.row.Row.{Row}
use Rattle.timer_rows.specs.declared.ends.Ends.{Ends}
use Rattle.timer_rows.specs.Links.{ons, backs, Linked, keys_by}
use Rattle.timer_rows.specs.Rows.{tickets, contents, entry_of}

-- the slot of a row that holds e: m, which is none, if the row is vacant
abbrev pub home : {P : Type 0} → ℕ → (Entry P → ℕ) → Entry P → ℕ
home m slot e = if e.ticket == 0 then m else slot e

-- the slots of the sentinels: 0 to m − 1
unfoldable pub numbered : ℕ → List ℕ
numbered m = range_with_len 0 m

-- the slot of each node, the sentinels last
abbrev pub homes : {P : Type 0} → ℕ → (Entry P → ℕ) → List (Row P) → List ℕ
homes m slot rows = map (λ r. home m slot (entry_of r)) rows ++ numbered m

-- m slots, where `slot` says which one an entry is for, and `key` what each of them is sorted by; a row that holds an entry is in one
pub record Slots {P : Type 0} (slot key : Entry P → ℕ) (rows : List (Row P)) (es : List Ends) (m : ℕ) : Type 0 where
  pub each : (i : ℕ) → slice_index (tickets rows) i ≢ 0 → slice_index_or (homes m slot rows) i m < m
  pub linked : Linked (ons rows es) (backs rows es) (homes m slot rows) (keys_by key rows) (length rows) m

-- the rows are in m slots, whichever one an entry is for, and whatever they are sorted by
abbrev pub Slotted : {P : Type 0} → List (Row P) → List Ends → ℕ → Type 0
Slotted {P} rows es m = (slot : Entry P → ℕ) × (key : Entry P → ℕ) × Slots slot key rows es m

-- e belongs before the node q: q is in its slot, where a lower key comes before and a higher one after
pub record Between {P : Type 0} (slot key : Entry P → ℕ) (rows : List (Row P)) (es : List Ends) (m q : ℕ) (e : Entry P) : Type 0 where
  pub slot_below : slot e < m
  pub node : slice_index_or (homes m slot rows) q m ≡ slot e
  pub after : slice_index (backs rows es) q < length rows → slice_index (keys_by key rows) (slice_index (backs rows es) q) < key e
  pub before : q < length rows → key e < slice_index (keys_by key rows) q

-- of the pending entries only that of the row x is for another slot by `new` than by `old`: for s, where it has the highest key
pub record Moves {P : Type 0} (old new key : Entry P → ℕ) (rows : List (Row P)) (x s : ℕ) : Type 0 where
  pub there : (e : Entry P) → slice_get (contents rows) x ≡ Some e → new e ≡ s
  pub others : (i : ℕ) (e : Entry P) → i ≢ x → slice_get (contents rows) i ≡ Some e → e.ticket ≢ 0 → new e ≡ old e
  pub last : (i : ℕ) (e f : Entry P) → i ≢ x → slice_get (contents rows) x ≡ Some e → slice_get (contents rows) i ≡ Some f → f.ticket ≢ 0 → old f ≡ s → key f < key e
