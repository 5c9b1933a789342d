-- Slots: doubly linked lists of rows, each with a sentinel.
-- With n rows and m slots, the nodes are the rows, 0 to n − 1, and the sentinel n + s of each slot s.
use Rattle.std.specs.Prelude.{◌≡◌, ℕ, ◌+◌, ◌<◌, List, ◌++◌, map, length, slice_index, slice_index_or}
use Rattle.timer_rows.specs.declared.row.Row.{Row}
use Rattle.timer_rows.specs.declared.ends.Ends.{Ends}
use Rattle.timer.specs.Meaning.{Entry}
use Rattle.timer_rows.specs.Rows.{nexts, prevs, entry_of}

-- the links onward of all nodes, and those back
abbrev pub ons : {P : Type 0} → List (Row P) → List Ends → List ℕ
ons rows es = nexts rows ++ map (λ e. e.head) es

abbrev pub backs : {P : Type 0} → List (Row P) → List Ends → List ℕ
backs rows es = prevs rows ++ map (λ e. e.tail) es

-- ns and ps are links of the nodes, hs is the slot of each node, or m for a row that is in none.
-- Each node leads by ns to a node of its slot, from which ps leads back to it.
abbrev pub Leads : List ℕ → List ℕ → List ℕ → ℕ → ℕ → Type 0
Leads ns ps hs n m =
    (y : ℕ)
    → slice_index_or hs y m < m
    → (slice_index ns y < n + m) × (slice_index_or hs (slice_index ns y) m ≡ slice_index_or hs y m) × (slice_index ps (slice_index ns y) ≡ y)

-- The slots with the links onward ns and back ps, where ks is the key of each row: along the links the keys rise.
-- As they rise, no rows form a ring of their own: each slot is one list, from its sentinel through all of its rows and back.
pub record Linked (ns ps hs ks : List ℕ) (n m : ℕ) : Type 0 where
  pub on : Leads ns ps hs n m
  pub back : Leads ps ns hs n m
  pub up : (y : ℕ) → y < n → slice_index_or hs y m < m → slice_index ns y < n → slice_index ks y < slice_index ks (slice_index ns y)
  pub sentinels : (s : ℕ) → s < m → slice_index_or hs (n + s) m ≡ s
  pub onward : length ns ≡ n + m
  pub backward : length ps ≡ n + m
  pub homes : length hs ≡ n + m
  pub keys : length ks ≡ n

-- what rows are sorted by
abbrev pub keys_by : {P : Type 0} → (Entry P → ℕ) → List (Row P) → List ℕ
keys_by key rows = map (λ r. key (entry_of r)) rows
