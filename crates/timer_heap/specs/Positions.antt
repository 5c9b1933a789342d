-- Where the entries of a heap stand: a row has an entry's position, and a position has the row.
-- A row's link onward is the row that stands at the position with the row's own number, and its link back is the position of its entry.
use Rattle.std.specs.Prelude.{◌≡◌, ℕ, ◌+◌, ◌*◌, ◌<◌, ◌≤◌, ◌≢◌, List, length, Some, slice_index}
use Rattle.std.specs.List.{AllByRecursion}
use Rattle.timer.specs.Meaning.{Entry}
use Rattle.timer.specs.Rules.{find}
use Rattle.timer_rows.specs.declared.row.Row.{Row}
use Rattle.timer_rows.specs.Links.{keys_by}
use Rattle.timer_rows.specs.Rows.{tickets, nexts, prevs}
use Rattle.timer_heap.specs.Order.{Heap, Loose, Sunk}

-- the first k positions and the rows that hold an entry are one to one: ts are the tickets of the rows, cs the rows of the positions, ps the positions of the rows
pub record Index (ts cs ps : List ℕ) (k : ℕ) : Type 0 where
  pub live : (i : ℕ) → i < k → slice_index ts (slice_index cs i) ≢ 0
  pub back : (i : ℕ) → i < k → slice_index ps (slice_index cs i) ≡ i
  pub placed : (r : ℕ) → slice_index ts r ≢ 0 → slice_index ps r < k
  pub there : (r : ℕ) → slice_index ts r ≢ 0 → slice_index cs (slice_index ps r) ≡ r
  pub room : k ≤ length ts
  pub cells : length cs ≡ length ts
  pub places : length ps ≡ length ts

-- what the heap is ordered by: the deadline and then the ticket, which is below 2 to the power of 32
abbrev pub key : {P : Type 0} → Entry P → ℕ
key e = e.deadline * 4294967296 + e.ticket

abbrev pub keys : {P : Type 0} → List (Row P) → List ℕ
keys rows = keys_by key rows

-- the rank of what stands at a position
abbrev pub rank_at : {P : Type 0} → List (Row P) → ℕ → ℕ
rank_at rows i = slice_index (keys rows) (slice_index (nexts rows) i)

abbrev pub Indexed : {P : Type 0} → List (Row P) → ℕ → Type 0
Indexed rows k = Index (tickets rows) (nexts rows) (prevs rows) k

-- the entries of the rows in a heap
pub record Ordered {P : Type 0} (rows : List (Row P)) (k : ℕ) : Type 0 where
  pub index : Indexed rows k
  pub heap : Heap (rank_at rows) k

-- the same but for the entry at position i: it may have to rise or to sink, or only to sink
pub record Unsettled {P : Type 0} (rows : List (Row P)) (i k : ℕ) : Type 0 where
  pub few : length rows ≤ 4096
  pub inside : i < k
  pub index : Indexed rows k
  pub loose : Loose (rank_at rows) i k

pub record Sinking {P : Type 0} (rows : List (Row P)) (i k : ℕ) : Type 0 where
  pub few : length rows ≤ 4096
  pub inside : i < k
  pub index : Indexed rows k
  pub sunk : Sunk (rank_at rows) i k

-- t is the ticket of one of the entries, and none of them comes before it
pub record Soonest {P : Type 0} (es : List (Entry P)) (t : ℕ) : Type 0 where
  pub entry : Entry P
  pub found : find t es ≡ Some entry
  pub first : AllByRecursion (λ e. key entry ≤ key e) es
