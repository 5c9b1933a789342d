-- A doubly linked list of the rows that hold an entry, by deadline and then by ticket.
use Rattle.std.specs.Prelude.{◌≡◌, ℕ, ◌+◌, ◌*◌, ◌<◌, ◌≤◌, List, length, slice_index, slice_index_or, sum_by}
use Rattle.timer.specs.Meaning.{Entry}
use Rattle.timer_rows.specs.declared.row.Row.{Row}
use Rattle.timer_rows.specs.declared.ends.Ends.{Ends}
use Rattle.timer_rows.specs.Links.{backs, keys_by}
use Rattle.timer_rows.specs.Rows.{deadlines}
use Rattle.timer_rows.specs.Slots.{homes, Slots}
use Rattle.timer_rows.specs.Walks.{sort_by}

-- there is one slot
abbrev pub slot : {P : Type 0} → Entry P → ℕ
slot e = 0

-- what the list is sorted by: the deadline and then the ticket, which is below 2 to the power of 32
abbrev pub key : {P : Type 0} → Entry P → ℕ
key e = e.deadline * 4294967296 + e.ticket

-- the entries by deadline; those with one deadline stay in their order
abbrev pub by_deadline : {P : Type 0} → List (Entry P) → List (Entry P)
by_deadline es = sort_by (λ e. e.deadline) es

-- a number above all keys
abbrev pub top : {P : Type 0} → List (Row P) → ℕ
top rows = sum_by (λ k. k) (keys_by key rows) + 1

abbrev pub Sorted : {P : Type 0} → List (Row P) → List Ends → Type 0
Sorted rows es = Slots slot key rows es 1

-- the node before which an entry with the deadline d goes: what comes before is due no later, and the node itself is
pub record Spot {P : Type 0} (rows : List (Row P)) (es : List Ends) (d q : ℕ) : Type 0 where
  pub node : slice_index_or (homes 1 slot rows) q 1 ≡ 0
  pub before : slice_index_or (backs rows es) q 0 < length rows → slice_index (deadlines rows) (slice_index (backs rows es) q) ≤ d
  pub after : q < length rows → d < slice_index (deadlines rows) q
