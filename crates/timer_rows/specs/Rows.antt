-- What a set of rows means.
use Rattle.std.specs.Prelude.{◌≡◌, ℕ, ◌<◌, if◌then◌else◌, ◌≢◌, List, [], ◌∷◌, map, length, take, drop, replicate, Option, MatchOption, ◌==◌, nat_lt, slice_index, slice_index_or}
use Rattle.timer.specs.Meaning.{Entry, Meaning}
use Rattle.timer_rows.specs.declared.row.Row.{Row}
use Rattle.timer_rows.specs.declared.ledger.Ledger.{Ledger}

-- of the rows that are lent to it, a store uses the first 4,096, and leaves the others as they are
abbrev pub used : {P : Type 0} → List (Row P) → List (Row P)
used rows = take 4096 rows

abbrev pub unused : {P : Type 0} → List (Row P) → List (Row P)
unused rows = drop 4096 rows

-- one field of each row
abbrev pub tickets : {P : Type 0} → List (Row P) → List ℕ
tickets rows = map (λ r. r.ticket) rows

abbrev pub deadlines : {P : Type 0} → List (Row P) → List ℕ
deadlines rows = map (λ r. r.deadline) rows

abbrev pub owners : {P : Type 0} → List (Row P) → List ℕ
owners rows = map (λ r. r.owner) rows

abbrev pub nexts : {P : Type 0} → List (Row P) → List ℕ
nexts rows = map (λ r. r.next) rows

abbrev pub prevs : {P : Type 0} → List (Row P) → List ℕ
prevs rows = map (λ r. r.prev) rows

abbrev pub entry_of : {P : Type 0} → Row P → Entry P
entry_of r = record { ticket = r.ticket; deadline = r.deadline; owner = r.owner; payload = r.payload }

-- what is left in a row whose entry was given up
abbrev pub vacated : {P : Type 0} → Entry P → Entry P
vacated e = record { ticket = 0; deadline = e.deadline; owner = e.owner; payload = e.payload }

-- an entry put among others by its ticket
abbrev pub placed : {P : Type 0} → Entry P → List (Entry P) → List (Entry P)
placed e [] = e ∷ []
placed e (f ∷ fs) = if nat_lt e.ticket f.ticket then e ∷ f ∷ fs else f ∷ placed e fs

-- those that have a ticket, in the order of their tickets
abbrev pub listed : {P : Type 0} → List (Entry P) → List (Entry P)
listed [] = []
listed (e ∷ es) = if e.ticket == 0 then listed es else placed e (listed es)

-- what the rows hold beside their links
abbrev pub contents : {P : Type 0} → List (Row P) → List (Entry P)
contents rows = map entry_of rows

-- the pending entries
abbrev pub entries : {P : Type 0} → List (Row P) → List (Entry P)
entries rows = listed (contents rows)

-- the store that the rows and the ledger are: its capacity is the number of rows, and so is every owner's limit
abbrev pub meant : {P : Type 0} → List (Row P) → Ledger → Meaning P
meant rows l =
    record {
      now = l.now;
      last = l.last;
      capacity = length rows;
      limits = replicate 64 (length rows);
      given = l.given;
      pending = entries rows;
    }

-- the answer to a search for a ticket: the index of a row that has it, or that none has
abbrev pub Sought : {P : Type 0} → List (Row P) → ℕ → Option ℕ → Type 0
Sought rows t r =
    MatchOption r ((i : ℕ) → i < length rows → slice_index (tickets rows) i ≢ t) (λ i. (i < length rows) × (slice_index (tickets rows) i ≡ t))

-- none of the rows holds an entry that is due at n
abbrev pub NoneDue : {P : Type 0} → ℕ → List (Row P) → Type 0
NoneDue n rows = (i : ℕ) → i < length rows → slice_index (tickets rows) i ≢ 0 → slice_index (deadlines rows) i ≢ n

-- the row x holds an entry that is due at n, and its ticket is the lowest of those that are
pub record Foremost {P : Type 0} (n : ℕ) (rows : List (Row P)) (x : ℕ) : Type 0 where
  pub row : x < length rows
  pub live : slice_index_or (tickets rows) x 0 ≢ 0
  pub due : slice_index_or (deadlines rows) x 0 ≡ n
  pub least : (i : ℕ) → i ≢ x → slice_index (tickets rows) i ≢ 0 → slice_index (deadlines rows) i ≡ n → slice_index (tickets rows) x < slice_index (tickets rows) i
