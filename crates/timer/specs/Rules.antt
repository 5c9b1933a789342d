-- What each call answers, what the store means afterwards, and what happened to which timer.
use Rattle.std.specs.Prelude.{◌≡◌, ℕ, ◌+◌, ◌<◌, Bool, true, false, if◌then◌else◌, List, [], ◌∷◌, ◌++◌, length, is_some, Some, None, Ok, Err, Option, Result, ◌==◌, nat_le, nat_lt, slice_index}
use Rattle.timer.specs.declared.expired.Expired.{Expired}
use Rattle.timer.specs.declared.fault.TimerFault.{TimerFault}
use Rattle.timer.specs.declared.fault.TimerFault.TheVariants.{Past, Late, Owner, Spent, Full, Limit, Missing, Due, Ended}
use Rattle.timer.specs.Faults.{fault_number}
use Rattle.timer.specs.Meaning.{Entry, Meaning}

-- what happens to a timer: it is started with a deadline, stopped, or it fires in a tick
pub data Event : Type 0 where
  Started : ℕ → ℕ → Event
  Stopped : ℕ → Event
  Fired : ℕ → ℕ → Event

pub record Outcome (A P : Type 0) : Type 0 where
  pub answer : A
  pub after : Meaning P
  pub events : List Event

-- how many of the entries are the owner's
abbrev pub count : {P : Type 0} → ℕ → List (Entry P) → ℕ
count o [] = 0
count o (e ∷ es) = if e.owner == o then count o es + 1 else count o es

-- the entry with the ticket
abbrev pub find : {P : Type 0} → ℕ → List (Entry P) → Option (Entry P)
find t [] = None
find t (e ∷ es) = if e.ticket == t then Some e else find t es

-- the entries but for the one with the ticket
abbrev pub without : {P : Type 0} → ℕ → List (Entry P) → List (Entry P)
without t [] = []
without t (e ∷ es) = if e.ticket == t then es else e ∷ without t es

-- the first entry whose deadline is the tick: the one with the lowest ticket, since entries stand in the order of their tickets
abbrev pub due_entry : {P : Type 0} → ℕ → List (Entry P) → Option (Entry P)
due_entry n [] = None
due_entry n (e ∷ es) = if e.deadline == n then Some e else due_entry n es

-- the questions
abbrev pub due_rule : {P : Type 0} → Meaning P → Bool
due_rule m = is_some (due_entry m.now m.pending)

abbrev pub limit_rule : {P : Type 0} → Meaning P → ℕ → ℕ
limit_rule m o = if nat_lt o 64 then slice_index m.limits o else 0

abbrev pub count_rule : {P : Type 0} → Meaning P → ℕ → ℕ
count_rule m o = if nat_lt o 64 then count o m.pending else 0

-- whether a refusal of a start applies
abbrev pub applies : {P : Type 0} → Meaning P → ℕ → ℕ → TimerFault → Bool
applies m deadline owner Past = nat_le deadline m.now
applies m deadline owner Late = nat_lt m.last deadline
applies m deadline owner Owner = nat_le 64 owner
applies m deadline owner Spent = m.given == 4294967295
applies m deadline owner Full = length m.pending == m.capacity
applies m deadline owner Limit = nat_le (limit_rule m owner) (count_rule m owner)
applies m deadline owner Missing = false
applies m deadline owner Due = false
applies m deadline owner Ended = false

-- the first of some refusals that a test hits
abbrev pub first_of : (TimerFault → Bool) → List TimerFault → Option TimerFault
first_of hit [] = None
first_of hit (f ∷ fs) = if hit f then Some f else first_of hit fs

-- what check answers
unfoldable pub check_rule : {P : Type 0} → Meaning P → ℕ → ℕ → Option TimerFault
check_rule m deadline owner =
    first_of (applies m deadline owner) (Past ∷ Late ∷ Owner ∷ Spent ∷ Full ∷ Limit ∷ [])

-- the answer is the refusal with the lowest number of those that the test hits, or none where it hits none
abbrev pub Lowest : (TimerFault → Bool) → Option TimerFault → Type 0
Lowest hit None = (g : TimerFault) → hit g ≡ false
Lowest hit (Some f) = (hit f ≡ true) × ((g : TimerFault) → fault_number g < fault_number f → hit g ≡ false)

-- the same store with other entries pending
abbrev pub with_pending : {P : Type 0} → Meaning P → List (Entry P) → Meaning P
with_pending m es =
    record { now = m.now; last = m.last; capacity = m.capacity; limits = m.limits; given = m.given; pending = es }

-- a refused call changes nothing
abbrev pub refused : {A P : Type 0} → Meaning P → TimerFault → Outcome (Result A TimerFault) P
refused m f = record { answer = Err f; after = m; events = [] }

-- a new entry takes the next ticket, which is the number of tickets then given
abbrev pub entered : {P : Type 0} → Meaning P → ℕ → ℕ → P → Meaning P
entered m deadline owner payload =
    record {
      now = m.now;
      last = m.last;
      capacity = m.capacity;
      limits = m.limits;
      given = m.given + 1;
      pending = m.pending ++ record { ticket = m.given + 1; deadline = deadline; owner = owner; payload = payload } ∷ [];
    }

abbrev pub started : {P : Type 0} → Meaning P → ℕ → ℕ → P → Option TimerFault → Outcome (Result ℕ TimerFault) P
started m deadline owner payload (Some f) = refused m f
started m deadline owner payload None =
    record { answer = Ok (m.given + 1); after = entered m deadline owner payload; events = Started (m.given + 1) deadline ∷ [] }

abbrev pub start_rule : {P : Type 0} → Meaning P → ℕ → ℕ → P → Outcome (Result ℕ TimerFault) P
start_rule m deadline owner payload = started m deadline owner payload (check_rule m deadline owner)

-- the same store without an entry
abbrev pub left : {P : Type 0} → Meaning P → Entry P → Meaning P
left m e = with_pending m (without e.ticket m.pending)

-- what stop answers of the entry that it found
abbrev pub stop_answer : {P : Type 0} → Entry P → ℕ × P
stop_answer e = (e.owner, e.payload)

abbrev pub stopped : {P : Type 0} → Meaning P → Option (Entry P) → Outcome (Result (ℕ × P) TimerFault) P
stopped m None = refused m Missing
stopped m (Some e) = record { answer = Ok (stop_answer e); after = left m e; events = Stopped e.ticket ∷ [] }

abbrev pub stop_rule : {P : Type 0} → Meaning P → ℕ → Outcome (Result (ℕ × P) TimerFault) P
stop_rule m t = stopped m (find t m.pending)

abbrev pub expired : {P : Type 0} → Entry P → Expired P
expired e = record { ticket = e.ticket; owner = e.owner; payload = e.payload }

abbrev pub taken : {P : Type 0} → Meaning P → Option (Entry P) → Outcome (Option (Expired P)) P
taken m None = record { answer = None; after = m; events = [] }
taken m (Some e) = record { answer = Some (expired e); after = left m e; events = Fired e.ticket m.now ∷ [] }

abbrev pub take_rule : {P : Type 0} → Meaning P → Outcome (Option (Expired P)) P
take_rule m = taken m (due_entry m.now m.pending)

-- one tick later
abbrev pub ticked : {P : Type 0} → Meaning P → Meaning P
ticked m =
    record {
      now = m.now + 1;
      last = m.last;
      capacity = m.capacity;
      limits = m.limits;
      given = m.given;
      pending = m.pending;
    }

abbrev pub advance_rule : {P : Type 0} → Meaning P → Outcome (Result (Unit {0}) TimerFault) P
advance_rule m =
    if due_rule m then refused m Due else (if m.now == m.last then refused m Ended else record { answer = Ok tt; after = ticked m; events = [] })
