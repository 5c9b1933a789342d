-- Histories: lists of calls of one store, what they do to its timers, and the laws that hold of that.
use Rattle.std.specs.Prelude.{◌≡◌, ℕ, ◌+◌, ◌<◌, ◌≤◌, if◌then◌else◌, ◌⊎◌, List, [], ◌∷◌, ◌++◌, ◌==◌}
use Rattle.timer.specs.declared.call.Answer.{Answer}
use Rattle.timer.specs.declared.call.Answer.TheVariants as answer
use Rattle.timer.specs.declared.call.Call.{Call}
use Rattle.timer.specs.declared.call.Call.TheVariants.{Start, Stop, Take, Advance}
use Rattle.timer.specs.Meaning.{Entry, Meaning, Rising}
use Rattle.timer.specs.Rules.{Event, Started, Stopped, Fired, start_rule, stop_rule, take_rule, advance_rule}

-- one call: what it answers, what the store means afterwards, what happened to a timer
abbrev pub call_answer : {P : Type 0} → Meaning P → Call P → Answer P
call_answer m (Start deadline owner payload) = answer.Start (start_rule m deadline owner payload).answer
call_answer m (Stop ticket) = answer.Stop (stop_rule m ticket).answer
call_answer m Take = answer.Take (take_rule m).answer
call_answer m Advance = answer.Advance (advance_rule m).answer

abbrev pub call_after : {P : Type 0} → Meaning P → Call P → Meaning P
call_after m (Start deadline owner payload) = (start_rule m deadline owner payload).after
call_after m (Stop ticket) = (stop_rule m ticket).after
call_after m Take = (take_rule m).after
call_after m Advance = (advance_rule m).after

abbrev pub call_events : {P : Type 0} → Meaning P → Call P → List Event
call_events m (Start deadline owner payload) = (start_rule m deadline owner payload).events
call_events m (Stop ticket) = (stop_rule m ticket).events
call_events m Take = (take_rule m).events
call_events m Advance = (advance_rule m).events

-- a list of calls, from the first on
abbrev pub ends : {P : Type 0} → Meaning P → List (Call P) → Meaning P
ends m [] = m
ends m (c ∷ cs) = ends (call_after m c) cs

abbrev pub events : {P : Type 0} → Meaning P → List (Call P) → List Event
events m [] = []
events m (c ∷ cs) = call_events m c ++ events (call_after m c) cs

-- x stands in the list
abbrev pub In : {X : Type 0} → X → List X → Type 0
In x [] = ⊥
In x (y ∷ ys) = (y ≡ x) ⊎ In x ys

-- x stands in the list, and y after it
abbrev pub Before : {X : Type 0} → X → X → List X → Type 0
Before x y [] = ⊥
Before x y (z ∷ zs) = ((z ≡ x) × In y zs) ⊎ Before x y zs

-- how often a ticket is pending, was stopped, has fired
abbrev pub times_pending : {P : Type 0} → ℕ → List (Entry P) → ℕ
times_pending t [] = 0
times_pending t (e ∷ es) = if e.ticket == t then times_pending t es + 1 else times_pending t es

abbrev pub times_stopped : ℕ → List Event → ℕ
times_stopped t [] = 0
times_stopped t (Started u d ∷ es) = times_stopped t es
times_stopped t (Stopped u ∷ es) = if u == t then times_stopped t es + 1 else times_stopped t es
times_stopped t (Fired u k ∷ es) = times_stopped t es

abbrev pub times_fired : ℕ → List Event → ℕ
times_fired t [] = 0
times_fired t (Started u d ∷ es) = times_fired t es
times_fired t (Stopped u ∷ es) = times_fired t es
times_fired t (Fired u k ∷ es) = if u == t then times_fired t es + 1 else times_fired t es

-- a store that has given no ticket
pub record Fresh {P : Type 0} (m : Meaning P) : Type 0 where
  pub untouched : m.given ≡ 0
  pub empty : m.pending ≡ []

-- the laws of a store that means m after the events es
pub record Lawful {P : Type 0} (m : Meaning P) (es : List Event) : Type 0 where
  -- every ticket given is exactly one of pending, stopped, fired, and no other number is any of them
  pub one : (t : ℕ) → 0 < t → t ≤ m.given → times_pending t m.pending + times_stopped t es + times_fired t es ≡ 1
  pub none : (t : ℕ) → (t ≡ 0) ⊎ (m.given < t) → times_pending t m.pending + times_stopped t es + times_fired t es ≡ 0
  -- a ticket has one deadline
  pub single : (t d e : ℕ) → In (Started t d) es → In (Started t e) es → d ≡ e
  pub issued : (t d : ℕ) → In (Started t d) es → (0 < t) × (t ≤ m.given)
  -- a timer fires only in the tick of its deadline
  pub punctual : (t k : ℕ) → In (Fired t k) es → In (Started t k) es × (k ≤ m.now)
  -- a pending timer is one that was started, and its deadline has not passed
  pub waiting : (e : Entry P) → In e m.pending → In (Started e.ticket e.deadline) es × (m.now ≤ e.deadline)
  -- of two timers that fire in one tick, the one with the lower ticket fires first
  pub ordered : (t u k : ℕ) → Before (Fired t k) (Fired u k) es → t < u
  pub behind : (t : ℕ) (e : Entry P) → In (Fired t m.now) es → In e m.pending → e.deadline ≡ m.now → t < e.ticket
  pub rising : Rising m.pending
