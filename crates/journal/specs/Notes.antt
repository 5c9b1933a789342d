-- What a journal says of the calls that were made.
use Rattle.std.specs.Prelude.{ℕ, zero, suc, Bool, true, false, if◌then◌else◌, List, [], ◌∷◌, ◌++◌, length, count_by, Some, None, Ok, Err, Option, Result, ◌==◌}
use Rattle.std.specs.Option.{option_eq}
use Rattle.timer.specs.declared.call.Call.{Call}
use Rattle.timer.specs.declared.call.Call.TheVariants as call
use Rattle.timer.specs.declared.expired.Expired.{Expired}
use Rattle.timer.specs.declared.fault.TimerFault.{TimerFault}
use Rattle.timer.specs.History.{call_after, ends}
use Rattle.timer.specs.Meaning.{Meaning}
use Rattle.timer.specs.Rules.{start_rule, stop_rule, take_rule, advance_rule, due_rule}
use Rattle.journal.specs.declared.note.Effect.{Effect}
use Rattle.journal.specs.declared.note.Effect.TheVariants.{Started, Stopped, Fired, Idle, Advanced, Refused}
use Rattle.journal.specs.declared.note.CallName.TheVariants.{Start, Stop, Advance}
use Rattle.journal.specs.declared.note.Kind.{Kind}
use Rattle.journal.specs.declared.note.Kind.TheVariants as kind
use Rattle.journal.specs.declared.note.Note.{Note}

-- what a call came to, from what the store answered
abbrev pub start_effect : ℕ → ℕ → ℕ → Result ℕ TimerFault → Effect
start_effect deadline owner payload (Ok ticket) = Started ticket deadline owner payload
start_effect deadline owner payload (Err f) = Refused Start f

abbrev pub stop_effect : ℕ → Result (ℕ × ℕ) TimerFault → Effect
stop_effect ticket (Ok e) = Stopped ticket e.0 e.1
stop_effect ticket (Err f) = Refused Stop f

abbrev pub take_effect : Option (Expired ℕ) → Effect
take_effect (Some e) = Fired e.ticket e.owner e.payload
take_effect None = Idle

abbrev pub advance_effect : Result (Unit {0}) TimerFault → Effect
advance_effect (Ok u) = Advanced
advance_effect (Err f) = Refused Advance f

abbrev pub effect_of : Meaning ℕ → Call ℕ → Effect
effect_of m (call.Start deadline owner payload) = start_effect deadline owner payload (start_rule m deadline owner payload).answer
effect_of m (call.Stop ticket) = stop_effect ticket (stop_rule m ticket).answer
effect_of m call.Take = take_effect (take_rule m).answer
effect_of m call.Advance = advance_effect (advance_rule m).answer

abbrev pub note_of : Meaning ℕ → Call ℕ → Note
note_of m c = record { tick = (call_after m c).now; effect = effect_of m c }

-- a note for each of a list of calls
abbrev pub notes_of : Meaning ℕ → List (Call ℕ) → List Note
notes_of m [] = []
notes_of m (c ∷ cs) = note_of m c ∷ notes_of (call_after m c) cs

-- the calls that bring a store to where nothing is pending, at most `budget` of them: what is due is taken, else the tick goes on
abbrev pub coming_call : Meaning ℕ → Call ℕ
coming_call m = if due_rule m then call.Take else call.Advance

abbrev pub settling : ℕ → Meaning ℕ → List (Call ℕ)
settling zero m = []
settling (suc budget) m =
    if length m.pending == 0 then [] else coming_call m ∷ settling budget (call_after m (coming_call m))

-- a task: a list of calls, and then those that settle the store
abbrev pub told : Meaning ℕ → List (Call ℕ) → ℕ → List Note
told m cs budget = notes_of m cs ++ notes_of (ends m cs) (settling budget (ends m cs))

-- and where it leads
abbrev pub settled : Meaning ℕ → List (Call ℕ) → ℕ → Meaning ℕ
settled m cs budget = ends (ends m cs) (settling budget (ends m cs))

-- the kind that an effect is counted by, if it is counted
abbrev pub effect_kind : Effect → Option Kind
effect_kind (Started ticket deadline owner payload) = Some kind.Started
effect_kind (Stopped ticket owner payload) = Some kind.Stopped
effect_kind (Fired ticket owner payload) = Some kind.Fired
effect_kind Idle = None
effect_kind Advanced = None
effect_kind (Refused call fault) = Some kind.Refused

abbrev pub same_kind : Kind → Kind → Bool
same_kind kind.Started kind.Started = true
same_kind kind.Stopped kind.Stopped = true
same_kind kind.Fired kind.Fired = true
same_kind kind.Refused kind.Refused = true
same_kind j k = false

abbrev pub of_kind : Kind → Effect → Bool
of_kind k e = option_eq same_kind (effect_kind e) (Some k)

-- how many of the notes tell of an effect of the kind
abbrev pub kind_count : Kind → List Note → ℕ
kind_count k ns = count_by (λ n. of_kind k n.effect) ns
