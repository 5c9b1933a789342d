-- A session as a list of calls: what each answers, what is noted of it, and where the list leads.
use Rattle.std.specs.Prelude.{ℕ, zero, suc, Bool, false, if◌then◌else◌, List, [], ◌∷◌, ◌++◌, length, is_ok}
use Rattle.timer.specs.Meaning.{Meaning}
use Rattle.timer.specs.Rules.{due_rule, limit_rule, count_rule, check_rule}
use Rattle.trace.specs.declared.queue.Queue.{Queue}
use Rattle.trace.specs.declared.queue.Queue.TheVariants.{Wire, Resend, Keepalive}
use Rattle.protocol.specs.declared.operation.Operation.TheVariants as operation
use Rattle.protocol.specs.State.{State, tick_of}
use Rattle.protocol.specs.Questions.{status_number, timeout_rule}
use Rattle.protocol.specs.Rules.{Events, no_events, joined, rule, step_rule}
use Rattle.timers_law.specs.Ends.{goes_on, measure}
use Rattle.session.specs.declared.command.StoreQuestion.{StoreQuestion}
use Rattle.session.specs.declared.command.StoreQuestion.TheVariants as ask
use Rattle.session.specs.declared.command.Question.{Question}
use Rattle.session.specs.declared.command.Question.TheVariants.{Status, Timeout, Packets, Store}
use Rattle.session.specs.declared.command.Call.{Call}
use Rattle.session.specs.declared.command.Call.TheVariants.{Operate, Ask}
use Rattle.session.specs.declared.command.Command.{Command}
use Rattle.session.specs.declared.command.Command.TheVariants.{Call as One, StepUntil}
use Rattle.session.specs.declared.answer.Answer.{Answer}
use Rattle.session.specs.declared.answer.Answer.TheVariants.{Done, Number, Due, Check}
use Rattle.session.specs.declared.answer.Note.{Note}

-- questions
abbrev pub store_told : {P : Type 0} → Meaning P → StoreQuestion → Answer
store_told m ask.Now = Number m.now
store_told m ask.Last = Number m.last
store_told m ask.Capacity = Number m.capacity
store_told m ask.Given = Number m.given
store_told m ask.Pending = Number (length m.pending)
store_told m ask.Due = Due (due_rule m)
store_told m (ask.Limit owner) = Number (limit_rule m owner)
store_told m (ask.Count owner) = Number (count_rule m owner)
store_told m (ask.Check deadline owner) = Check (check_rule m deadline owner)

abbrev pub queue_told : State → Queue → StoreQuestion → Answer
queue_told s Wire q = store_told s.wire q
queue_told s Resend q = store_told s.resend q
queue_told s Keepalive q = store_told s.keepalive q

abbrev pub told : State → Question → Answer
told s (Status c) = Number (status_number s c)
told s (Timeout c) = Number (timeout_rule s c)
told s Packets = Number s.packets
told s (Store queue q) = queue_told s queue q

-- one call: its answer, the state after it, and what it did to timers
abbrev pub call_answer : State → Call → Answer
call_answer s (Operate x) = Done (rule s x).answer
call_answer s (Ask q) = told s q

abbrev pub call_after : State → Call → State
call_after s (Operate x) = (rule s x).after
call_after s (Ask q) = s

abbrev pub call_events : State → Call → Events
call_events s (Operate x) = (rule s x).events
call_events s (Ask q) = no_events

abbrev pub note_of : State → Call → Note
note_of s c = record { tick = tick_of (call_after s c); answer = call_answer s c }

-- an operation was accepted
abbrev pub is_accepted : Answer → Bool
is_accepted (Done a) = is_ok a
is_accepted (Number n) = false
is_accepted (Due b) = false
is_accepted (Check f) = false

-- a list of calls, from the first on
abbrev pub notes_of : State → List Call → List Note
notes_of s [] = []
notes_of s (c ∷ cs) = note_of s c ∷ notes_of (call_after s c) cs

abbrev pub ends : State → List Call → State
ends s [] = s
ends s (c ∷ cs) = ends (call_after s c) cs

abbrev pub events_of : State → List Call → Events
events_of s [] = no_events
events_of s (c ∷ cs) = joined (call_events s c) (events_of (call_after s c) cs)

-- stepping until a tick: the steps while the tick is below it or an entry is due, up to one that is refused.
-- Each accepted step lowers `measure`, so one turn more than that is enough
abbrev pub steps : ℕ → State → ℕ → List Call
steps zero s tick = []
steps (suc k) s tick =
    if goes_on s tick
    then Operate operation.Step ∷ (if is_ok (step_rule s).answer then steps k (step_rule s).after tick else [])
    else []

unfoldable pub steps_until : State → ℕ → List Call
steps_until s tick = steps (suc (measure s tick)) s tick

-- the calls that a command stands for
abbrev pub unfold_one : State → Command → List Call
unfold_one s (One c) = c ∷ []
unfold_one s (StepUntil tick) = steps_until s tick

-- the calls that a list of commands stands for
abbrev pub calls_of : State → List Command → List Call
calls_of s [] = []
calls_of s (x ∷ xs) = unfold_one s x ++ calls_of (ends s (unfold_one s x)) xs
