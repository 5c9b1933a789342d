-- What holds of every session, whatever its commands are.
use Rattle.std.specs.Prelude.{ℕ, List, [], ◌∷◌, ◌++◌, ⊤}
use Rattle.protocol.specs.State.{State}
use Rattle.protocol.specs.Begin.{Begun}
use Rattle.timers_law.specs.Timers.{Lawfuls}
use Rattle.timers_law.specs.Restarts.{Unrefused}
use Rattle.words_law.specs.Words.{Follows, sent_by, taken_by}
use Rattle.session.specs.declared.command.Call.{Call}
use Rattle.session.specs.declared.command.Call.TheVariants.{Operate, Ask}
use Rattle.session.specs.declared.answer.Answer.{Answer}
use Rattle.session.specs.declared.answer.Answer.TheVariants.{Done, Number, Due, Check}
use Rattle.session.specs.declared.answer.Note.{Note}
use Rattle.session.specs.Run.{notes_of, ends, events_of}

-- the words of a channel that a call and its answer tell of: the word of an accepted send, the word that a take answered
abbrev pub call_sent : ℕ → Call → Answer → List ℕ
call_sent c (Operate x) (Done a) = sent_by c x a
call_sent c (Operate x) (Number n) = []
call_sent c (Operate x) (Due b) = []
call_sent c (Operate x) (Check f) = []
call_sent c (Ask q) a = []

abbrev pub call_taken : ℕ → Call → Answer → List ℕ
call_taken c (Operate x) (Done a) = taken_by c x a
call_taken c (Operate x) (Number n) = []
call_taken c (Operate x) (Due b) = []
call_taken c (Operate x) (Check f) = []
call_taken c (Ask q) a = []

-- the words of a channel that were sent and taken in a session, in order
abbrev pub sent : ℕ → List Call → List Note → List ℕ
sent c [] notes = []
sent c (x ∷ xs) [] = []
sent c (x ∷ xs) (n ∷ ns) = call_sent c x n.answer ++ sent c xs ns

abbrev pub taken : ℕ → List Call → List Note → List ℕ
taken c [] notes = []
taken c (x ∷ xs) [] = []
taken c (x ∷ xs) (n ∷ ns) = call_taken c x n.answer ++ taken c xs ns

-- no step is refused because a store refused
abbrev pub call_granted : Call → Answer → Type 0
call_granted (Operate x) (Done a) = Unrefused x a
call_granted (Operate x) (Number n) = ⊤
call_granted (Operate x) (Due b) = ⊤
call_granted (Operate x) (Check f) = ⊤
call_granted (Ask q) a = ⊤

abbrev pub Granted : List Call → List Note → Type 0
Granted [] notes = ⊤
Granted (x ∷ xs) [] = ⊥
Granted (x ∷ xs) (n ∷ ns) = call_granted x n.answer × Granted xs ns

-- the laws of a session that began in the state s and made these calls
pub record Law (s : State) (calls : List Call) : Type 0 where
  -- timers: in each store every ticket given is exactly one of pending, stopped and fired; a timer fires only in the tick of its deadline;
  -- no pending timer's deadline has passed; timers of one tick fire in the order of their tickets
  pub timers : Lawfuls (ends s calls) (events_of s calls)
  -- words: on each channel what was taken is a front of what was sent, at most sixteen words behind
  pub words : (c : ℕ) → Follows (taken c calls (notes_of s calls)) (sent c calls (notes_of s calls))
  -- no refused restart
  pub restarts : Granted calls (notes_of s calls)

-- every session from a state in which a session begins
abbrev pub Laws : Type 0
Laws = (s : State) → Begun s → (calls : List Call) → Law s calls
