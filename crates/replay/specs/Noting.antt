-- A call of a session that is made, and one that is noted too.
use Rattle.std.specs.Prelude.{◌≡◌, List, [], ◌∷◌, ◌++◌, Result, MatchResult}
use Rattle.std.specs.declared.alloc.AllocError.{AllocError}
use Rattle.protocol.specs.State.{State}
use Rattle.session.specs.declared.answer.Answer.{Answer}
use Rattle.session.specs.declared.answer.Note.{Note}
use Rattle.session.specs.declared.command.Call.{Call}
use Rattle.session.specs.Run.{call_answer, call_after, note_of}

-- in the state s it gives the answer a, and leaves the state t
pub record Performed (s : State) (call : Call) (a : Answer) (t : State) : Type 0 where
  pub answer : a ≡ call_answer s call
  pub after : t ≡ call_after s call

-- it was made and noted after the notes ns, or neither for want of memory
abbrev pub Noted : State → List Note → Call → Result Answer AllocError → State → List Note → Type 0
Noted s ns call r t ms =
    MatchResult r (λ a. (a ≡ call_answer s call) × (t ≡ call_after s call) × (ms ≡ ns ++ note_of s call ∷ []))
    (λ _. (t ≡ s) × (ms ≡ ns))
