-- How far a session has come.
use Rattle.std.specs.Prelude.{◌≡◌, Bool, true, List, [], ◌++◌}
use Rattle.protocol.specs.State.{State}
use Rattle.session.specs.declared.command.Call.{Call}
use Rattle.session.specs.declared.answer.Note.{Note}
use Rattle.session.specs.Run.{notes_of, ends}

-- from the state s and the notes ns, these calls lead to the state t and the notes ms
pub record Progress (s : State) (ns : List Note) (calls : List Call) (t : State) (ms : List Note) : Type 0 where
  pub reached : t ≡ ends s calls
  pub noted : ms ≡ ns ++ notes_of s calls

-- of the calls to make the first were made, and all of them if nothing was amiss
pub record Went (s : State) (ns : List Note) (calls : List Call) (well : Bool) (t : State) (ms : List Note) : Type 0 where
  pub done : List Call
  pub left : List Call
  pub whole : calls ≡ done ++ left
  pub progress : Progress s ns done t ms
  pub all : well ≡ true → left ≡ []

-- of the calls to make some were made, and these are left
pub record Underway (s : State) (ns : List Note) (calls left : List Call) (t : State) (ms : List Note) : Type 0 where
  pub done : List Call
  pub whole : calls ≡ done ++ left
  pub progress : Progress s ns done t ms
