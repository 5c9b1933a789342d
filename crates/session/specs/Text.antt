-- The printed text of a session.
use Rattle.std.specs.Prelude.{ℕ, List, [], ◌++◌}
use Rattle.std.specs.List.{flat_map}
use Rattle.trace.specs.declared.line.Report.TheVariants.{End}
use Rattle.trace.specs.Text.{text, call_line}
use Rattle.session.specs.declared.answer.Answer.{Answer}
use Rattle.session.specs.declared.answer.Answer.TheVariants.{Done, Number, Due, Check}
use Rattle.session.specs.declared.answer.Note.{Note}

-- a question has no line
abbrev pub answer_text : ℕ → Answer → List ℕ
answer_text tick (Done a) = text (call_line tick a)
answer_text tick (Number n) = []
answer_text tick (Due b) = []
answer_text tick (Check f) = []

abbrev pub note_text : Note → List ℕ
note_text n = answer_text n.tick n.answer

-- the lines of all calls, and the last line
abbrev pub session_text : List Note → ℕ → ℕ → List ℕ
session_text notes tick packets = flat_map note_text notes ++ text (record { tick = tick; report = End packets })
