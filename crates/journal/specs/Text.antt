-- The text of a note.
use Rattle.std.specs.Prelude.{ℕ, List, [], ◌∷◌, ◌++◌, codes, decimal}
use Rattle.timer.specs.Faults.{fault_number}
use Rattle.journal.specs.declared.note.Effect.{Effect}
use Rattle.journal.specs.declared.note.Effect.TheVariants.{Started, Stopped, Fired, Idle, Advanced, Refused}
use Rattle.journal.specs.declared.note.CallName.{CallName}
use Rattle.journal.specs.declared.note.CallName.TheVariants.{Start, Stop, Advance}
use Rattle.journal.specs.declared.note.Note.{Note}

abbrev pub name_text : CallName → List ℕ
name_text Start = codes "start"
name_text Stop = codes "stop"
name_text Advance = codes "advance"

-- fields are parted by one space, and a line feed ends the line
abbrev pub effect_text : ℕ → Effect → List ℕ
effect_text tick (Started ticket deadline owner payload) =
    codes "start " ++ (decimal ticket ++ (32 ∷ decimal deadline ++ (32 ∷ decimal owner ++ (32 ∷ decimal payload ++ (10 ∷ [])))))
effect_text tick (Stopped ticket owner payload) =
    codes "stop " ++ (decimal ticket ++ (codes " - " ++ (decimal owner ++ (32 ∷ decimal payload ++ (10 ∷ [])))))
effect_text tick (Fired ticket owner payload) =
    codes "fire " ++ (decimal ticket ++ (32 ∷ decimal tick ++ (32 ∷ decimal owner ++ (32 ∷ decimal payload ++ (10 ∷ [])))))
effect_text tick Idle = codes "idle" ++ (10 ∷ [])
effect_text tick Advanced = codes "advance" ++ (10 ∷ [])
effect_text tick (Refused call fault) =
    name_text call ++ (codes " refused " ++ (decimal (fault_number fault) ++ (10 ∷ [])))

abbrev pub note_text : Note → List ℕ
note_text n = decimal n.tick ++ (32 ∷ effect_text n.tick n.effect)
