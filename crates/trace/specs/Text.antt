-- The text of a line, as bytes. Every field but the first follows a space; `-` stands for a field without a value.
use Rattle.std.specs.Prelude.{ℕ, List, [], ◌∷◌, ◌++◌, Some, None, Ok, Err, decimal, Option, Result}
use Rattle.timer.specs.Faults.{fault_number}
use Rattle.trace.specs.declared.action.Action.{Action}
use Rattle.trace.specs.declared.action.Transmission.{Transmission}
use Rattle.trace.specs.declared.columns.Columns.{Columns}
use Rattle.trace.specs.declared.fault.RigFault.{RigFault}
use Rattle.trace.specs.declared.line.Line.{Line}
use Rattle.trace.specs.declared.line.Report.{Report}
use Rattle.trace.specs.declared.line.Report.TheVariants.{Action as Done, Refusal, End}
use Rattle.trace.specs.declared.queue.StoreFault.{StoreFault}
use Rattle.trace.specs.Columns.{columns}
use Rattle.trace.specs.Faults.{queue_letter, rig_number, store_part}

-- a space, and then a letter, `-`, a number in base ten, or the number if there is one
abbrev pub letter_field : ℕ → List ℕ
letter_field b = 32 ∷ b ∷ []

abbrev pub no_field : List ℕ
no_field = letter_field 45

abbrev pub number_field : ℕ → List ℕ
number_field n = 32 ∷ decimal n

abbrev pub option_field : Option ℕ → List ℕ
option_field None = no_field
option_field (Some n) = number_field n

-- packet, delay and copies
abbrev pub packet_fields : Option Transmission → List ℕ
packet_fields None = no_field ++ (no_field ++ no_field)
packet_fields (Some t) = number_field t.packet ++ (number_field t.delay ++ number_field t.copies)

-- the store's letter and number, which only the refusal 14 has
abbrev pub store_fields : Option StoreFault → List ℕ
store_fields None = no_field ++ no_field
store_fields (Some f) = letter_field (queue_letter f.queue) ++ number_field (fault_number f.fault)

-- tick letter channel sequence word packet delay copies
abbrev pub row_text : ℕ → Columns → List ℕ
row_text tick c =
    decimal tick
    ++ (letter_field c.letter
    ++ (number_field c.channel
    ++ (option_field c.sequence ++ (option_field c.word ++ (packet_fields c.transmission ++ (10 ∷ []))))))

abbrev pub action_text : ℕ → Option Columns → List ℕ
action_text tick None = []
action_text tick (Some c) = row_text tick c

-- tick X number queue number
abbrev pub refusal_text : ℕ → RigFault → List ℕ
refusal_text tick f =
    decimal tick ++ (letter_field 88 ++ (number_field (rig_number f) ++ (store_fields (store_part f) ++ (10 ∷ []))))

-- tick E packets
abbrev pub end_text : ℕ → ℕ → List ℕ
end_text tick packets = decimal tick ++ (letter_field 69 ++ (number_field packets ++ (10 ∷ [])))

abbrev pub report_text : ℕ → Report → List ℕ
report_text tick (Done a) = action_text tick (columns a)
report_text tick (Refusal f) = refusal_text tick f
report_text tick (End packets) = end_text tick packets

abbrev pub text : Line → List ℕ
text l = report_text l.tick l.report

-- the line of a call
abbrev pub call_line : ℕ → Result Action RigFault → Line
call_line tick (Ok a) = record { tick = tick; report = Done a }
call_line tick (Err f) = record { tick = tick; report = Refusal f }
