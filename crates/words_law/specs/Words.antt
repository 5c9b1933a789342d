-- The words of a channel: what is taken is what was sent.
use Rattle.std.specs.Prelude.{◌≡◌, ℕ, ◌+◌, ◌≤◌, Bool, true, false, List, [], ◌∷◌, ◌++◌, length, Some, None, Ok, Err, Result, ◌==◌}
use Rattle.trace.specs.declared.action.Action.{Action}
use Rattle.trace.specs.declared.action.Action.TheVariants.{Opened, Sent, Taken, Closed, DataArrived, AcknowledgementArrived, KeepaliveArrived, Resent, KeepaliveSent, Advanced}
use Rattle.trace.specs.declared.fault.RigFault.{RigFault}
use Rattle.protocol.specs.declared.operation.Operation.{Operation}
use Rattle.protocol.specs.declared.operation.Operation.TheVariants.{Open, Send, Take, Close, Step}
use Rattle.protocol.specs.State.{State}
use Rattle.protocol.specs.Begin.{Begun}
use Rattle.protocol.specs.Rules.{answers_of}

-- the word w of a send that was accepted
abbrev pub accepted : ℕ → Result Action RigFault → List ℕ
accepted w (Err f) = []
accepted w (Ok (Opened channel)) = []
accepted w (Ok (Sent channel segment transmission)) = w ∷ []
accepted w (Ok (Taken channel segment)) = []
accepted w (Ok (Closed channel)) = []
accepted w (Ok (DataArrived channel segment acknowledgement)) = []
accepted w (Ok (AcknowledgementArrived channel sequence)) = []
accepted w (Ok (KeepaliveArrived channel sequence)) = []
accepted w (Ok (Resent channel segment transmission)) = []
accepted w (Ok (KeepaliveSent channel heartbeat)) = []
accepted w (Ok Advanced) = []

-- the word that a take answers
abbrev pub got : Result Action RigFault → List ℕ
got (Err f) = []
got (Ok (Opened channel)) = []
got (Ok (Sent channel segment transmission)) = []
got (Ok (Taken channel None)) = []
got (Ok (Taken channel (Some segment))) = segment.word ∷ []
got (Ok (Closed channel)) = []
got (Ok (DataArrived channel segment acknowledgement)) = []
got (Ok (AcknowledgementArrived channel sequence)) = []
got (Ok (KeepaliveArrived channel sequence)) = []
got (Ok (Resent channel segment transmission)) = []
got (Ok (KeepaliveSent channel heartbeat)) = []
got (Ok Advanced) = []

-- only the words of one channel count
abbrev pub on : Bool → List ℕ → List ℕ
on true ws = ws
on false ws = []

-- the words of channel c that one call and its answer tell of
abbrev pub sent_by : ℕ → Operation → Result Action RigFault → List ℕ
sent_by c (Open k) a = []
sent_by c (Send k w) a = on (k == c) (accepted w a)
sent_by c (Take k) a = []
sent_by c (Close k) a = []
sent_by c Step a = []

abbrev pub taken_by : ℕ → Operation → Result Action RigFault → List ℕ
taken_by c (Open k) a = []
taken_by c (Send k w) a = []
taken_by c (Take k) a = on (k == c) (got a)
taken_by c (Close k) a = []
taken_by c Step a = []

-- and those that the calls and answers of a run tell of, in order
abbrev pub sent : ℕ → List Operation → List (Result Action RigFault) → List ℕ
sent c [] answers = []
sent c (x ∷ ops) [] = []
sent c (x ∷ ops) (a ∷ answers) = sent_by c x a ++ sent c ops answers

abbrev pub taken : ℕ → List Operation → List (Result Action RigFault) → List ℕ
taken c [] answers = []
taken c (x ∷ ops) [] = []
taken c (x ∷ ops) (a ∷ answers) = taken_by c x a ++ taken c ops answers

-- what was taken is a front of what was given, and at most 16 words short of it
pub record Follows (took gave : List ℕ) : Type 0 where
  pub front : (rest : List ℕ) × (gave ≡ took ++ rest)
  pub near : length gave ≤ length took + 16

abbrev pub Words : Type 0
Words =
    (s : State) → Begun s → (ops : List Operation) (c : ℕ) →
    Follows (taken c ops (answers_of s ops)) (sent c ops (answers_of s ops))
