-- No step is refused by a store.
use Rattle.std.specs.Prelude.{List, [], ◌∷◌, Err, Result, ◌≢◌, ⊤}
use Rattle.trace.specs.declared.action.Action.{Action}
use Rattle.trace.specs.declared.fault.RigFault.{RigFault}
use Rattle.trace.specs.declared.fault.RigFault.TheVariants.{Store}
use Rattle.trace.specs.declared.queue.StoreFault.{StoreFault}
use Rattle.protocol.specs.State.{State}
use Rattle.protocol.specs.Begin.{Begun}
use Rattle.protocol.specs.Rules.{answers_of}
use Rattle.protocol.specs.declared.operation.Operation.{Operation}
use Rattle.protocol.specs.declared.operation.Operation.TheVariants.{Open, Send, Take, Close, Step}

-- no store refused
abbrev pub Granted : Result Action RigFault → Type 0
Granted a = (f : StoreFault) → a ≢ Err (Store f)

-- the answer to a step; of other calls nothing is said
abbrev pub Unrefused : Operation → Result Action RigFault → Type 0
Unrefused (Open c) a = ⊤
Unrefused (Send c word) a = ⊤
Unrefused (Take c) a = ⊤
Unrefused (Close c) a = ⊤
Unrefused Step a = Granted a

abbrev pub UnrefusedAll : List Operation → List (Result Action RigFault) → Type 0
UnrefusedAll [] [] = ⊤
UnrefusedAll [] (a ∷ answers) = ⊥
UnrefusedAll (x ∷ xs) [] = ⊥
UnrefusedAll (x ∷ xs) (a ∷ answers) = Unrefused x a × UnrefusedAll xs answers

abbrev pub Restarts : Type 0
Restarts = (s : State) → Begun s → (ops : List Operation) → UnrefusedAll ops (answers_of s ops)
