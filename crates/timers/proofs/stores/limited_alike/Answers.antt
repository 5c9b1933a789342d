use Rattle.std.proofs.Common.{Bool, Ok, Err, Result, IsTrue}
use Rattle.std.specs.Prelude.{IfOk}
use Rattle.timers.proofs.stores.limited_alike.Goals as goal

under : {E P Q : Type 0} (r : Result Bool E) → (Q → P) → IfOk r (λ same. P → IsTrue same) → IfOk r (λ same. Q → IsTrue same)
under (Ok same) f h = λ q. h (f q)
under (Err e) f h = tt

pub returns : goal.returns
returns g c = under _ (λ q. cc) c.tell_alike.ensures.alike
