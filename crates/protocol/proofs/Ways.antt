-- A call of the rig goes on or is refused: what holds of both holds of the call. For any predicate on what a call comes to.
use Rattle.std.proofs.Common.{◌≡◌, ℕ, ◌<◌, Bool, true, false, Ok, Err, Result, refl, arith}
use Rattle.std.proofs.lemmas.Bool.{ltb-false}
use Rattle.timer.specs.declared.fault.TimerFault.{TimerFault}
use Rattle.trace.specs.declared.fault.RigFault.{RigFault}
use Rattle.trace.specs.declared.fault.RigFault.TheVariants as fault
use Rattle.trace.specs.declared.queue.Queue.{Queue}
use Rattle.protocol.specs.State.{State, table_short}
use Rattle.protocol.specs.Rules.{Step, refuse, unless, or_store, no_channel, on_channel}

module _ (Q : Step → Type 0) where
  pub unless_by : (b : Bool) (f : RigFault) (s : State) (p : Step) → Q (refuse f s) → (b ≡ false → Q p) → Q (unless b f s p)
  unless_by true f s p stay go = stay
  unless_by false f s p stay go = go refl

  pub or_store_by : {A : Type 0} (q : Queue) (x : Result A TimerFault) (s : State) (k : A → Step) → ((f : TimerFault) → x ≡ Err f → Q (refuse (fault.Store (record { queue = q; fault = f })) s)) → ((a : A) → x ≡ Ok a → Q (k a)) → Q (or_store q x s k)
  or_store_by q (Ok a) s k stay go = go a refl
  or_store_by q (Err f) s k stay go = stay f refl

  pub on_channel_by : (s : State) (c : ℕ) (p : Step) → ((f : RigFault) → Q (refuse f s)) → (c < 64 → Q p) → Q (on_channel s c p)
  on_channel_by s c p stay go =
      unless_by (table_short s.table) fault.Table s (unless (no_channel c) fault.Channel s p) (stay fault.Table) (λ _.
      unless_by (no_channel c) fault.Channel s p (stay fault.Channel) (λ l. go (omega (arith, ltb-false 63 c l))))
