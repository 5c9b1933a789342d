-- A call that asks something of its channel.
use Rattle.std.proofs.Common.{◌≡◌, ℕ, ◌<◌, true, refl}
use Rattle.std.proofs.lemmas.Bool.{false≢true, not-false}
use Rattle.trace.specs.declared.fault.RigFault.{RigFault}
use Rattle.trace.specs.declared.fault.RigFault.TheVariants as fault
use Rattle.channel.specs.declared.record.Channel.{Channel}
use Rattle.channel.specs.declared.record.Status.{Status}
use Rattle.channel.specs.declared.record.Status.TheVariants.{Unused, Open, Closed}
use Rattle.channel.specs.Record.{status_open, status_unused, is_open}
use Rattle.protocol.specs.State.{State, record_of}
use Rattle.protocol.specs.Rules.{Step, refuse, unless, not_open, on_channel}
use Rattle.protocol.proofs.Ways.{unless_by, on_channel_by}

pub open_by : (x : Status) → status_open x ≡ true → x ≡ Open
open_by Unused e = absurd (false≢true e)
open_by Open e = refl
open_by Closed e = absurd (false≢true e)

pub unused_by : (x : Status) → status_unused x ≡ true → x ≡ Unused
unused_by Unused e = refl
unused_by Open e = absurd (false≢true e)
unused_by Closed e = absurd (false≢true e)

module _ (Q : Step → Type 0) where
  -- a call that asks for an open channel
  pub if_open_by : (s : State) (c : ℕ) (p : Step) → ((f : RigFault) → Q (refuse f s)) → (c < 64 → (record_of s c).status ≡ Open → Q p) →
      Q (on_channel s c (unless (not_open s c) fault.State s p))
  if_open_by s c p h f =
      let r : Channel = record_of s c in
      on_channel_by Q s c (unless (not_open s c) fault.State s p) h
      (λ l. unless_by Q (not_open s c) fault.State s p (h fault.State) (λ o. f l (open_by r.status (not-false (is_open r) o))))
