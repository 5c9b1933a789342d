-- What is lent to a step: the state that is read off it, and what a step leaves as it is.
use Rattle.std.specs.Prelude.{◌≡◌, ℕ}
use Rattle.timer.specs.declared.store.Store.{Ghosts}
use Rattle.timer.specs.Frame.{Framed}
use Rattle.link.specs.declared.packet.Packet.{Packet}
use Rattle.channel.specs.declared.record.Attempt.{Attempt}
use Rattle.protocol.specs.State.{State}
use Rattle.engine.specs.Parts.{state_of}
use Rattle.engine.specs.declared.lent.Lent.{Lent}

abbrev pub lent_state : {W R K : Type 0} → Ghosts W Packet → Ghosts R Attempt → Ghosts K ℕ → Lent W R K → State
lent_state w r k lent =
    state_of lent.rig.now lent.fates.now (w.meaning lent.wire.now) (r.meaning lent.resend.now) (k.meaning lent.keepalive.now) lent.records.now

-- each loan is the same one, and the stores leave alone what a store leaves alone
pub record Kept {W R K : Type 0} (w : Ghosts W Packet) (r : Ghosts R Attempt) (k : Ghosts K ℕ) (old new : Lent W R K) : Type 0 where
  pub wire : Framed w old.wire.now new.wire.now
  pub resend : Framed r old.resend.now new.resend.now
  pub keepalive : Framed k old.keepalive.now new.keepalive.now
  pub rig_loan : new.rig.ghost_name ≡ old.rig.ghost_name
  pub wire_loan : new.wire.ghost_name ≡ old.wire.ghost_name
  pub resend_loan : new.resend.ghost_name ≡ old.resend.ghost_name
  pub keepalive_loan : new.keepalive.ghost_name ≡ old.keepalive.ghost_name
  pub records_loan : new.records.ghost_name ≡ old.records.ghost_name
  pub fates : new.fates ≡ old.fates
