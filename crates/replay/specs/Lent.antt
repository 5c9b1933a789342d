-- What is lent to a session, what it holds, and what the session leaves of it as it was.
use Rattle.std.specs.Prelude.{◌≡◌, ℕ, List, length, take, drop}
use Rattle.timer.specs.Frame.{Framed}
use Rattle.timer.specs.Meaning.{Meaning}
use Rattle.timer.specs.declared.store.Store.{Ghosts}
use Rattle.link.specs.declared.packet.Packet.{Packet}
use Rattle.channel.specs.declared.record.Attempt.{Attempt}
use Rattle.channel.specs.declared.record.Channel.{Channel}
use Rattle.protocol.specs.State.{State}
use Rattle.transport.specs.declared.rig.Running.{Running}
use Rattle.transport.specs.Parts.{state_of as rig_state}
use Rattle.replay.specs.declared.lent.Lent.{Lent}

-- the state of a rig over what it is lent
abbrev pub state_of : {W R K : Type 0} → Running → Ghosts W Packet → Ghosts R Attempt → Ghosts K ℕ → Lent W R K → State
state_of rig w r k l =
    rig_state rig l.fates.now (w.meaning l.wire.now) (r.meaning l.resend.now) (k.meaning l.keepalive.now) (take 64 l.table.now)

-- what three stores mean, and the records and fates
pub record Held : Type 0 where
  pub wire : Meaning Packet
  pub resend : Meaning Attempt
  pub keepalive : Meaning ℕ
  pub table : List Channel
  pub fates : List ℕ

-- what is behind the loans
abbrev pub held : {W R K : Type 0} → Ghosts W Packet → Ghosts R Attempt → Ghosts K ℕ → Lent W R K → Held
held w r k l =
    record {
      wire = w.meaning l.wire.now;
      resend = r.meaning l.resend.now;
      keepalive = k.meaning l.keepalive.now;
      table = l.table.now;
      fates = l.fates.now;
    }

-- the loans are the same ones; the fates, the records past the 64th and how many there are stay, and so does what each store leaves alone
pub record Kept {W R K : Type 0} (w : Ghosts W Packet) (r : Ghosts R Attempt) (k : Ghosts K ℕ) (old new : Lent W R K) : Type 0 where
  pub later : drop 64 new.table.now ≡ drop 64 old.table.now
  pub records : length new.table.now ≡ length old.table.now
  pub fates : new.fates ≡ old.fates
  pub wire : Framed w old.wire.now new.wire.now
  pub resend : Framed r old.resend.now new.resend.now
  pub keepalive : Framed k old.keepalive.now new.keepalive.now
  pub wire_loan : new.wire.ghost_name ≡ old.wire.ghost_name
  pub resend_loan : new.resend.ghost_name ≡ old.resend.ghost_name
  pub keepalive_loan : new.keepalive.ghost_name ≡ old.keepalive.ghost_name
  pub table_loan : new.table.ghost_name ≡ old.table.ghost_name
