-- A session that is being played.
use Rattle.std.specs.Prelude.{◌≡◌, ℕ}
use Rattle.timer.specs.declared.store.Store.{Ghosts}
use Rattle.link.specs.declared.packet.Packet.{Packet}
use Rattle.channel.specs.declared.record.Attempt.{Attempt}
use Rattle.protocol.specs.State.{State}
use Rattle.replay.specs.declared.playing.Playing.{Playing}
use Rattle.replay.specs.Lent.{Kept, state_of}

-- the state that was reached
abbrev pub playing_state : {W R K : Type 0} → (w : Ghosts W Packet) → (r : Ghosts R Attempt) → (k : Ghosts K ℕ) → Playing W R K w r k → State
playing_state w r k p = state_of p.rig w r k p.lent.now

-- the loans are the same ones, and of what is lent the same is left as it was
abbrev pub Holding : {W R K : Type 0} → (w : Ghosts W Packet) → (r : Ghosts R Attempt) → (k : Ghosts K ℕ) → Playing W R K w r k → Playing W R K w r k → Type 0
Holding w r k old new =
    (new.notes.ghost_name ≡ old.notes.ghost_name) × (new.lent.ghost_name ≡ old.lent.ghost_name) × Kept w r k old.lent.now new.lent.now
