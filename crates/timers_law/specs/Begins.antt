-- A session over sound stores that is not refused begins as it should.
use Rattle.std.specs.Prelude.{◌≡◌, ℕ, None}
use Rattle.timer.specs.Meaning.{Meaning}
use Rattle.link.specs.declared.packet.Packet.{Packet}
use Rattle.channel.specs.declared.record.Attempt.{Attempt}
use Rattle.protocol.specs.State.{begun}
use Rattle.protocol.specs.Begin.{begin_check, AllSound, Begun}

abbrev pub Begins : Type 0
Begins =
    (delay interval : ℕ) (fate : ℕ → ℕ) (w : Meaning Packet) (r : Meaning Attempt) (k : Meaning ℕ) (records : ℕ) → begin_check delay interval w r k records ≡ None → AllSound (begun interval fate w r k) → Begun (begun interval fate w r k)
