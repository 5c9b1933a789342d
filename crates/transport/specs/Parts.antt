-- The state of the rig, read off its numbers and off what is lent to a call.
use Rattle.std.specs.Prelude.{ℕ, List}
use Rattle.timer.specs.Meaning.{Meaning}
use Rattle.link.specs.declared.packet.Packet.{Packet}
use Rattle.channel.specs.declared.record.Attempt.{Attempt}
use Rattle.channel.specs.declared.record.Channel.{Channel}
use Rattle.protocol.specs.State.{State}
use Rattle.engine.specs.Parts.{state_of as rig_state}
pub use Rattle.engine.specs.Parts.{fates_of}
use Rattle.transport.specs.declared.rig.Running.{Running}

abbrev pub state_of : Running → List ℕ → Meaning Packet → Meaning Attempt → Meaning ℕ → List Channel → State
state_of r fates wire resend keepalive table = rig_state r.rig fates wire resend keepalive table
