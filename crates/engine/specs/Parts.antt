-- The state of the rig, read off its numbers and off what is lent to a call.
use Rattle.std.specs.Prelude.{ℕ, List}
use Rattle.timer.specs.Meaning.{Meaning}
use Rattle.link.specs.declared.packet.Packet.{Packet}
use Rattle.link.specs.Fate.{packet_fate}
use Rattle.channel.specs.declared.record.Attempt.{Attempt}
use Rattle.channel.specs.declared.record.Channel.{Channel}
use Rattle.protocol.specs.State.{State}
use Rattle.engine.specs.declared.rig.Rig.{Rig}

-- the fate of each packet number
unfoldable pub fates_of : List ℕ → ℕ → ℕ → ℕ → ℕ
fates_of fates taken default = packet_fate fates taken default

abbrev pub state_of : Rig → List ℕ → Meaning Packet → Meaning Attempt → Meaning ℕ → List Channel → State
state_of rig fates wire resend keepalive table =
    record {
      interval = rig.interval;
      fate = fates_of fates rig.fates rig.delay;
      packets = rig.packets;
      wire = wire;
      resend = resend;
      keepalive = keepalive;
      table = table;
    }

-- the fate of the rig's next packet
abbrev pub own_fate : Rig → List ℕ → ℕ
own_fate rig fates = fates_of fates rig.fates rig.delay rig.packets
