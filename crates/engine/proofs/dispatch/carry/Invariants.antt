use Rattle.std.proofs.Common.{◌≡◌, ◌+◌, ◌≤◌}
use Rattle.timer.specs.Frame.{Framed}
use Rattle.link.specs.Fate.{fate_delay}
use Rattle.channel.specs.Record.{stop}
use Rattle.protocol.specs.Link.{Carried, carried}
use Rattle.engine.proofs.dispatch.carry.Given as goal

-- so many copies were tried
abbrev pub invariant-loop-copy : goal.invariant-loop-copy
invariant-loop-copy g l =
    let m = g.W.Store.meaning l.initial.wire in
    let k : Carried = carried l._copy m (stop (m.now + fate_delay l.fate)) l.owner l.packet in
    (g.W.Store.meaning l.wire ≡ k.after)
    × (l.accepted ≡ k.copies)
    × (l.accepted ≤ l._copy)
    × Framed g.W.Store l.initial.wire l.wire
