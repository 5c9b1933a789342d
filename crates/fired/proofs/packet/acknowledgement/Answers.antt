use Rattle.std.proofs.Common.{rules}
use Rattle.std.proofs.lemmas.List.{places, set-set}
use Rattle.protocol.specs.Rules.{acknowledgement_rule}
use Rattle.fired.proofs.packet.acknowledgement.Goals as goal
use Rattle.fired.proofs.packet.acknowledgement.Goals.{in-Some, in_default}

-- the record is written twice where a word waited
pub returns-clause-obeys : goal.returns-clause-obeys
unfolding acknowledgement_rule
returns-clause-obeys g c = elim c.match-awaited.branch [ in-Some w ↦ search (rules, places, set-set) | in_default w ↦ search rules ]
