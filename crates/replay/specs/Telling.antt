-- Why a session was not played to its end, in words.
use Rattle.std.specs.Prelude.{ℕ, List, codes}
use Rattle.replay.specs.declared.outcome.Stopped.{Stopped}
use Rattle.replay.specs.declared.outcome.Stopped.TheVariants.{Begin, Memory}

abbrev pub stopped_text : Stopped → List ℕ
stopped_text (Begin e) = codes "the session could not begin"
stopped_text Memory = codes "memory ran out"
