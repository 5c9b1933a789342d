use Rattle.timers_law.proofs.Begins.{begins}
use Rattle.timers_law.proofs.sessions_begin.Goals as goal

pub returns : goal.returns
returns c = begins
