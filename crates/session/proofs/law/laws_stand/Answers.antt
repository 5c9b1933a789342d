use Rattle.session.proofs.Runs.{laws}
use Rattle.session.proofs.law.laws_stand.Goals as goal

pub returns-clause-laws : goal.returns-clause-laws
returns-clause-laws c = laws
