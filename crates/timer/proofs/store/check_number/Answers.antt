use Rattle.timer.proofs.Checks.{check_lowest}
use Rattle.timer.proofs.store.check_number.Goals as goal

pub returns-clause-lowest : goal.returns-clause-lowest
returns-clause-lowest g c =
    check_lowest (g.S.Store.meaning c.args.store.now) c.args.deadline c.args.owner
