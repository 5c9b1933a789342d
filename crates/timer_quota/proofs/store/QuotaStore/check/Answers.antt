use Rattle.timer_quota.proofs.Cuts.{check_cut}
use Rattle.timer_quota.proofs.store.QuotaStore.check.Goals as goal

pub returns : goal.returns
returns g c =
    rw (c.or.ensures, c.then_some-own.ensures, c.check.ensures, c.count.ensures, c.number_of.ensures)
    (check_cut (g.S.Store.meaning c.args.self.now.inner.now) c.args.self.now.numbers c.args.deadline c.args.owner)
