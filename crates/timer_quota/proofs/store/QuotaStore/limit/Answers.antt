use Rattle.timer_quota.proofs.Cuts.{limit_cut}
use Rattle.timer_quota.proofs.store.QuotaStore.limit.Goals as goal

pub returns : goal.returns
returns g c =
    rw (c.min.ensures, c.number_of.ensures, c.limit.ensures) (limit_cut (g.S.Store.meaning c.args.self.now.inner.now) c.args.self.now.numbers c.args.owner)
