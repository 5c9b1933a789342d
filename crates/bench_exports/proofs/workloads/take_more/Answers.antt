use Rattle.std.proofs.Common.{◌<◌, length, sym, refl, subst}
use Rattle.timer.specs.Rules.{due_entry}
use Rattle.bench_exports.proofs.Taken.{fewer}
use Rattle.bench_exports.proofs.workloads.take_more.Goals as goal

pub loop-entry-smaller : goal.loop-entry-smaller
loop-entry-smaller g c =
    let m = g.S.Store.meaning c.loop-entry.store in
    let l = fewer m (due_entry m.now m.pending) c.in-Some.entry refl c.in-Some.ensures.answer in
    subst (λ n. length n.pending < length m.pending) (sym c.in-Some.ensures.after) l
