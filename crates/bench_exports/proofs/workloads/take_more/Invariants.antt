use Rattle.std.proofs.Common.{length}
use Rattle.bench_exports.proofs.workloads.take_more.Given as goal

abbrev pub invariant-loop-entry : goal.invariant-loop-entry
invariant-loop-entry g l = Unit {0}

abbrev pub decreases-loop-entry : goal.decreases-loop-entry
decreases-loop-entry g l = length (g.S.Store.meaning l.store).pending
