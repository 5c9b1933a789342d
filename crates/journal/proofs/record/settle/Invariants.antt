use Rattle.std.proofs.Common.{◌≡◌, ◌-◌, ◌++◌, vec_items}
use Rattle.timer.specs.Frame.{Framed}
use Rattle.timer.specs.History.{ends}
use Rattle.journal.specs.Notes.{notes_of, settling}
use Rattle.journal.proofs.record.settle.Given as goal

-- the notes so far with those of the calls still to come, and where these lead
abbrev pub invariant-loop : goal.invariant-loop
invariant-loop g l =
    let m = g.S.Store.meaning l.store in
    let first = g.S.Store.meaning l.initial.store in
    let rest = settling (l.budget - l.counter) m in
    let all = settling l.budget first in
    (vec_items l.notes ++ notes_of m rest ≡ vec_items l.initial.notes ++ notes_of first all)
    × (ends m rest ≡ ends first all)
    × Framed g.S.Store l.initial.store l.store
