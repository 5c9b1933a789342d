use Rattle.std.proofs.Common.{◌≡◌, ◌++◌, drop, vec_items}
use Rattle.timer.specs.Frame.{Framed}
use Rattle.timer.specs.History.{ends}
use Rattle.journal.specs.Notes.{notes_of}
use Rattle.journal.proofs.record.play.Given as goal

-- the notes so far with those of the calls still to come, and where these lead
abbrev pub invariant-loop-call : goal.invariant-loop-call
invariant-loop-call g l =
    let m = g.S.Store.meaning l.store in
    let first = g.S.Store.meaning l.initial.store in
    let rest = drop l.call-index l.calls in
    (vec_items l.notes ++ notes_of m rest ≡ vec_items l.initial.notes ++ notes_of first l.calls)
    × (ends m rest ≡ ends first l.calls)
    × Framed g.S.Store l.initial.store l.store
