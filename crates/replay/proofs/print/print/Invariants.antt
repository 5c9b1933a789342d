use Rattle.std.proofs.Common.{◌≡◌, take, vec_items}
use Rattle.std.specs.List.{flat_map}
use Rattle.session.specs.Text.{note_text}
use Rattle.replay.proofs.print.print.Given as goal

abbrev pub invariant-loop-note : goal.invariant-loop-note
invariant-loop-note l = vec_items l.out ≡ flat_map note_text (take l.note-index l.notes)
