use Rattle.std.proofs.Common.{◌≡◌, ℕ, List, length, get_or, sym, ap, ◌∙◌, subst, arith}
use Rattle.std.proofs.lemmas.List.{length-map}
use Rattle.timer_rows.specs.declared.row.Row.{Row}
use Rattle.timer_rows.specs.Rows.{tickets}
use Rattle.timer_rows.proofs.Pending.{entries_none}
use Rattle.timer_heap.specs.Positions.{Ordered}
use Rattle.timer_heap.proofs.heap.over.Goals as goal

-- vacant rows hold a heap of nothing
none_ordered : {P : Type 0} (rows : List (Row P)) → ((i : ℕ) → get_or (tickets rows) i 0 ≡ 0) → Ordered rows 0
none_ordered rows vacant =
    record {
      index = record {
        live = λ i b. absurd (omega arith);
        back = λ i b. absurd (omega arith);
        placed = λ r n. absurd (n (vacant r));
        there = λ r n. absurd (n (vacant r));
        room = omega arith;
        cells = length-map rows (λ r. r.next) ∙ sym (length-map rows (λ r. r.ticket));
        places = length-map rows (λ r. r.prev) ∙ sym (length-map rows (λ r. r.ticket));
      };
      heap = λ p i a b c. absurd (omega arith);
    }

pub over-requires : goal.over-requires
over-requires g c =
    record {
      held = λ rows l e vacant k w.
          subst (λ n. Ordered rows n) (sym (k.sized ∙ ap length (entries_none rows vacant))) (none_ordered rows vacant);
    }
