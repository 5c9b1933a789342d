-- A store that was made over so few rows at tick 0 uses all of them.
use Rattle.std.proofs.Common.{◌≡◌, ℕ, List, length, min, sym, ap, ◌∙◌}
use Rattle.timer.specs.Meaning.{Meaning}
use Rattle.timer_order.specs.Idle.{idle}
use Rattle.timer_rows.specs.Rows.{used}
use Rattle.timer_rows.specs.declared.row.Row.{Row}
use Rattle.timer_rows.proofs.Parts.{used_length}

pub idle_over : {P : Type 0} (m : Meaning P) (last n : ℕ) (rows : List (Row P)) → length rows ≡ n → min n 4096 ≡ n → m ≡ idle 0 last (length (used rows)) → m ≡ idle 0 last n
idle_over m last n rows many few is =
    is ∙ ap (λ k. idle 0 last k) (used_length rows n (sym (ap (λ k. min k 4096) many ∙ few)))
