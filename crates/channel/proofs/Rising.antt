-- How far `base` rises is how many numbers from it on, below `next` and at most so many, have places where no word waits.
use Rattle.std.proofs.Common.{◌≡◌, ℕ, zero, suc, ◌+◌, ◌-◌, ◌<◌, ◌^◌, true, false, cond, List, length, take, Option, inl, inr, sym, ap, ◌∙◌, arith}
use Rattle.std.proofs.lemmas.Bool.{lt-ltb, le-ltb, cases_lt}
use Rattle.std.proofs.lemmas.List.Folds.{length-prefix_len}
use Rattle.std.specs.List.{prefix_len, range_with_len, take_while}
use Rattle.channel.specs.Record.{is_passed, risen, stop}

by_prefix : (k base next : ℕ) (places : List (Option ℕ)) → next < 2 ^ 32 → risen k base next places ≡ base + prefix_len (is_passed places) (take k (range_with_len base (next - base)))
unfolding risen
by_prefix zero base next places h = omega arith
by_prefix (suc k) base next places h = elim (cases_lt base next) [
  | inl l ↦
      let more : next - base ≡ suc (next - (base + 1)) = omega arith in
      let up : stop (base + 1) ≡ base + 1 = omega arith in
      let n = prefix_len (is_passed places) (take k (range_with_len (base + 1) (next - (base + 1)))) in
      rw (more, lt-ltb base next l, up, by_prefix k (base + 1) next places h)
      (elim (is_passed places base) as (λ b. cond b (base + 1 + n) base ≡ base + cond b (1 + n) 0) [ true ↦ omega arith | false ↦ omega arith ])
  | inr l ↦
      let none : next - base ≡ zero = omega arith in
      rw (none, le-ltb base next l) (omega arith)
]

pub risen_counts : (k base next : ℕ) (places : List (Option ℕ)) → next < 2 ^ 32 → risen k base next places ≡ base + length (take_while (is_passed places) (take k (range_with_len base (next - base))))
risen_counts k base next places h =
    by_prefix k base next places h
    ∙ ap (λ n. base + n) (sym (length-prefix_len (is_passed places) (take k (range_with_len base (next - base)))))
