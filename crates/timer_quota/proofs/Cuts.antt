-- The rules, on a store and on the quota over it.
use Rattle.std.proofs.Common.{◌≡◌, ℕ, zero, suc, min, if◌then◌else◌, nat_le, nat_lt, List, [], ◌∷◌, get_or, Some, None, sym, refl, ap, ◌∙◌, arith}
use Rattle.std.specs.Bool.{then_some}
use Rattle.std.specs.Option.{option_or}
use Rattle.std.proofs.lemmas.Bool.Decides.{nat_tests}
use Rattle.timer.specs.declared.fault.TimerFault.{TimerFault}
use Rattle.timer.specs.declared.fault.TimerFault.TheVariants.{Limit}
use Rattle.timer.specs.Meaning.{Meaning}
use Rattle.timer.specs.Rules.{check_rule, limit_rule, count_rule, started, start_rule}
use Rattle.timer_quota.specs.Quota.{cut, limited}

pub cut_at : (xs ns : List ℕ) (i : ℕ) → get_or (cut xs ns) i 0 ≡ min (get_or xs i 0) (get_or ns i 0)
cut_at [] ns i = omega arith
cut_at (x ∷ xs) [] zero = omega arith
cut_at (x ∷ xs) [] (suc i) = cut_at xs [] i
cut_at (x ∷ xs) (n ∷ ns) zero = refl
cut_at (x ∷ xs) (n ∷ ns) (suc i) = cut_at xs ns i

module _ {P : Type 0} (m : Meaning P) (ns : List ℕ) where
  pub limit_cut : (o : ℕ) → min (if nat_lt o 64 then get_or ns o 0 else 0) (limit_rule m o) ≡ limit_rule (limited m ns) o
  limit_cut o = let e = cut_at m.limits ns o in grind (arith, nat_tests)

  -- a refusal of the store below comes through, and then the quota's own
  check_below : (d o : ℕ) (f : TimerFault) → Some f ≡ check_rule m d o → Some f ≡ check_rule (limited m ns) d o
  unfolding check_rule
  check_below d o f h = let e = cut_at m.limits ns o in grind (arith, nat_tests)

  check_own : (d o : ℕ) → None ≡ check_rule m d o → then_some (nat_le (if nat_lt o 64 then get_or ns o 0 else 0) (count_rule m o)) Limit ≡ check_rule (limited m ns) d o
  unfolding check_rule
  check_own d o h = let e = cut_at m.limits ns o in grind (arith, nat_tests)

  pub check_cut : (d o : ℕ) → option_or (check_rule m d o) (then_some (nat_le (if nat_lt o 64 then get_or ns o 0 else 0) (count_rule m o)) Limit) ≡ check_rule (limited m ns) d o
  check_cut d o =
      elim (check_rule m d o) as (λ c. c ≡ check_rule m d o → option_or c (then_some (nat_le (if nat_lt o 64 then get_or ns o 0 else 0) (count_rule m o)) Limit) ≡ check_rule (limited m ns) d o) [
        | None ↦ λ h. check_own d o h
        | Some f ↦ λ h. check_below d o f h
      ] refl

  pub check_inner : (d o : ℕ) → None ≡ check_rule (limited m ns) d o → None ≡ check_rule m d o
  unfolding check_rule
  check_inner d o h = let e = cut_at m.limits ns o in grind (arith, nat_tests)

  module _ (d o : ℕ) (p : P) (h : None ≡ check_rule (limited m ns) d o) where
    pub start_answer : (start_rule m d o p).answer ≡ (start_rule (limited m ns) d o p).answer
    start_answer = ap (λ c. (started m d o p c).answer) (sym (check_inner d o h)) ∙ ap (λ c. (started (limited m ns) d o p c).answer) h

    pub start_after : limited (start_rule m d o p).after ns ≡ (start_rule (limited m ns) d o p).after
    start_after = ap (λ c. limited (started m d o p c).after ns) (sym (check_inner d o h)) ∙ ap (λ c. (started (limited m ns) d o p c).after) h
