-- A walk along a chain.
use Rattle.std.proofs.Common.{◌≡◌, ℕ, zero, suc, ◌-◌, ◌<◌, ◌≤◌, ◌≢◌, List, length, get_or, Some, None, refl, ap, ◌∙◌, arith}
use Rattle.std.proofs.lemmas.Bool.Decides.{nat_tests}
use Rattle.timer_rows.specs.Buckets.{along}

module _ (ks os : List ℕ) (t : ℕ) where
  -- the chain has ended
  pub along_past : (k node : ℕ) → length ks ≤ node → along k ks os node t ≡ None
  unfolding along
  along_past zero node l = refl
  along_past (suc k) node l = grind (arith, nat_tests)

  -- enough of it was looked at
  pub along_none : (k node : ℕ) → k ≡ 0 → along k ks os node t ≡ None
  unfolding along
  along_none zero node e = refl
  along_none (suc k) node e = absurd (omega arith)

  -- k rows of it are left to look at
  left : (k : ℕ) → 0 < k → k ≡ suc (k - 1)
  left k l = omega arith

  pub along_found : (k node : ℕ) → 0 < k → node < length ks → get_or ks node 0 ≡ t → along k ks os node t ≡ Some node
  unfolding along
  along_found k node l n e = ap (λ j. along j ks os node t) (left k l) ∙ grind (arith, nat_tests)

  pub along_step : (k node : ℕ) → 0 < k → node < length ks → get_or ks node 0 ≢ t → along k ks os node t ≡ along (k - 1) ks os (get_or os node 0) t
  unfolding along
  along_step k node l n e = ap (λ j. along j ks os node t) (left k l) ∙ grind (arith, nat_tests)
