-- What is found among entries, and among the same entries with their tickets raised.
use Rattle.std.proofs.Common.{◌≡◌, ℕ, ◌+◌, ◌<◌, cond, eqb, List, [], ◌∷◌, map, is_some, None, refl, ap, arith}
use Rattle.std.specs.Option.{option_map}
use Rattle.std.proofs.lemmas.Bool.Decides.{nat_tests}
use Rattle.timer.specs.Meaning.{Entry}
use Rattle.timer.specs.Rules.{count, find, without, due_entry}
use Rattle.timer_aged.specs.Aged.{raised}

module _ {P : Type 0} (k : ℕ) where
  pub count_raised : (o : ℕ) (es : List (Entry P)) → count o (map (raised k) es) ≡ count o es
  count_raised o [] = refl
  count_raised o (e ∷ es) = ap (λ n. cond (eqb e.owner o) (n + 1) n) (count_raised o es)

  pub due_raised : (n : ℕ) (es : List (Entry P)) → due_entry n (map (raised k) es) ≡ option_map (raised k) (due_entry n es)
  due_raised n [] = refl
  due_raised n (e ∷ es) = let h = due_raised n es in grind (arith, nat_tests)

  pub is_due_raised : (n : ℕ) (es : List (Entry P)) → is_some (due_entry n (map (raised k) es)) ≡ is_some (due_entry n es)
  is_due_raised n [] = refl
  is_due_raised n (e ∷ es) = let h = is_due_raised n es in grind (arith, nat_tests)

  pub find_raised : (t : ℕ) (es : List (Entry P)) → find (t + k) (map (raised k) es) ≡ option_map (raised k) (find t es)
  find_raised t [] = refl
  find_raised t (e ∷ es) = let h = find_raised t es in grind (arith, nat_tests)

  pub find_below : (t : ℕ) (es : List (Entry P)) → t < k → find t (map (raised k) es) ≡ None
  find_below t [] l = refl
  find_below t (e ∷ es) l = let h = find_below t es l in grind (arith, nat_tests)

  pub without_raised : (t : ℕ) (es : List (Entry P)) → without (t + k) (map (raised k) es) ≡ map (raised k) (without t es)
  without_raised t [] = refl
  without_raised t (e ∷ es) = let h = without_raised t es in grind (arith, nat_tests)
