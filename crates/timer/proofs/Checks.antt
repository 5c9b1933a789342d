-- What an answer of check says.
use Rattle.std.proofs.Common.{◌≡◌, ℕ, suc, ◌<◌, ◌≤◌, Bool, true, false, if◌then◌else◌, eqb, ltb, leb, ◌≢◌, [], ◌∷◌, length, get_or, Some, None, Option, sym, refl, ap, ◌∙◌, subst, ⊎_elim, arith, lit<}
use Rattle.std.proofs.lemmas.Bool.{cases_Bool, cases_lt}
use Rattle.std.proofs.lemmas.Bool.Decides.{nat_tests}
use Rattle.timer.specs.declared.fault.TimerFault.{TimerFault}
use Rattle.timer.specs.declared.fault.TimerFault.TheVariants.{Past, Late, Owner, Spent, Full, Limit, Missing, Due, Ended}
use Rattle.timer.specs.Faults.{fault_number}
use Rattle.timer.specs.Meaning.{Meaning}
use Rattle.timer.specs.Rules.{count, applies, check_rule, Lowest}

-- a start that is not refused
pub record Open {P : Type 0} (m : Meaning P) (deadline owner : ℕ) : Type 0 where
  pub later : m.now < deadline
  pub within : deadline ≤ m.last
  pub known : owner < 64
  pub fresh : m.given ≢ 4294967295
  pub room : length m.pending ≢ m.capacity
  pub allowed : count owner m.pending < get_or m.limits owner 0

pub open_says : {P : Type 0} (m : Meaning P) (deadline owner : ℕ) → check_rule m deadline owner ≡ None → Open m deadline owner
unfolding check_rule
open_says m deadline owner h =
    record {
      later = grind (arith, nat_tests);
      within = grind (arith, nat_tests);
      known = grind (arith, nat_tests);
      fresh = grind (arith, nat_tests);
      room = grind (arith, nat_tests);
      allowed = grind (arith, nat_tests);
    }

-- each answer of check, by the tests that led to it
module _ {P : Type 0} (m : Meaning P) (deadline owner : ℕ) where
  pub check_past : leb deadline m.now ≡ true → Some Past ≡ check_rule m deadline owner
  unfolding check_rule
  check_past h = grind (arith, nat_tests)

  module _ (a : leb deadline m.now ≡ false) where
    pub check_late : ltb m.last deadline ≡ true → Some Late ≡ check_rule m deadline owner
    unfolding check_rule
    check_late h = grind (arith, nat_tests)

    module _ (b : ltb m.last deadline ≡ false) where
      pub check_owner : 64 ≤ owner → Some Owner ≡ check_rule m deadline owner
      unfolding check_rule
      check_owner h = grind (arith, nat_tests)

      module _ (c : owner < 64) where
        pub check_spent : eqb m.given 4294967295 ≡ true → Some Spent ≡ check_rule m deadline owner
        unfolding check_rule
        check_spent h = grind (arith, nat_tests)

        module _ (d : eqb m.given 4294967295 ≡ false) where
          pub check_full : length m.pending ≡ m.capacity → Some Full ≡ check_rule m deadline owner
          unfolding check_rule
          check_full h = grind (arith, nat_tests)

          pub check_open : length m.pending ≢ m.capacity → count owner m.pending < get_or m.limits owner 0 → None ≡ check_rule m deadline owner
          unfolding check_rule
          check_open e h = grind (arith, nat_tests)

-- the refusal of a number
fault_of : ℕ → TimerFault
fault_of n = get_or (Past ∷ Past ∷ Late ∷ Owner ∷ Spent ∷ Full ∷ Limit ∷ Missing ∷ Due ∷ Ended ∷ []) n Past

fault_of_number : (f : TimerFault) → fault_of (fault_number f) ≡ f
unfolding fault_of
fault_of_number Past = refl
fault_of_number Late = refl
fault_of_number Owner = refl
fault_of_number Spent = refl
fault_of_number Full = refl
fault_of_number Limit = refl
fault_of_number Missing = refl
fault_of_number Due = refl
fault_of_number Ended = refl

-- the numbers are 1 to 9
number_range : (f : TimerFault) → (0 < fault_number f) × (fault_number f < 10)
number_range Past = (lit< tt, lit< tt)
number_range Late = (lit< tt, lit< tt)
number_range Owner = (lit< tt, lit< tt)
number_range Spent = (lit< tt, lit< tt)
number_range Full = (lit< tt, lit< tt)
number_range Limit = (lit< tt, lit< tt)
number_range Missing = (lit< tt, lit< tt)
number_range Due = (lit< tt, lit< tt)
number_range Ended = (lit< tt, lit< tt)

-- no refusal with a number below n is hit
abbrev Clear : (TimerFault → Bool) → ℕ → Type 0
Clear hit n = (g : TimerFault) → fault_number g < n → hit g ≡ false

clear_more : (hit : TimerFault → Bool) (f : TimerFault) → Clear hit (fault_number f) → hit f ≡ false → Clear hit (suc (fault_number f))
clear_more hit f c h g l =
    ⊎_elim
    (λ (k : fault_number g < fault_number f). c g k)
    (λ (k : fault_number f ≤ fault_number g).
    let e : fault_number f ≡ fault_number g = omega arith in
    subst (λ x. hit x ≡ false) (sym (fault_of_number f) ∙ ap fault_of e ∙ fault_of_number g) h)
    (cases_lt (fault_number g) (fault_number f))

-- one more test
lowest_step : (hit : TimerFault → Bool) (f : TimerFault) (rest : Option TimerFault) → Clear hit (fault_number f) → (Clear hit (suc (fault_number f)) → Lowest hit rest) → Lowest hit (if hit f then Some f else rest)
lowest_step hit f rest c more =
    ⊎_elim
    (λ (h : hit f ≡ true). rw h (h, c))
    (λ (h : hit f ≡ false). rw h (more (clear_more hit f c h)))
    (cases_Bool (hit f))

-- check answers the lowest of the refusals that apply
pub check_lowest : {P : Type 0} (m : Meaning P) (deadline owner : ℕ) → Lowest (applies m deadline owner) (check_rule m deadline owner)
unfolding check_rule
check_lowest m deadline owner =
    let hit : TimerFault → Bool = applies m deadline owner in
    lowest_step hit Past _ (λ g l. absurd (omega (arith, (number_range g).0))) (λ c.
    lowest_step hit Late _ c (λ c.
    lowest_step hit Owner _ c (λ c.
    lowest_step hit Spent _ c (λ c.
    lowest_step hit Full _ c (λ c.
    lowest_step hit Limit _ c (λ c g.
    clear_more hit Ended (clear_more hit Due (clear_more hit Missing c refl) refl) refl g (number_range g).1))))))
