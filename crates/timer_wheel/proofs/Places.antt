-- How a tick moves the places of the pending entries.
use Rattle.std.proofs.Common.{◌≡◌, ℕ, ◌+◌, ◌*◌, ◌%◌, ◌<◌, ◌≤◌, cond, eqb, ◌≢◌, Some, None, sym, refl, ◌∙◌, ⊎_elim, arith}
use Rattle.std.proofs.lemmas.Bool.{cases_eq, cond-true, cond-false, eq-eqb, ne_eqb}
use Rattle.std.proofs.lemmas.Bool.Decides.{nat_tests}
use Rattle.timer_wheel.specs.Place.{place, cascade_place, place_of, cascade_level_of, cascade_place_of}

never : (s : ℕ) → Some s ≡ None → ⊥
never s e = let z : ◌≡◌ {A = ℕ} 0 1 = cc in omega arith

pub place_is : (n d : ℕ) → place n d ≡ place_of n d
unfolding place_of
place_is n d = refl

pub place_below : (n d : ℕ) → place_of n d < 256
unfolding place_of
place_below n d = grind (arith, nat_tests)

pub cascade_place_below : (t : ℕ) → cascade_place_of t < 256
unfolding cascade_level_of cascade_place_of
cascade_place_below t = grind (arith, nat_tests)

pub cascade_place_above : (t : ℕ) → 64 * cascade_level_of t ≤ cascade_place_of t
unfolding cascade_level_of cascade_place_of
cascade_place_above t = omega arith

-- where digit 0 does not become zero no entry moves
pub quiet : (n d : ℕ) → (n + 1) % 64 ≢ 0 → place_of (n + 1) d ≡ place_of n d
unfolding place_of
quiet n d h = grind (arith, nat_tests)

-- where it does, the entries of one slot fall to a lower level
pub falls : (n d : ℕ) → n < d → d ≤ 16777215 → (n + 1) % 64 ≡ 0 → place_of n d ≡ cascade_place_of (n + 1) → place_of (n + 1) d < 64 * cascade_level_of (n + 1)
unfolding place_of cascade_level_of cascade_place_of
falls n d h l z e = grind (arith, nat_tests)

-- and no other entry moves
pub stays : (n d : ℕ) → n < d → d ≤ 16777215 → place_of n d ≢ cascade_place_of (n + 1) → place_of (n + 1) d ≡ place_of n d
unfolding place_of cascade_level_of cascade_place_of
stays n d h l ne = grind (arith, nat_tests)

-- before that tick the lower levels are empty
pub low : (n d : ℕ) → n < d → d ≤ 16777215 → 64 * cascade_level_of (n + 1) ≤ place_of n d
unfolding place_of cascade_level_of cascade_place_of
low n d h l = grind (arith, nat_tests)

-- after it, the slot that gave up its entries has none
pub gone : (n d : ℕ) → n < d → d ≤ 16777215 → (n + 1) % 64 ≡ 0 → place_of (n + 1) d ≢ cascade_place_of (n + 1)
unfolding place_of cascade_level_of cascade_place_of
gone n d h l z e = grind (arith, nat_tests)

-- the slot of the tick's digit 0 on level 0 is that of the entries that are due
pub due_here : (n d : ℕ) → n ≤ d → d ≤ 16777215 → place_of n d ≡ n % 64 → d ≡ n
unfolding place_of
due_here n d h l e = grind (arith, nat_tests)

pub here_due : (n : ℕ) → place_of n n ≡ n % 64
unfolding place_of
here_due n = grind (arith, nat_tests)

-- what `cascade_place` answers
pub turn_comes : (t s : ℕ) → Some s ≡ cond (eqb (t % 64) 0) (Some (cascade_place t)) None → (t % 64 ≡ 0) × (s ≡ cascade_place_of t)
unfolding cascade_place_of
turn_comes t s e =
    ⊎_elim
    (λ (z : t % 64 ≡ 0). let q : Some s ≡ Some (cascade_place t) = e ∙ cond-true (eqb (t % 64) 0) (Some (cascade_place t)) None (eq-eqb (t % 64) 0 z) in (z, cc))
    (λ (z : t % 64 ≢ 0). let q : Some s ≡ None = e ∙ cond-false (eqb (t % 64) 0) (Some (cascade_place t)) None (ne_eqb (t % 64) 0 z) in absurd (never s q))
    (cases_eq (t % 64) 0)

pub no_turn : (t : ℕ) → None ≡ cond (eqb (t % 64) 0) (Some (cascade_place t)) None → t % 64 ≢ 0
no_turn t e z = never (cascade_place t) (sym (e ∙ cond-true (eqb (t % 64) 0) (Some (cascade_place t)) None (eq-eqb (t % 64) 0 z)))
