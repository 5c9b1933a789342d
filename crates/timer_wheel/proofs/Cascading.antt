-- Emptying the slots of all levels leaves what emptying one leaves: each entry in the slot of its next place.
use Rattle.std.proofs.Common.{◌≡◌, ℕ, zero, suc, ◌+◌, ◌*◌, ◌%◌, ◌<◌, ◌≤◌, Bool, true, false, ◌&&◌, cond, eqb, ◌==◌, ◌≢◌, ◌⊎◌, List, [], ◌∷◌, ◌++◌, sym, refl, ap, ◌∙◌, inl, inr, ⊎_elim, append_assoc, arith}
use Rattle.std.specs.List.{filter, fold, All}
use Rattle.std.proofs.Math.Path.{fun_ext}
use Rattle.std.proofs.lemmas.List.{append-nil}
use Rattle.std.proofs.lemmas.List.Elements.{All-head, All-tail, All-weaker}
use Rattle.std.proofs.lemmas.Bool.{cases_eq, cases_lt, eq-eqb, ne_eqb}
use Rattle.std.proofs.lemmas.Bool.Decides.{nat_tests}
use Rattle.timer.specs.Meaning.{Entry}
use Rattle.timer_wheel.specs.Place.{digit, place_of, cascade_level_of, cascade_place_of}
use Rattle.timer_wheel.specs.Cascade.{laid, placed_at, emptied, zeros, level_cascade, cascade, ToCome, Cascades, Examples}
use Rattle.timer_wheel.proofs.Places.{quiet, falls, stays, low, gone}

-- no deadline to come has the tick's own digit on its level, above level 0
not_own : (k t d : ℕ) → k < 3 → t ≤ d → d ≤ 16777215 → place_of t d ≢ 64 * (k + 1) + digit (k + 1) t
unfolding place_of
not_own zero t d l h b e = grind (arith, nat_tests)
not_own (suc zero) t d l h b e = grind (arith, nat_tests)
not_own (suc (suc zero)) t d l h b e = grind (arith, nat_tests)
not_own (suc (suc (suc k))) t d l h b e = absurd (omega arith)

-- whose turn it is, by the tick's digits, and the slot that the highest of them empties
module _ (t : ℕ) where
  zeros_not : t % 64 ≢ 0 → (zeros 1 t ≡ false) × (zeros 2 t ≡ false) × (zeros 3 t ≡ false)
  zeros_not a = (grind (arith, nat_tests), grind (arith, nat_tests), grind (arith, nat_tests))

  zeros_one : t % 64 ≡ 0 → t % 4096 ≢ 0 → (zeros 1 t ≡ true) × (zeros 2 t ≡ false) × (zeros 3 t ≡ false)
  zeros_one a b = (grind (arith, nat_tests), grind (arith, nat_tests), grind (arith, nat_tests))

  zeros_two : t % 4096 ≡ 0 → t % 262144 ≢ 0 → (zeros 2 t ≡ true) × (zeros 3 t ≡ false)
  zeros_two b c = (grind (arith, nat_tests), grind (arith, nat_tests))

  zeros_three : t % 262144 ≡ 0 → zeros 3 t ≡ true
  zeros_three c = grind (arith, nat_tests)

  at_one : t % 64 ≡ 0 → t % 4096 ≢ 0 → cascade_place_of t ≡ 64 * 1 + digit 1 t
  unfolding cascade_place_of
  at_one a b = grind (arith, nat_tests)

  at_two : t % 4096 ≡ 0 → t % 262144 ≢ 0 → cascade_place_of t ≡ 64 * 2 + digit 2 t
  unfolding cascade_place_of
  at_two b c = grind (arith, nat_tests)

  at_three : t % 262144 ≡ 0 → cascade_place_of t ≡ 64 * 3 + digit 3 t
  unfolding cascade_place_of
  at_three c = grind (arith, nat_tests)

module _ {X : Type 0} where
  -- tests that agree at the elements keep the same of them
  filter_same : (a b : X → Bool) (xs : List X) → All (λ x. a x ≡ b x) xs → filter a xs ≡ filter b xs
  filter_same a b [] h = refl
  filter_same a b (x ∷ xs) h =
      ap (λ v. cond v (x ∷ filter a xs) (filter a xs)) (All-head (λ y. a y ≡ b y) x xs h)
      ∙ ap (λ ys. cond (b x) (x ∷ ys) ys) (filter_same a b xs (All-tail (λ y. a y ≡ b y) x xs h))

  filter_nothing : (xs : List X) → filter (λ _. false) xs ≡ []
  filter_nothing [] = refl
  filter_nothing (x ∷ xs) = filter_nothing xs

  filter_filter : (a b : X → Bool) (xs : List X) → filter a (filter b xs) ≡ filter (λ x. b x && a x) xs
  filter_filter a b [] = refl
  filter_filter a b (x ∷ xs) =
      elim (b x) as (λ v. filter a (cond v (x ∷ filter b xs) (filter b xs)) ≡ cond (v && a x) (x ∷ filter (λ y. b y && a y) xs) (filter (λ y. b y && a y) xs)) [
        | true ↦ ap (λ ys. cond (a x) (x ∷ ys) ys) (filter_filter a b xs)
        | false ↦ filter_filter a b xs
      ]

module _ {P : Type 0} where
  -- entries that are placed one after another stand behind what was there, in their order
  placed_all : (t : ℕ) (xs : List (Entry P)) (slots : ℕ → List (Entry P)) (p : ℕ) → fold (placed_at t) slots xs p ≡ slots p ++ laid t xs p
  placed_all t [] slots p = sym (append-nil (slots p))
  placed_all t (e ∷ xs) slots p =
      placed_all t xs (placed_at t slots e) p
      ∙ elim (place_of t e.deadline == p) as (λ v. cond v (slots p ++ e ∷ []) (slots p) ++ laid t xs p ≡ slots p ++ cond v (e ∷ laid t xs p) (laid t xs p)) [
        | true ↦ append_assoc (slots p) (e ∷ []) (laid t xs p)
        | false ↦ refl
      ]

  -- an empty slot gives up nothing
  emptied_none : (t q : ℕ) (slots : ℕ → List (Entry P)) → slots q ≡ [] → (p : ℕ) → emptied t q slots p ≡ slots p
  emptied_none t q slots z p =
      ap (λ es. fold (placed_at t) (λ i. cond (eqb i q) [] (slots i)) es p) z
      ∙ ⊎_elim
      (λ (e : p ≡ q). ap (λ v. cond v [] (slots p)) (eq-eqb p q e) ∙ sym z ∙ ap slots (sym e))
      (λ (ne : p ≢ q). ap (λ v. cond v [] (slots p)) (ne_eqb p q ne))
      (cases_eq p q)

  module _ (n : ℕ) (es : List (Entry P)) (w : ToCome n es) where
    abbrev q : ℕ
    q = cascade_place_of (n + 1)

    abbrev here : ℕ → Entry P → Bool
    here p e = place_of n e.deadline == p

    abbrev there : ℕ → Entry P → Bool
    there p e = place_of (n + 1) e.deadline == p

    -- tests that agree at entries to come keep the same of them
    agree : (a b : Entry P → Bool) → ((e : Entry P) → n < e.deadline → e.deadline ≤ 16777215 → a e ≡ b e) → filter a es ≡ filter b es
    agree a b h = filter_same a b es (All-weaker (λ e. (n < e.deadline) × (e.deadline ≤ 16777215)) (λ e. a e ≡ b e) (λ e t. h e t.0 t.1) es w)

    without : (a : Entry P → Bool) → ((e : Entry P) → n < e.deadline → e.deadline ≤ 16777215 → a e ≡ false) → filter a es ≡ []
    without a h = agree a (λ _. false) h ∙ filter_nothing es

    module _ (z : (n + 1) % 64 ≡ 0) where
      -- the entries of one slot fall to a lower level, and no other moves
      fate : (d : ℕ) → n < d → d ≤ 16777215 → ((place_of n d ≡ q) × (place_of (n + 1) d < 64 * cascade_level_of (n + 1))) ⊎ ((place_of n d ≢ q) × (place_of (n + 1) d ≡ place_of n d))
      fate d a b = ⊎_elim (λ (e : place_of n d ≡ q). inl (e, falls n d a b z e)) (λ (o : place_of n d ≢ q). inr (o, stays n d a b o)) (cases_eq (place_of n d) q)

      -- what the slot gives to a place
      abbrev given : ℕ → List (Entry P)
      given p = laid (n + 1) (laid n es q) p

      given_is : (p : ℕ) → given p ≡ filter (λ e. here q e && there p e) es
      given_is p = filter_filter (there p) (here q) es

      -- it gives all to lower levels, which had nothing
      itself : (p : ℕ) → p ≡ q → given p ≡ laid (n + 1) es p
      itself p e = given_is p ∙ agree (λ i. here q i && there p i) (there p) (λ i a b. let g = gone n i.deadline a b z in grind (arith, nat_tests))

      lower : (p : ℕ) → p < 64 * cascade_level_of (n + 1) → laid n es p ++ given p ≡ laid (n + 1) es p
      lower p l =
          ap (λ xs. xs ++ given p) (without (here p) (λ i a b. let g = low n i.deadline a b in grind (arith, nat_tests)))
          ∙ given_is p
          ∙ agree (λ i. here q i && there p i) (there p) (λ i a b. let g = low n i.deadline a b in let f = fate i.deadline a b in grind (arith, nat_tests))

      -- any other slot keeps what it had
      other : (p : ℕ) → p ≢ q → 64 * cascade_level_of (n + 1) ≤ p → laid n es p ++ given p ≡ laid (n + 1) es p
      other p ne l =
          ap (λ xs. laid n es p ++ xs) (given_is p ∙ without (λ i. here q i && there p i) (λ i a b. let f = fate i.deadline a b in grind (arith, nat_tests)))
          ∙ append-nil (laid n es p)
          ∙ agree (here p) (there p) (λ i a b. let f = fate i.deadline a b in grind (arith, nat_tests))

      pub one_slot : (p : ℕ) → emptied (n + 1) q (laid n es) p ≡ laid (n + 1) es p
      one_slot p =
          placed_all (n + 1) (laid n es q) (λ i. cond (eqb i q) [] (laid n es i)) p
          ∙ ⊎_elim
          (λ (e : p ≡ q). ap (λ v. cond v [] (laid n es p) ++ given p) (eq-eqb p q e) ∙ itself p e)
          (λ (ne : p ≢ q).
          ap (λ v. cond v [] (laid n es p) ++ given p) (ne_eqb p q ne)
          ∙ ⊎_elim (lower p) (other p ne) (cases_lt p (64 * cascade_level_of (n + 1))))
          (cases_eq p q)

    pub none : (n + 1) % 64 ≢ 0 → (p : ℕ) → laid n es p ≡ laid (n + 1) es p
    none ne p = agree (here p) (there p) (λ e a b. ap (λ i. i == p) (sym (quiet n e.deadline ne)))

    -- on a level above 0 the slot of the tick's own digit is empty
    own_none : (k : ℕ) → k < 3 → laid (n + 1) es (64 * (k + 1) + digit (k + 1) (n + 1)) ≡ []
    own_none k l = without (there (64 * (k + 1) + digit (k + 1) (n + 1))) (λ i a b. ne_eqb _ _ (not_own k (n + 1) i.deadline l (omega arith) b))

    -- so what the lower levels do then changes nothing
    rest : (k : ℕ) → k < 3 → level_cascade (k + 1) (n + 1) (laid (n + 1) es) ≡ laid (n + 1) es
    rest k l =
        fun_ext (λ p.
        elim (zeros (k + 1) (n + 1)) as (λ v. cond v (emptied (n + 1) (64 * (k + 1) + digit (k + 1) (n + 1)) (laid (n + 1) es)) (laid (n + 1) es) p ≡ laid (n + 1) es p) [
          | true ↦ emptied_none (n + 1) (64 * (k + 1) + digit (k + 1) (n + 1)) (laid (n + 1) es) (own_none k l) p
          | false ↦ refl
        ])

    -- a level does nothing where a lower digit is not zero
    skips : (k : ℕ) (slots : ℕ → List (Entry P)) → zeros k (n + 1) ≡ false → level_cascade k (n + 1) slots ≡ slots
    skips k slots e = ap (λ v. cond v (emptied (n + 1) (64 * k + digit k (n + 1)) slots) slots) e

    -- the highest level whose turn it is does what has to be done
    acts : (k : ℕ) → (n + 1) % 64 ≡ 0 → zeros k (n + 1) ≡ true → 64 * k + digit k (n + 1) ≡ q → level_cascade k (n + 1) (laid n es) ≡ laid (n + 1) es
    acts k z e at_q =
        ap (λ v. cond v (emptied (n + 1) (64 * k + digit k (n + 1)) (laid n es)) (laid n es)) e
        ∙ ap (λ i. emptied (n + 1) i (laid n es)) at_q
        ∙ fun_ext (one_slot z)

    pub all_levels : cascade (n + 1) (laid n es) ≡ laid (n + 1) es
    all_levels =
        let T1 = λ (slots : ℕ → List (Entry P)). level_cascade 1 (n + 1) slots in
        let T2 = λ (slots : ℕ → List (Entry P)). level_cascade 2 (n + 1) slots in
        ⊎_elim
        (λ (a : (n + 1) % 64 ≡ 0).
        ⊎_elim
        (λ (b : (n + 1) % 4096 ≡ 0).
        ⊎_elim
        (λ (c : (n + 1) % 262144 ≡ 0). ap (λ f. T1 (T2 f)) (acts 3 a (zeros_three (n + 1) c) (sym (at_three (n + 1) c))) ∙ ap T1 (rest 1 (omega arith)) ∙ rest 0 (omega arith))
        (λ (c : (n + 1) % 262144 ≢ 0).
        let o = zeros_two (n + 1) b c in
        ap (λ f. T1 (T2 f)) (skips 3 (laid n es) o.1) ∙ ap T1 (acts 2 a o.0 (sym (at_two (n + 1) b c))) ∙ rest 0 (omega arith))
        (cases_eq ((n + 1) % 262144) 0))
        (λ (b : (n + 1) % 4096 ≢ 0).
        let o = zeros_one (n + 1) a b in
        ap (λ f. T1 (T2 f)) (skips 3 (laid n es) o.2) ∙ ap T1 (skips 2 (laid n es) o.1) ∙ acts 1 a o.0 (sym (at_one (n + 1) a b)))
        (cases_eq ((n + 1) % 4096) 0))
        (λ (a : (n + 1) % 64 ≢ 0).
        let o = zeros_not (n + 1) a in
        ap (λ f. T1 (T2 f)) (skips 3 (laid n es) o.2) ∙ ap T1 (skips 2 (laid n es) o.1) ∙ skips 1 (laid n es) o.0 ∙ fun_ext (none a))
        (cases_eq ((n + 1) % 64) 0)

    -- so the literature's cascade, and the wheel's, leave the slots of the next tick
    pub cascades : Cascades n es
    cascades = record { levels = λ p. ap (λ f. f p) all_levels; one_slot = one_slot; none = none }

pub examples : Examples
unfolding place_of
examples = (refl, refl, refl, refl, refl)
