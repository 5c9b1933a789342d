-- The receiving half of a channel.
use Rattle.std.proofs.Common.{◌≡◌, ℕ, ◌+◌, ◌%◌, ◌<◌, ◌≤◌, ◌⊎◌, List, [], ◌∷◌, ◌++◌, length, get_or, take, set, Option, Some, None, IsSome, replicate, sym, refl, ap, ◌∙◌, inl, inr, arith}
use Rattle.std.proofs.lemmas.List.{length-set, get_or_append_left, length_push, take-append-le, take_more, get_or-replicate}
use Rattle.std.proofs.lemmas.Option.{none-some}
use Rattle.std.proofs.lemmas.Bool.{cases_eq, cases_lt}
use Rattle.words_law.proofs.Places.{here, there}

abbrev pub place : List (Option ℕ) → ℕ → Option ℕ
place ps n = get_or ps (n % 8) None

-- the receiver has the word of this number, or had it
abbrev pub Arrived : ℕ → List (Option ℕ) → ℕ → Type 0
Arrived t ps n = (n < t) ⊎ ((n < t + 8) × IsSome (place ps n))

-- the word of number n is w
abbrev pub Word : List ℕ → ℕ → ℕ → Type 0
Word W n w = (n < length W) × (w ≡ get_or W n 0)

pub word_more : (W : List ℕ) (x n w : ℕ) → Word W n w → Word (W ++ x ∷ []) n w
word_more W x n w h =
    (omega (arith, length_push W x, h.0), h.1 ∙ sym (get_or_append_left W (x ∷ []) 0 n h.0))

-- what holds of it where W was sent and T was taken
pub record Receives (W T : List ℕ) (t : ℕ) (ps : List (Option ℕ)) : Type 0 where
  pub size : length ps ≡ 8
  pub took : T ≡ take t W
  pub fits : t ≤ length W
  pub filled : (n w : ℕ) → t ≤ n → n < t + 8 → place ps n ≡ Some w → Word W n w

pub is_filled : (x : Option ℕ) (w : ℕ) → x ≡ Some w → IsSome x
is_filled x w e = rw e refl

pub receives_new : Receives [] [] 0 (replicate 8 None)
receives_new =
    record {
      size = refl;
      took = refl;
      fits = omega arith;
      filled = λ n w _ l e. absurd (none-some w (sym (get_or-replicate 8 (n % 8) None None (omega arith)) ∙ e));
    }

pub receives_more : (W T : List ℕ) (t : ℕ) (ps : List (Option ℕ)) (x : ℕ) → Receives W T t ps → Receives (W ++ x ∷ []) T t ps
receives_more W T t ps x g =
    record {
      size = g.size;
      took = g.took ∙ sym (take-append-le t W (x ∷ []) g.fits);
      fits = omega (arith, length_push W x, g.fits);
      filled = λ n w a b e. word_more W x n w (g.filled n w a b e);
    }

pub receives_taken : (W T : List ℕ) (t up : ℕ) (ps : List (Option ℕ)) (x : ℕ) → up ≡ t + 1 → Receives W T t ps → place ps t ≡ Some x → Receives W (T ++ x ∷ []) up (set ps (t % 8) None)
receives_taken W T t up ps x is g e =
    let s : Word W t x = g.filled t x (omega arith) (omega arith) e in
    record {
      size = length-set ps (t % 8) None ∙ g.size;
      took = ap (λ (y : List ℕ). y ++ x ∷ []) g.took ∙ ap (λ (y : ℕ). take t W ++ y ∷ []) s.1 ∙ sym (take_more W t 0 s.0) ∙ ap (λ (y : ℕ). take y W) (sym is);
      fits = omega (arith, s.0);
      filled = λ n w a b f. elim (cases_lt n (t + 8)) [
        | inl l ↦ g.filled n w (omega arith) l (sym (there ps t n t None None (omega arith) l (omega arith) (omega arith) (λ (q : n ≡ t). omega arith)) ∙ f)
        | inr l ↦
            let m : n % 8 ≡ t % 8 = omega arith in
            absurd (none-some w (sym (ap (λ (y : ℕ). get_or (set ps (t % 8) None) y None) m ∙ here ps t None None g.size) ∙ f))
      ];
    }

pub receives_filled : (W T : List ℕ) (t : ℕ) (ps : List (Option ℕ)) (k x : ℕ) → Receives W T t ps → t ≤ k → k < t + 8 → Word W k x → Receives W T t (set ps (k % 8) (Some x))
receives_filled W T t ps k x g lo hi s =
    record {
      size = length-set ps (k % 8) (Some x) ∙ g.size;
      took = g.took;
      fits = g.fits;
      filled = λ n w a b f. elim (cases_eq n k) [
        | inl e ↦
            let m : Some x ≡ Some w = sym (ap (λ (y : ℕ). place (set ps (k % 8) (Some x)) y) e ∙ here ps k (Some x) None g.size) ∙ f in
            let v : x ≡ w = cc in
            let u : Word W n x = rw e s in
            rw (sym v) u
        | inr d ↦ g.filled n w a b (sym (there ps t n k (Some x) None a b lo hi d) ∙ f)
      ];
    }

-- what arrived stays so
pub arrived_taken : (t up : ℕ) (ps : List (Option ℕ)) → up ≡ t + 1 → (n : ℕ) → Arrived t ps n → Arrived up (set ps (t % 8) None) n
arrived_taken t up ps is n (inl l) = inl (omega arith)
arrived_taken t up ps is n (inr h) = elim (cases_lt n up) [
  | inl l ↦ inl l
  | inr l ↦ inr (omega (arith, h.0), rw (there ps t n t None None (omega arith) h.0 (omega arith) (omega arith) (λ (q : n ≡ t). omega arith)) h.1)
]

pub arrived_filled : (t : ℕ) (ps : List (Option ℕ)) (k x : ℕ) → length ps ≡ 8 → t ≤ k → k < t + 8 → (n : ℕ) → Arrived t ps n → Arrived t (set ps (k % 8) (Some x)) n
arrived_filled t ps k x z lo hi n (inl l) = inl l
arrived_filled t ps k x z lo hi n (inr h) = elim (cases_lt n t) [
  | inl l ↦ inl l
  | inr l ↦ elim (cases_eq n k) [
    | inl e ↦ inr (h.0, is_filled (place (set ps (k % 8) (Some x)) n) x (ap (λ (y : ℕ). place (set ps (k % 8) (Some x)) y) e ∙ here ps k (Some x) None z))
    | inr d ↦ inr (h.0, rw (there ps t n k (Some x) None l h.0 lo hi d) h.1)
  ]
]

pub arrived_now : (t : ℕ) (ps : List (Option ℕ)) (k x : ℕ) → length ps ≡ 8 → k < t + 8 → Arrived t (set ps (k % 8) (Some x)) k
arrived_now t ps k x z hi = inr (hi, is_filled (place (set ps (k % 8) (Some x)) k) x (here ps k (Some x) None z))
