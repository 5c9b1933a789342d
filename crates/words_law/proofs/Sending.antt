-- The sending half of a channel.
use Rattle.std.proofs.Common.{◌≡◌, ℕ, zero, suc, ◌+◌, ◌%◌, ◌<◌, ◌≤◌, min, max, true, ◌&&◌, ltb, Option, Some, None, is_none, List, [], ◌∷◌, ◌++◌, length, get_or, set, replicate, sym, refl, ap, ◌∙◌, inl, inr, arith}
use Rattle.std.proofs.lemmas.List.{get_or-set_other, length-set, length_push}
use Rattle.std.proofs.lemmas.Bool.{cases_eq, cases_lt, ltb-true, cond_both, and_parts, false≢true}
use Rattle.std.proofs.lemmas.Option.{none-some}
use Rattle.channel.specs.Record.{stop, is_passed, risen}
use Rattle.words_law.proofs.Places.{here, there}

-- what holds of it where W was sent, and H says of which numbers the words arrived
pub record Sends (W : List ℕ) (H : ℕ → Type 0) (next base : ℕ) (ps : List (Option ℕ)) : Type 0 where
  pub size : length ps ≡ 8
  pub all : next ≡ length W
  pub small : next ≤ 4294967295
  pub low : base ≤ next
  pub high : next ≤ base + 8
  pub below : (n : ℕ) → n < base → H n
  pub answered : (n : ℕ) → base ≤ n → n < next → get_or ps (n % 8) None ≡ None → H n

pub sends_new : (H : ℕ → Type 0) → Sends [] H 0 0 (replicate 8 None)
sends_new H =
    record {
      size = refl;
      all = refl;
      small = omega arith;
      low = omega arith;
      high = omega arith;
      below = λ n (l : n < 0). absurd (omega arith);
      answered = λ n a (l : n < 0) e. absurd (omega arith);
    }

module _ (W : List ℕ) (H : ℕ → Type 0) (next base : ℕ) (ps : List (Option ℕ)) (p : Sends W H next base ps) where
  pub sends_arrived : (G : ℕ → Type 0) → ((n : ℕ) → H n → G n) → Sends W G next base ps
  sends_arrived G f =
      record {
        size = p.size;
        all = p.all;
        small = p.small;
        low = p.low;
        high = p.high;
        below = λ n l. f n (p.below n l);
        answered = λ n a l e. f n (p.answered n a l e);
      }

  pub sends_sent : (x t up : ℕ) → up ≡ next + 1 → up ≤ 4294967295 → next < base + 8 → Sends (W ++ x ∷ []) H up base (set ps (next % 8) (Some t))
  sends_sent x t up is fits room =
      record {
        size = length-set ps (next % 8) (Some t) ∙ p.size;
        all = omega (arith, length_push W x);
        small = omega arith;
        low = omega arith;
        high = omega arith;
        below = p.below;
        answered = λ n a l e. elim (cases_eq n next) [
          | inl q ↦ absurd (none-some t (sym e ∙ ap (λ (y : ℕ). get_or (set ps (next % 8) (Some t)) (y % 8) None) q ∙ here ps next (Some t) None p.size))
          | inr d ↦ p.answered n a (omega arith) (sym (there ps base n next (Some t) None a (omega arith) (omega arith) room d) ∙ e)
        ];
      }

  pub sends_waiting : (k t : ℕ) → Sends W H next base (set ps (k % 8) (Some t))
  sends_waiting k t =
      record {
        size = length-set ps (k % 8) (Some t) ∙ p.size;
        all = p.all;
        small = p.small;
        low = p.low;
        high = p.high;
        below = p.below;
        answered = λ n a l e. elim (cases_eq (n % 8) (k % 8)) [
          | inl q ↦ absurd (none-some t (sym e ∙ ap (λ (y : ℕ). get_or (set ps (k % 8) (Some t)) y None) q ∙ here ps k (Some t) None p.size))
          | inr d ↦ p.answered n a l (sym (get_or-set_other ps (k % 8) (n % 8) (Some t) None d) ∙ e)
        ];
      }

  pub sends_answered : (k : ℕ) → base ≤ k → k < next → H k → Sends W H next base (set ps (k % 8) None)
  sends_answered k lo hi h =
      record {
        size = length-set ps (k % 8) None ∙ p.size;
        all = p.all;
        small = p.small;
        low = p.low;
        high = p.high;
        below = p.below;
        answered = λ n a l e. elim (cases_eq n k) [
          | inl q ↦ rw q h
          | inr d ↦ p.answered n a l (sym (there ps base n k None None a (omega arith) lo (omega arith) d) ∙ e)
        ];
      }

-- the base rises past one answered place
sends_up : (W : List ℕ) (H : ℕ → Type 0) (next base : ℕ) (ps : List (Option ℕ)) → Sends W H next base ps → base < next → get_or ps (base % 8) None ≡ None → Sends W H next (stop (base + 1)) ps
sends_up W H next base ps p l e =
    record {
      size = p.size;
      all = p.all;
      small = p.small;
      low = omega arith;
      high = omega arith;
      below = λ n b. elim (cases_lt n base) [ inl q ↦ p.below n q | inr q ↦ p.answered n q (omega arith) (ap (λ (y : ℕ). get_or ps (y % 8) None) (let z : n ≡ base = omega arith in z) ∙ e) ];
      answered = λ n a b f. p.answered n (omega arith) b f;
    }

none_by : (x : Option ℕ) → is_none x ≡ true → x ≡ None
none_by None e = refl
none_by (Some t) e = absurd (false≢true e)

pub sends_risen : (k : ℕ) (W : List ℕ) (H : ℕ → Type 0) (next base : ℕ) (ps : List (Option ℕ)) → Sends W H next base ps → Sends W H next (risen k base next ps) ps
unfolding risen
sends_risen zero W H next base ps p = p
sends_risen (suc k) W H next base ps p =
    cond_both (ltb base next && is_passed ps base) (risen k (stop (base + 1)) next ps) base (λ b. Sends W H next b ps)
    (λ e.
    let both = and_parts (ltb base next) (is_passed ps base) e in
    sends_risen k W H next (stop (base + 1)) ps
    (sends_up W H next base ps p (ltb-true base next both.0) (none_by (get_or ps (base % 8) None) both.1)))
    (λ _. p)

-- a record in which this holds is read as it is
pub sends_read : (W : List ℕ) (H : ℕ → Type 0) (next base : ℕ) (ps : List (Option ℕ)) → Sends W H next base ps → max base (min next (stop (base + 8))) ≡ next
sends_read W H next base ps p = omega arith
