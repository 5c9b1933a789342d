-- An entry rises: over the ranks f before and g after a step.
use Rattle.std.proofs.Common.{◌≡◌, ℕ, zero, suc, ◌-◌, ◌/◌, ◌<◌, ◌≤◌, ◌≢◌, refl, ap, ◌∙◌, subst, ⊎_elim, arith}
use Rattle.std.proofs.lemmas.Bool.{cases_eq}
use Rattle.timer_heap.specs.Order.{Heap, Loose, Sunk, Under, Settled}

pub le : (a b x y : ℕ) → a ≡ x → b ≡ y → x ≤ y → a ≤ b
le a b x y e f h = omega arith

-- what stands at j and at the place above it, q, change places
module _ (f g : ℕ → ℕ) (q j n : ℕ) (up : 0 < j) (par : q ≡ (j - 1) / 2) (jn : j < n) (gq : g q ≡ f j) (gj : g j ≡ f q) (go : (i : ℕ) → i ≢ q → i ≢ j → g i ≡ f i) (less : f j < f q) (h : Loose f j n) where
  at : (i m : ℕ) → i ≡ m → g i ≡ g m
  at i m e = ap g e

  pub rise : Loose g q n
  rise =
      record {
        rest = λ p i a b c pq iq.
            ⊎_elim
            (λ (e : i ≡ j). absurd (pq (omega arith)))
            (λ (ij : i ≢ j).
            ⊎_elim
            (λ (e : p ≡ j). le _ _ (f q) (f i) (at p j e ∙ gj) (go i iq ij) (h.over q i (omega arith) (omega arith) (omega arith) (omega arith) c))
            (λ (pj : p ≢ j). le _ _ (f p) (f i) (go p pq pj) (go i iq ij) (h.rest p i a b c pj ij))
            (cases_eq p j))
            (cases_eq i j);
        over = λ p i a b c d e.
            let u : f p ≤ f q = h.rest p q a b (omega arith) (omega arith) (omega arith) in
            let s = go p (omega arith) (omega arith) in
            ⊎_elim
            (λ (z : i ≡ j). le _ _ (f p) (f q) s (at i j z ∙ gj) u)
            (λ (ij : i ≢ j). le _ _ (f p) (f i) s (go i (omega arith) ij) (omega (arith, h.rest q i c d e (omega arith) ij)))
            (cases_eq i j);
      }

  pub rise_under : Under g q n
  rise_under i c d e =
      ⊎_elim
      (λ (z : i ≡ j). le _ _ (f j) (f q) gq (at i j z ∙ gj) (omega arith))
      (λ (ij : i ≢ j). le _ _ (f j) (f i) gq (go i (omega arith) ij) (omega (arith, h.rest q i c d e (omega arith) ij)))
      (cases_eq i j)

module _ (f : ℕ → ℕ) (n : ℕ) where
  -- an entry that is not before the one above it rises no more
  pub rests : (j : ℕ) → Settled f j → Loose f j n → Sunk f j n
  rests j l h =
      record {
        rest = λ p i a b c pj.
            ⊎_elim
            (λ (e : i ≡ j). le _ _ (f ((j - 1) / 2)) (f j) (ap f (omega arith)) (ap f e) (l (omega arith)))
            (λ (ij : i ≢ j). h.rest p i a b c pj ij)
            (cases_eq i j);
        over = h.over;
      }

  pub heap_sunk : (j : ℕ) → Heap f n → Sunk f j n
  heap_sunk j h =
      record {
        rest = λ p i a b c _. h p i a b c;
        over = λ p i a b c d e. let u = h p j a b (omega arith) in let v = h j i c d e in omega arith;
      }

  -- where an entry that rose from s came to rest, at j
  pub risen : (s j : ℕ) → (j ≢ s → Under f j n) → Sunk f j n → Sunk f s n
  risen s j u h =
      ⊎_elim
      (λ (e : j ≡ s). subst (λ k. Sunk f k n) e h)
      (λ (ne : j ≢ s). heap_sunk s (λ p i a b c.
      ⊎_elim
      (λ (e : p ≡ j). le _ _ (f j) (f i) (ap f e) refl (u ne i (omega arith) (omega arith) c))
      (λ (pj : p ≢ j). h.rest p i a b c pj)
      (cases_eq p j)))
      (cases_eq j s)

  -- nothing has a lower rank than the top
  lowest : (fuel i : ℕ) → i < fuel → Heap f n → i < n → f 0 ≤ f i
  lowest zero i l h b = absurd (omega arith)
  lowest (suc m) i l h b =
      ⊎_elim
      (λ (e : i ≡ 0). le _ _ (f 0) (f 0) refl (ap f e) (omega arith))
      (λ (ne : i ≢ 0).
      let u = lowest m ((i - 1) / 2) (omega arith) h (omega arith) in
      let v = h ((i - 1) / 2) i (omega arith) (omega arith) b in
      omega arith)
      (cases_eq i 0)

  pub top_lowest : (i : ℕ) → Heap f n → i < n → f 0 ≤ f i
  top_lowest i h b = lowest (suc i) i (omega arith) h b
