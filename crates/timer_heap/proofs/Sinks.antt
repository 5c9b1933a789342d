-- An entry sinks: over the ranks f before and g after a step.
use Rattle.std.proofs.Common.{◌≡◌, ℕ, ◌+◌, ◌<◌, ◌≤◌, ◌≢◌, refl, ap, ◌∙◌, ⊎_elim, arith}
use Rattle.std.proofs.lemmas.Bool.{cases_eq}
use Rattle.timer_heap.specs.Order.{Heap, Loose, Sunk, Under, Least}
use Rattle.timer_heap.proofs.Rises.{le}

-- what stands at j and the lowest below it, at c, change places
module _ (f g : ℕ → ℕ) (j c n : ℕ) (m : Least f j n c) (gj : g j ≡ f c) (gc : g c ≡ f j) (go : (i : ℕ) → i ≢ j → i ≢ c → g i ≡ f i) (less : f c < f j) (h : Sunk f j n) where
  at : (i k : ℕ) → i ≡ k → g i ≡ g k
  at i k e = ap g e

  pub sink : Sunk g c n
  sink =
      let from = m.from in
      let to = m.to in
      let inside = m.inside in
      record {
        rest = λ p i a b d pc.
            ⊎_elim
            (λ (e : p ≡ j).
            ⊎_elim
            (λ (z : i ≡ c). le _ _ (f c) (f j) (at p j e ∙ gj) (at i c z ∙ gc) (omega arith))
            (λ (ic : i ≢ c). le _ _ (f c) (f i) (at p j e ∙ gj) (go i (omega arith) ic) (m.least i (omega arith) (omega arith) d))
            (cases_eq i c))
            (λ (pj : p ≢ j).
            ⊎_elim
            (λ (z : i ≡ j). le _ _ (f p) (f c) (go p pj pc) (at i j z ∙ gj) (h.over p c (omega arith) (omega arith) from to inside))
            (λ (ij : i ≢ j). le _ _ (f p) (f i) (go p pj pc) (go i ij (omega arith)) (h.rest p i a b d pj))
            (cases_eq i j))
            (cases_eq p j);
        over = λ p i a b d e z.
            let pj : p ≡ j = omega arith in
            le _ _ (f c) (f i) (at p j pj ∙ gj) (go i (omega arith) (omega arith)) (h.rest c i d e z (omega arith));
      }

module _ (f : ℕ → ℕ) (j n : ℕ) where
  -- an entry that is not after those below it sinks no more
  pub settles : Under f j n → Sunk f j n → Heap f n
  settles u h p i a b d =
      ⊎_elim
      (λ (e : p ≡ j). le _ _ (f j) (f i) (ap f e) refl (u i (omega arith) (omega arith) d))
      (λ (pj : p ≢ j). h.rest p i a b d pj)
      (cases_eq p j)

  -- a place past the end cannot be wrong
  pub loose_past : n ≤ j → Loose f j n → Heap f n
  loose_past l h p i a b c = h.rest p i a b c (omega arith) (omega arith)

-- what stood at j is gone, and what stood last, at n, has come into its place
module _ (f g : ℕ → ℕ) (j n : ℕ) (go : (i : ℕ) → i < n → i ≢ j → g i ≡ f i) (h : Heap f (n + 1)) where
  pub moved_loose : Loose g j n
  moved_loose =
      record {
        rest = λ p i a b c pj ij. le _ _ (f p) (f i) (go p (omega arith) pj) (go i c ij) (h p i a b (omega arith));
        over = λ p i a b c d e.
            let u = h p j a b (omega arith) in
            let v = h j i c d (omega arith) in
            le _ _ (f p) (f i) (go p (omega arith) (omega arith)) (go i e (omega arith)) (omega arith);
      }

-- an entry has come to the end, at n
module _ (f g : ℕ → ℕ) (n : ℕ) (go : (i : ℕ) → i < n → g i ≡ f i) (h : Heap f n) where
  pub added_loose : Loose g n (n + 1)
  added_loose =
      record {
        rest = λ p i a b c pn im. le _ _ (f p) (f i) (go p (omega arith)) (go i (omega arith)) (h p i a b (omega arith));
        over = λ p i a b c d e. absurd (omega arith);
      }
