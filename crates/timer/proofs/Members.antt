-- What stands in a list that grows at its end.
use Rattle.std.proofs.Common.{◌≡◌, ℕ, ◌+◌, ◌⊎◌, List, [], ◌∷◌, ◌++◌, refl, inl, inr, arith}
use Rattle.std.proofs.lemmas.Bool.Decides.{nat_tests}
use Rattle.timer.specs.Meaning.{Entry}
use Rattle.timer.specs.Rules.{Event, Started, Stopped, Fired}
use Rattle.timer.specs.History.{In, Before, times_pending, times_stopped, times_fired}

-- what `cc` shows where two constructors would be equal
pub never : {X : Type 0} → ◌≡◌ {A = ℕ} 0 1 → X
never z = absurd (omega arith)

pub in_left : {X : Type 0} (x : X) (xs ys : List X) → In x xs → In x (xs ++ ys)
in_left x [] ys h = absurd h
in_left x (z ∷ xs) ys h = elim h [ inl e ↦ inl e | inr i ↦ inr (in_left x xs ys i) ]

pub in_last : {X : Type 0} (x : X) (xs : List X) → In x (xs ++ x ∷ [])
in_last x [] = inl refl
in_last x (z ∷ xs) = inr (in_last x xs)

-- what stands in a list with one more at its end stood there before, or is that one
pub in_push : {X : Type 0} (x y : X) (xs : List X) → In x (xs ++ y ∷ []) → In x xs ⊎ (y ≡ x)
in_push x y [] h = elim h [ inl e ↦ inr e | inr i ↦ absurd i ]
in_push x y (z ∷ xs) h =
    elim h [
      | inl e ↦ inl (inl e)
      | inr i ↦ elim (in_push x y xs i) [ inl j ↦ inl (inr j) | inr e ↦ inr e ]
    ]

-- likewise of two in their order
pub before_push : {X : Type 0} (x y z : X) (xs : List X) → Before x y (xs ++ z ∷ []) → Before x y xs ⊎ (In x xs × (z ≡ y))
before_push x y z [] h = elim h [ inl p ↦ absurd p.1 | inr i ↦ absurd i ]
before_push x y z (w ∷ xs) h =
    elim h [
      | inl p ↦ elim (in_push y z xs p.1) [ inl j ↦ inl (inl (p.0, j)) | inr e ↦ inr (inl p.0, e) ]
      | inr b ↦ elim (before_push x y z xs b) [ inl j ↦ inl (inr j) | inr q ↦ inr (inr q.0, q.1) ]
    ]

pub pending_push : {P : Type 0} (t : ℕ) (es : List (Entry P)) (e : Entry P) → times_pending t (es ++ e ∷ []) ≡ times_pending t es + times_pending t (e ∷ [])
pending_push t [] e = grind (arith, nat_tests)
pending_push t (x ∷ es) e = let h = pending_push t es e in grind (arith, nat_tests)

pub stopped_push : (t : ℕ) (es : List Event) (e : Event) → times_stopped t (es ++ e ∷ []) ≡ times_stopped t es + times_stopped t (e ∷ [])
stopped_push t [] e = omega arith
stopped_push t (Started u d ∷ es) e = stopped_push t es e
stopped_push t (Stopped u ∷ es) e = let h = stopped_push t es e in grind (arith, nat_tests)
stopped_push t (Fired u k ∷ es) e = stopped_push t es e

pub fired_push : (t : ℕ) (es : List Event) (e : Event) → times_fired t (es ++ e ∷ []) ≡ times_fired t es + times_fired t (e ∷ [])
fired_push t [] e = omega arith
fired_push t (Started u d ∷ es) e = fired_push t es e
fired_push t (Stopped u ∷ es) e = fired_push t es e
fired_push t (Fired u k ∷ es) e = let h = fired_push t es e in grind (arith, nat_tests)
