-- What a quota means: the store below, with each owner's limit cut to its number.
use Rattle.std.specs.Prelude.{◌≡◌, ℕ, suc, min, List, [], ◌∷◌, length, refl}
use Rattle.std.proofs.Common.{ap, ◌∙◌}
use Rattle.timer.specs.Meaning.{Meaning, Sound}

-- the smaller of each limit and its number
abbrev pub cut : List ℕ → List ℕ → List ℕ
cut [] ns = []
cut (x ∷ xs) [] = 0 ∷ cut xs []
cut (x ∷ xs) (n ∷ ns) = min x n ∷ cut xs ns

abbrev pub limited : {P : Type 0} → Meaning P → List ℕ → Meaning P
limited m ns =
    record {
      now = m.now;
      last = m.last;
      capacity = m.capacity;
      limits = cut m.limits ns;
      given = m.given;
      pending = m.pending;
    }

length_cut : (xs ns : List ℕ) → length (cut xs ns) ≡ length xs
length_cut [] ns = refl
length_cut (x ∷ xs) [] = ap suc (length_cut xs [])
length_cut (x ∷ xs) (n ∷ ns) = ap suc (length_cut xs ns)

pub limited_sound : {P : Type 0} (m : Meaning P) (ns : List ℕ) → Sound m → Sound (limited m ns)
limited_sound m ns s =
    record { clock = s.clock; fits = s.fits; limited = length_cut m.limits ns ∙ s.limited; rising = s.rising }
