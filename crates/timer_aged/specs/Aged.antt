-- What an aged store means: the store below, with each of its tickets raised.
use Rattle.std.specs.Prelude.{ℕ, ◌+◌, ◌-◌, ◌==◌, if◌then◌else◌, min, ◌<◌, ◌≤◌, List, [], ◌∷◌, length, map}
use Rattle.std.specs.List.{AllByRecursion}
use Rattle.std.proofs.Common.{arith}
use Rattle.timer.specs.History.{In}
use Rattle.timer.specs.Meaning.{Entry, Meaning, Rising, Sound}

-- the same entry with its ticket raised
abbrev pub raised : {P : Type 0} → ℕ → Entry P → Entry P
raised shift e =
    record { ticket = e.ticket + shift; deadline = e.deadline; owner = e.owner; payload = e.payload }

-- the same store with so many more tickets given before
abbrev pub aged : {P : Type 0} → Meaning P → ℕ → Meaning P
aged m shift =
    record {
      now = m.now;
      last = m.last;
      capacity = m.capacity;
      limits = m.limits;
      given = m.given + shift;
      pending = map (raised shift) m.pending;
    }

-- by how many tickets a store is aged: by those that are asked for, or that are left, while nothing is pending
abbrev pub shift_rule : {P : Type 0} → Meaning P → ℕ → ℕ
shift_rule m shift = if length m.pending == 0 then min shift (4294967295 - m.given) else 0

-- every ticket that is raised fits 32 bits
pub record Numbered {P : Type 0} (m : Meaning P) (shift : ℕ) : Type 0 where
  pub given : m.given + shift ≤ 4294967295
  pub pending : 0 < shift → (e : Entry P) → In e m.pending → e.ticket + shift ≤ 4294967295

-- entries that are raised alike stay in their order
above_raised : {P : Type 0} (t shift : ℕ) (es : List (Entry P)) → AllByRecursion (λ f. t < f.ticket) es → AllByRecursion (λ f. t + shift < f.ticket) (map (raised shift) es)
above_raised t shift [] a = tt
above_raised t shift (e ∷ es) a = (omega (arith, a.0), above_raised t shift es a.1)

rising_raised : {P : Type 0} (shift : ℕ) (es : List (Entry P)) → Rising es → Rising (map (raised shift) es)
rising_raised shift [] r = tt
rising_raised shift (e ∷ es) r = (above_raised e.ticket shift es r.0, rising_raised shift es r.1)

pub aged_sound : {P : Type 0} (m : Meaning P) (shift : ℕ) → Sound m → Sound (aged m shift)
aged_sound m shift s =
    record { clock = s.clock; fits = s.fits; limited = s.limited; rising = rising_raised shift m.pending s.rising }
