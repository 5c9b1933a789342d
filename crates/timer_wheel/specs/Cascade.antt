-- The cascade of a hierarchical timing wheel as the literature words it (Varghese and Lauck, scheme 7), on the slots as lists.
use Rattle.std.specs.Prelude.{◌≡◌, ℕ, zero, suc, ◌+◌, ◌*◌, ◌%◌, ◌<◌, ◌≤◌, ◌≢◌, Bool, true, ◌&&◌, if◌then◌else◌, ◌==◌, List, [], ◌∷◌, ◌++◌}
use Rattle.std.specs.List.{filter, fold, All}
use Rattle.timer.specs.Meaning.{Entry}
use Rattle.timer_wheel.specs.Place.{digit, place_of, cascade_place_of}

-- the slots of a wheel at a tick: at each place the entries whose place it is, from the front
abbrev pub laid : {P : Type 0} → ℕ → List (Entry P) → ℕ → List (Entry P)
laid tick es p = filter (λ e. place_of tick e.deadline == p) es

-- an entry goes to the end of the slot of its place
abbrev pub placed_at : {P : Type 0} → ℕ → (ℕ → List (Entry P)) → Entry P → ℕ → List (Entry P)
placed_at tick slots e p = if place_of tick e.deadline == p then slots p ++ e ∷ [] else slots p

-- the slot at a place is emptied from its front, and each of its entries placed anew
abbrev pub emptied : {P : Type 0} → ℕ → ℕ → (ℕ → List (Entry P)) → ℕ → List (Entry P)
emptied tick place slots = fold (placed_at tick) (λ p. if p == place then [] else slots p) (slots place)

-- the digits 0 to k - 1 of t are zero
abbrev pub zeros : ℕ → ℕ → Bool
zeros zero t = true
zeros (suc k) t = zeros k t && (digit k t == 0)

-- as the tick becomes t, level k gives up the slot of t's digit k where all lower digits are zero
abbrev pub level_cascade : {P : Type 0} → ℕ → ℕ → (ℕ → List (Entry P)) → ℕ → List (Entry P)
level_cascade k t slots = if zeros k t then emptied t (64 * k + digit k t) slots else slots

-- each level does, the highest first
abbrev pub cascade : {P : Type 0} → ℕ → (ℕ → List (Entry P)) → ℕ → List (Entry P)
cascade t slots = level_cascade 1 t (level_cascade 2 t (level_cascade 3 t slots))

-- entries that are still to come at a tick
abbrev pub ToCome : {P : Type 0} → ℕ → List (Entry P) → Type 0
ToCome tick es = All (λ e. (tick < e.deadline) × (e.deadline ≤ 16777215)) es

-- the cascade as the next tick comes leaves each entry in the slot of its place there; where that tick's digit 0 is zero,
-- emptying the slot of `cascade_place_of` alone leaves the same, and where it is not, no entry has to move
pub record Cascades {P : Type 0} (tick : ℕ) (es : List (Entry P)) : Type 0 where
  pub levels : (p : ℕ) → cascade (tick + 1) (laid tick es) p ≡ laid (tick + 1) es p
  pub one_slot : (tick + 1) % 64 ≡ 0 → (p : ℕ) → emptied (tick + 1) (cascade_place_of (tick + 1)) (laid tick es) p ≡ laid (tick + 1) es p
  pub none : (tick + 1) % 64 ≢ 0 → (p : ℕ) → laid tick es p ≡ laid (tick + 1) es p

-- an entry with this ticket and deadline
abbrev entry : ℕ → ℕ → Entry ℕ
entry ticket deadline = record { ticket = ticket; deadline = deadline; owner = 0; payload = 0 }

-- at tick 4095 the deadlines 4096, 4100 and 4160 lie in the slot of place 129, on level 2: the cascade empties it,
-- and leaves the first two on level 0, at places 0 and 4, and the third on level 1, at place 65
abbrev waiting : List (Entry ℕ)
waiting = entry 1 4096 ∷ entry 2 4160 ∷ entry 3 4100 ∷ []

abbrev pub Examples : Type 0
Examples =
    (laid 4095 waiting 129 ≡ waiting)
    × (cascade 4096 (laid 4095 waiting) 129 ≡ [])
    × (cascade 4096 (laid 4095 waiting) 0 ≡ entry 1 4096 ∷ [])
    × (cascade 4096 (laid 4095 waiting) 4 ≡ entry 3 4100 ∷ [])
    × (cascade 4096 (laid 4095 waiting) 65 ≡ entry 2 4160 ∷ [])
