-- Where an entry lies on a wheel of four levels of 64 slots.
-- A tick is a number of four digits in base 64, digit 0 the lowest.
use Rattle.std.specs.Prelude.{◌≡◌, ℕ, ◌+◌, ◌*◌, ◌/◌, ◌%◌, ◌^◌, ◌<◌, ◌≢◌, Bool, if◌then◌else◌, ◌==◌}

abbrev pub digit : ℕ → ℕ → ℕ
digit k t = t / 64 ^ k % 64

-- k is the highest digit in which a and b differ: every digit above is equal, this one is not; where a and b are equal, k is 0
pub record Highest (k a b : ℕ) : Type 0 where
  pub above : (j : ℕ) → k < j → digit j a ≡ digit j b
  pub here : a ≢ b → digit k a ≢ digit k b
  pub nowhere : a ≡ b → k ≡ 0

-- a and b agree in digit k and in all above it
abbrev pub alike : ℕ → ℕ → ℕ → Bool
alike k a b = a / 64 ^ k == b / 64 ^ k

-- the level of an entry is that of the topmost digit where deadline and tick disagree, and 0 where none does:
-- the deadline 100, in digits 1 36, lies on level 1 at tick 0, and on level 0 at tick 64, in digits 1 0;
-- the deadline 64 lies on level 1 at tick 63, and the deadline 4096 on level 2 at tick 4095
abbrev pub level : ℕ → ℕ → ℕ
level tick deadline = if alike 1 tick deadline then 0 else (if alike 2 tick deadline then 1 else (if alike 3 tick deadline then 2 else 3))

-- and in the slot of that digit of its deadline: of these in slots 1, 36, 1 and 1
abbrev pub slot : ℕ → ℕ → ℕ
slot tick deadline = digit (level tick deadline) deadline

-- the slots numbered through, level by level: the deadline 100 has the place 64 * 1 + 1 at tick 0
abbrev pub place : ℕ → ℕ → ℕ
place tick deadline = 64 * level tick deadline + slot tick deadline

-- the highest level k such that the digits 0 to k - 1 of t are zero: of 4096, in digits 1 0 0, level 2
abbrev pub cascade_level : ℕ → ℕ
cascade_level t = if t % 64 == 0 then (if t % 4096 == 0 then (if t % 262144 == 0 then 3 else 2) else 1) else 0

-- the place of t's own digit on that level, whose slot is emptied as the tick becomes t: all slots of the lower levels are empty then
abbrev pub cascade_place : ℕ → ℕ
cascade_place t = 64 * cascade_level t + digit (cascade_level t) t

-- the same, folded: what is stated of rows names these
unfoldable pub place_of : ℕ → ℕ → ℕ
place_of tick deadline = place tick deadline

unfoldable pub cascade_level_of : ℕ → ℕ
cascade_level_of t = cascade_level t

unfoldable pub cascade_place_of : ℕ → ℕ
cascade_place_of t = cascade_place t

-- the examples above
abbrev pub Examples : Type 0
Examples =
    ((level 0 100 ≡ 1) × (slot 0 100 ≡ 1))
    × ((level 64 100 ≡ 0) × (slot 64 100 ≡ 36))
    × ((level 63 64 ≡ 1) × (slot 63 64 ≡ 1))
    × ((level 4095 4096 ≡ 2) × (slot 4095 4096 ≡ 1))
    × (place 0 100 ≡ 65)
    × (place 4095 4096 ≡ 129)
    × (cascade_level 4096 ≡ 2)
    × (cascade_place 4096 ≡ 129)

-- in digits 0 0 and 1 36 differ in both; 1 0 and 1 36 in the lower; 0 63 63 and 1 0 0 in all; and 1 36 and 1 36 in none
abbrev pub HighestExamples : Type 0
HighestExamples = Highest 1 0 100 × Highest 0 64 100 × Highest 2 4095 4096 × Highest 0 100 100
