-- The order of a binary heap, where f gives the rank of what stands at a position: the lowest rank stands at the top, position 0.
use Rattle.std.specs.Prelude.{◌≡◌, ℕ, ◌+◌, ◌-◌, ◌*◌, ◌/◌, ◌<◌, ◌≤◌, ◌≢◌}

-- none of the first n stands below one of a higher rank
abbrev pub Heap : (ℕ → ℕ) → ℕ → Type 0
Heap f n = (p i : ℕ) → p * 2 + 1 ≤ i → i ≤ p * 2 + 2 → i < n → f p ≤ f i

-- the same but for what stands at j: its rank may be too high or too low for its place
pub record Loose (f : ℕ → ℕ) (j n : ℕ) : Type 0 where
  pub rest : (p i : ℕ) → p * 2 + 1 ≤ i → i ≤ p * 2 + 2 → i < n → p ≢ j → i ≢ j → f p ≤ f i
  pub over : (p i : ℕ) → p * 2 + 1 ≤ j → j ≤ p * 2 + 2 → j * 2 + 1 ≤ i → i ≤ j * 2 + 2 → i < n → f p ≤ f i

-- the same but for what stands at j: its rank may be too high for its place
pub record Sunk (f : ℕ → ℕ) (j n : ℕ) : Type 0 where
  pub rest : (p i : ℕ) → p * 2 + 1 ≤ i → i ≤ p * 2 + 2 → i < n → p ≢ j → f p ≤ f i
  pub over : (p i : ℕ) → p * 2 + 1 ≤ j → j ≤ p * 2 + 2 → j * 2 + 1 ≤ i → i ≤ j * 2 + 2 → i < n → f p ≤ f i

-- what stands below j has no lower rank
abbrev pub Under : (ℕ → ℕ) → ℕ → ℕ → Type 0
Under f j n = (i : ℕ) → j * 2 + 1 ≤ i → i ≤ j * 2 + 2 → i < n → f j ≤ f i

-- c stands below j, and nothing there has a lower rank
pub record Least (f : ℕ → ℕ) (j n c : ℕ) : Type 0 where
  pub from : j * 2 + 1 ≤ c
  pub to : c ≤ j * 2 + 2
  pub inside : c < n
  pub least : (i : ℕ) → j * 2 + 1 ≤ i → i ≤ j * 2 + 2 → i < n → f c ≤ f i

-- c stands below j, has the lowest rank there, and a lower one than j
pub record Sooner (f : ℕ → ℕ) (j n c : ℕ) : Type 0 where
  pub least : Least f j n c
  pub lower : f c < f j

-- what stands above j has no higher rank
abbrev pub Settled : (ℕ → ℕ) → ℕ → Type 0
Settled f j = 0 < j → f ((j - 1) / 2) ≤ f j

-- p stands above j and has a higher rank
pub record Later (f : ℕ → ℕ) (j p : ℕ) : Type 0 where
  pub some : 0 < j
  pub parent : p ≡ (j - 1) / 2
  pub higher : f j < f p
