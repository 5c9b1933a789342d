-- What a timer store means, whatever it is made of.
use Rattle.std.specs.Prelude.{◌≡◌, ℕ, ◌<◌, ◌≤◌, List, [], ◌∷◌, length}
use Rattle.std.specs.List.{AllByRecursion}

pub record Entry (P : Type 0) : Type 0 where
  pub ticket : ℕ
  pub deadline : ℕ
  pub owner : ℕ
  pub payload : P

-- `limits` has the limit of each owner from 0 to 63; `given` is the number of tickets given; `pending` stands in the order of the tickets
pub record Meaning (P : Type 0) : Type 0 where
  pub now : ℕ
  pub last : ℕ
  pub capacity : ℕ
  pub limits : List ℕ
  pub given : ℕ
  pub pending : List (Entry P)

-- each ticket is below those after it
abbrev pub Rising : {P : Type 0} → List (Entry P) → Type 0
Rising [] = Unit {0}
Rising (e ∷ es) = AllByRecursion (λ f. e.ticket < f.ticket) es × Rising es

-- what holds of every store at any time
pub record Sound {P : Type 0} (m : Meaning P) : Type 0 where
  pub clock : m.now ≤ m.last
  -- a tick has 32 bits
  pub fits : m.last ≤ 4294967295
  pub limited : length m.limits ≡ 64
  pub rising : Rising m.pending
