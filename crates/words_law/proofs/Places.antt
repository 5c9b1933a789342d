-- The eight places of a window: the place of a number is its remainder by 8.
use Rattle.std.proofs.Common.{◌≡◌, ℕ, ◌+◌, ◌%◌, ◌<◌, ◌≤◌, List, length, get_or, set, arith}
use Rattle.std.proofs.lemmas.List.{get_or-set_same, get_or-set_other}

apart : (b m n : ℕ) → b ≤ m → m < b + 8 → b ≤ n → n < b + 8 → (m ≡ n → ⊥) → m % 8 ≡ n % 8 → ⊥
apart b m n p q u v d e = d (omega arith)

pub here : {X : Type 0} (ps : List X) (n : ℕ) (x d : X) → length ps ≡ 8 → get_or (set ps (n % 8) x) (n % 8) d ≡ x
here ps n x d h =
    let l : n % 8 < length ps = omega arith in
    get_or-set_same ps (n % 8) x d l

-- two numbers of one window have two places
pub there : {X : Type 0} (ps : List X) (b m n : ℕ) (x d : X) → b ≤ m → m < b + 8 → b ≤ n → n < b + 8 → (m ≡ n → ⊥) → get_or (set ps (n % 8) x) (m % 8) d ≡ get_or ps (m % 8) d
there ps b m n x d p q u v e = get_or-set_other ps (n % 8) (m % 8) x d (apart b m n p q u v e)
