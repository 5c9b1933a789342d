-- What it means that text is written into a buffer.
use Rattle.std.specs.Prelude.{◌≡◌, ℕ, ◌<◌, ◌≤◌, List, length, take, drop, Ok, Err, Result}
use Rattle.trace.specs.declared.fault.RigFault.{RigFault}
use Rattle.trace.specs.declared.fault.RigFault.TheVariants.{Buffer}

-- a buffer xs of at least 80 bytes becomes ys: its first n bytes, at most 80, are the text bs, and the others are as they were
pub record Written (xs bs : List ℕ) (n : ℕ) (ys : List ℕ) : Type 0 where
  pub room : 80 ≤ length xs
  pub within : n ≤ 80
  pub size : n ≡ length bs
  pub front : take n ys ≡ bs
  pub rest : drop n ys ≡ drop n xs

-- what the line writer answers: a buffer under 80 bytes is refused and stays as it was
abbrev pub Wrote : List ℕ → List ℕ → Result ℕ RigFault → List ℕ → Type 0
Wrote xs bs (Ok n) ys = Written xs bs n ys
Wrote xs bs (Err f) ys = (f ≡ Buffer) × (length xs < 80) × (ys ≡ xs)
