-- The draft of the session.
use Rattle.std.specs.Prelude.{ℕ, List, slice_set}

-- the list of fates with the session's two in front
abbrev pub with_fates : List ℕ → List ℕ
with_fates fates = slice_set (slice_set fates 0 10) 1 0
