-- What a call of a store leaves as it is, beside what the store means.
use Rattle.std.specs.Prelude.{◌≡◌}
use Rattle.timer.specs.declared.store.Store.{Ghosts}

-- it works in the same loans, and what it was lent and does not use is as it was
pub record Framed {S P : Type 0} (store : Ghosts S P) (old new : S) : Type 0 where
  pub lenders : store.lenders new ≡ store.lenders old
  pub beyond : store.beyond new ≡ store.beyond old
