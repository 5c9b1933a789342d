-- Calls one after the other leave as it is what each of them does.
use Rattle.std.proofs.Common.{refl, ◌∙◌}
use Rattle.timer.specs.declared.store.Store.{Ghosts}
use Rattle.timer.specs.Frame.{Framed}

pub framed_still : {S P : Type 0} (store : Ghosts S P) (a : S) → Framed store a a
framed_still store a = record { lenders = refl; beyond = refl }

pub framed_on : {S P : Type 0} (store : Ghosts S P) (a b c : S) → Framed store a b → Framed store b c → Framed store a c
framed_on store a b c f g = record { lenders = g.lenders ∙ f.lenders; beyond = g.beyond ∙ f.beyond }
