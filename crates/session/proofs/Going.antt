-- Calls made one after the other.
use Rattle.std.proofs.Common.{◌≡◌, ℕ, Bool, true, false, List, [], ◌∷◌, ◌++◌, sym, refl, ap, ◌∙◌, arith}
use Rattle.std.proofs.lemmas.List.{append-nil, append_assoc}
use Rattle.protocol.specs.State.{State}
use Rattle.session.specs.declared.command.Call.{Call}
use Rattle.session.specs.declared.answer.Note.{Note}
use Rattle.session.specs.Run.{call_after, note_of, notes_of, ends}
use Rattle.session.specs.Progress.{Progress, Went, Underway}

pub ends_append : (xs ys : List Call) (s : State) → ends s (xs ++ ys) ≡ ends (ends s xs) ys
ends_append [] ys s = refl
ends_append (x ∷ xs) ys s = ends_append xs ys (call_after s x)

pub notes_append : (xs ys : List Call) (s : State) → notes_of s (xs ++ ys) ≡ notes_of s xs ++ notes_of (ends s xs) ys
notes_append [] ys s = refl
notes_append (x ∷ xs) ys s = ap (λ (ns : List Note). note_of s x ∷ ns) (notes_append xs ys (call_after s x))

pub progress_none : (s : State) (ns : List Note) → Progress s ns [] s ns
progress_none s ns = record { reached = refl; noted = sym (append-nil ns) }

pub progress_one : (s : State) (ns : List Note) (c : Call) (t : State) (ms : List Note) → t ≡ call_after s c → ms ≡ ns ++ note_of s c ∷ [] → Progress s ns (c ∷ []) t ms
progress_one s ns c t ms e f = record { reached = e; noted = f }

pub progress_then : (s : State) (ns : List Note) (xs : List Call) (t : State) (ms : List Note) (ys : List Call) (u : State) (ls : List Note) → Progress s ns xs t ms → Progress t ms ys u ls → Progress s ns (xs ++ ys) u ls
progress_then s ns xs t ms ys u ls p q =
    record {
      reached = q.reached ∙ ap (λ (z : State). ends z ys) p.reached ∙ sym (ends_append xs ys s);
      noted =
          q.noted
          ∙ ap (λ (z : List Note). z ++ notes_of t ys) p.noted
          ∙ append_assoc ns (notes_of s xs) (notes_of t ys)
          ∙ ap (λ (z : State). ns ++ (notes_of s xs ++ notes_of z ys)) p.reached
          ∙ ap (λ (z : List Note). ns ++ z) (sym (notes_append xs ys s));
    }

-- some of the calls were made, and then some of the others
pub went_then : (s : State) (ns : List Note) (calls xs ys : List Call) (t : State) (ms : List Note) (well : Bool) (u : State) (ls : List Note) → calls ≡ xs ++ ys → Progress s ns xs t ms → Went t ms ys well u ls → Went s ns calls well u ls
went_then s ns calls xs ys t ms well u ls e p w =
    record {
      done = xs ++ w.done;
      left = w.left;
      whole = e ∙ ap (λ (z : List Call). xs ++ z) w.whole ∙ sym (append_assoc xs w.done w.left);
      progress = progress_then s ns xs t ms w.done u ls p w.progress;
      all = w.all;
    }

-- all of them were made
pub went_all : (s : State) (ns : List Note) (calls : List Call) (well : Bool) (t : State) (ms : List Note) → Progress s ns calls t ms → Went s ns calls well t ms
went_all s ns calls well t ms p =
    record { done = calls; left = []; whole = sym (append-nil calls); progress = p; all = λ _. refl }

pub never : ◌≡◌ {A = Bool} false true → ⊥
never e = let z : ◌≡◌ {A = ℕ} 0 1 = cc in omega arith

pub underway_none : (s : State) (ns : List Note) (calls : List Call) → Underway s ns calls calls s ns
underway_none s ns calls = record { done = []; whole = refl; progress = progress_none s ns }

-- what was left was done, or some of it
pub underway_went : (s : State) (ns : List Note) (calls left : List Call) (t : State) (ms : List Note) (well : Bool) (u : State) (ls : List Note) → Underway s ns calls left t ms → Went t ms left well u ls → Went s ns calls well u ls
underway_went s ns calls left t ms well u ls p w = went_then s ns calls p.done left t ms well u ls p.whole p.progress w

-- the next of those left were done
pub underway_more : (s : State) (ns : List Note) (calls left xs rest : List Call) (t : State) (ms : List Note) (u : State) (ls : List Note) → Underway s ns calls left t ms → left ≡ xs ++ rest → Progress t ms xs u ls → Underway s ns calls rest u ls
underway_more s ns calls left xs rest t ms u ls p e q =
    record {
      done = p.done ++ xs;
      whole = p.whole ∙ ap (λ (z : List Call). p.done ++ z) e ∙ sym (append_assoc p.done xs rest);
      progress = progress_then s ns p.done t ms xs u ls p.progress q;
    }
