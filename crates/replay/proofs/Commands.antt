-- Commands played one after the other.
use Rattle.std.proofs.Common.{◌≡◌, ℕ, ◌+◌, ◌<◌, ◌≤◌, Bool, true, false, List, [], ◌∷◌, ◌++◌, length, get_or, drop, is_ok, is_err, Ok, Err, Result, sym, refl, ap, ◌∙◌, subst}
use Rattle.std.proofs.lemmas.List.{append-nil, append_assoc, at_drop_more, at_drop_all}
use Rattle.protocol.specs.State.{State}
use Rattle.session.specs.declared.command.Call.{Call}
use Rattle.session.specs.declared.command.Command.{Command}
use Rattle.session.specs.declared.answer.Note.{Note}
use Rattle.session.specs.Run.{call_after, note_of, ends, unfold_one, calls_of}
use Rattle.session.specs.Progress.{Progress, Went, Underway}
use Rattle.session.proofs.Going.{never, progress_none, progress_one, went_all, underway_went, underway_more}

-- one call was made and noted
pub call_made : (s : State) (ns : List Note) (c : Call) (well : Bool) (t : State) (ms : List Note) → t ≡ call_after s c → ms ≡ ns ++ note_of s c ∷ [] → Went s ns (c ∷ []) well t ms
call_made s ns c well t ms e f = went_all s ns (c ∷ []) well t ms (progress_one s ns c t ms e f)

-- an error is no success
pub not_well : {A E : Type 0} (r : Result A E) → is_err r ≡ true → is_ok r ≡ false
not_well (Ok x) e = absurd (never e)
not_well (Err e) h = refl

-- nothing was done, for want of memory
pub nothing_made : (s : State) (ns : List Note) (calls : List Call) (t : State) (ms : List Note) → t ≡ s → ms ≡ ns → Went s ns calls false t ms
nothing_made s ns calls t ms e f =
    record {
      done = [];
      left = calls;
      whole = refl;
      progress = record { reached = e; noted = f ∙ sym (append-nil ns) };
      all = λ o. absurd (never o);
    }

-- all of the calls were made
pub all_made : (s : State) (ns : List Note) (calls : List Call) (t : State) (ms : List Note) → Went s ns calls true t ms → Progress s ns calls t ms
all_made s ns calls t ms w =
    subst (λ (cs : List Call). Progress s ns cs t ms)
    (sym (w.whole ∙ ap (λ (z : List Call). w.done ++ z) (w.all refl) ∙ append-nil w.done)) w.progress

module _ (s : State) (ns : List Note) (xs : List Command) (i : ℕ) (x : Command) (t : State) (ms : List Note) (u : State) (ls : List Note) (way : Underway s ns (calls_of s xs) (calls_of t (drop i xs)) t ms) (l : i < length xs) where
  next : calls_of t (drop i xs) ≡ unfold_one t (get_or xs i x) ++ calls_of (ends t (unfold_one t (get_or xs i x))) (drop (i + 1) xs)
  next = at_drop_more (calls_of t) xs i x l

  -- one command more was played
  pub command_played : Went t ms (unfold_one t (get_or xs i x)) true u ls → Underway s ns (calls_of s xs) (calls_of u (drop (i + 1) xs)) u ls
  command_played w =
      let p : Progress t ms (unfold_one t (get_or xs i x)) u ls = all_made t ms (unfold_one t (get_or xs i x)) u ls w in
      underway_more s ns (calls_of s xs) (calls_of t (drop i xs)) (unfold_one t (get_or xs i x)) (calls_of u (drop (i + 1) xs)) t ms u ls way
      (next ∙ ap (λ (z : State). unfold_one t (get_or xs i x) ++ calls_of z (drop (i + 1) xs)) (sym p.reached)) p

  -- memory ran out within a command
  pub command_broken : Went t ms (unfold_one t (get_or xs i x)) false u ls → Went s ns (calls_of s xs) false u ls
  command_broken w =
      let rest : List Call = calls_of (ends t (unfold_one t (get_or xs i x))) (drop (i + 1) xs) in
      underway_went s ns (calls_of s xs) (calls_of t (drop i xs)) t ms false u ls way
      (record {
        done = w.done;
        left = w.left ++ rest;
        whole = next ∙ ap (λ (z : List Call). z ++ rest) w.whole ∙ append_assoc w.done w.left rest;
        progress = w.progress;
        all = λ o. absurd (never o);
      })

-- all commands were played
pub all_played : (s : State) (ns : List Note) (xs : List Command) (i : ℕ) (t : State) (ms : List Note) → Underway s ns (calls_of s xs) (calls_of t (drop i xs)) t ms → length xs ≤ i → Went s ns (calls_of s xs) true t ms
all_played s ns xs i t ms way l =
    underway_went s ns (calls_of s xs) (calls_of t (drop i xs)) t ms true t ms way
    (went_all t ms (calls_of t (drop i xs)) true t ms
    (subst (λ (cs : List Call). Progress t ms cs t ms) (sym (at_drop_all (calls_of t) xs i l)) (progress_none t ms)))
