-- The laws, carried from call to call.
use Rattle.std.proofs.Common.{◌≡◌, ℕ, List, [], ◌∷◌, ◌++◌, sym, subst}
use Rattle.std.proofs.lemmas.List.{append-nil, append_assoc}
use Rattle.protocol.specs.State.{State}
use Rattle.protocol.specs.Rules.{Events, no_events, joined}
use Rattle.timers_law.specs.Ready.{Ready}
use Rattle.timers_law.specs.Timers.{Lawfuls}
use Rattle.timers_law.proofs.Ready.{begun_ready, rule_ready}
use Rattle.timers_law.proofs.Restarts.{ready_unrefused}
use Rattle.timers_law.proofs.Timers.{begun_lawful, rule_lawful}
use Rattle.words_law.specs.Words.{Follows}
use Rattle.words_law.proofs.Words.{Holds, begun_holds, rule_holds, holds_follows}
use Rattle.session.specs.declared.command.Call.{Call}
use Rattle.session.specs.declared.command.Call.TheVariants.{Operate, Ask}
use Rattle.session.specs.Run.{call_answer, call_after, call_events, notes_of, ends, events_of}
use Rattle.session.specs.Law.{call_sent, call_taken, call_granted, sent, taken, Granted, Laws}

-- ready
pub call_ready : (s : State) (c : Call) → Ready s → Ready (call_after s c)
call_ready s (Operate x) r = rule_ready s x r
call_ready s (Ask q) r = r

pub ends_ready : (cs : List Call) (s : State) → Ready s → Ready (ends s cs)
ends_ready [] s r = r
ends_ready (c ∷ cs) s r = ends_ready cs (call_after s c) (call_ready s c r)

-- restarts
granted_call : (s : State) (c : Call) → Ready s → call_granted c (call_answer s c)
granted_call s (Operate x) r = ready_unrefused s r x
granted_call s (Ask q) r = tt

granted : (cs : List Call) (s : State) → Ready s → Granted cs (notes_of s cs)
granted [] s r = tt
granted (c ∷ cs) s r = (granted_call s c r, granted cs (call_after s c) (call_ready s c r))

-- timers
nothing_more : (es : Events) → joined es no_events ≡ es
nothing_more es = simp append-nil

in_turn : (d e f : Events) → joined (joined d e) f ≡ joined d (joined e f)
in_turn d e f = simp append_assoc

lawful_call : (s : State) (es : Events) (c : Call) → Lawfuls s es → Lawfuls (call_after s c) (joined es (call_events s c))
lawful_call s es (Operate x) l = rule_lawful s es x l
lawful_call s es (Ask q) l = subst (λ (e : Events). Lawfuls s e) (sym (nothing_more es)) l

lawful : (cs : List Call) (s : State) (es : Events) → Lawfuls s es → Lawfuls (ends s cs) (joined es (events_of s cs))
lawful [] s es l = subst (λ (e : Events). Lawfuls s e) (sym (nothing_more es)) l
lawful (c ∷ cs) s es l =
    subst (λ (e : Events). Lawfuls (ends s (c ∷ cs)) e) (in_turn es (call_events s c) (events_of (call_after s c) cs))
    (lawful cs (call_after s c) (joined es (call_events s c)) (lawful_call s es c l))

-- words
holds_call : (k : ℕ) (W T : List ℕ) (s : State) (c : Call) → Holds k W T s → Holds k (W ++ call_sent k c (call_answer s c)) (T ++ call_taken k c (call_answer s c)) (call_after s c)
holds_call k W T s (Operate x) h = rule_holds k W T s h x
holds_call k W T s (Ask q) h = rw (append-nil W, append-nil T) h

follows : (cs : List Call) (k : ℕ) (W T : List ℕ) (s : State) → Holds k W T s → Follows (T ++ taken k cs (notes_of s cs)) (W ++ sent k cs (notes_of s cs))
follows [] k W T s h = rw (append-nil W, append-nil T) (holds_follows k W T s h)
follows (c ∷ cs) k W T s h =
    let t : State = call_after s c in
    let a = call_answer s c in
    rw (← append_assoc W (call_sent k c a) (sent k cs (notes_of t cs)), ← append_assoc T (call_taken k c a) (taken k cs (notes_of t cs)))
    (follows cs k (W ++ call_sent k c a) (T ++ call_taken k c a) t (holds_call k W T s c h))

pub laws : Laws
laws s b cs =
    record {
      timers = lawful cs s no_events (begun_lawful s b);
      words = λ k. follows cs k [] [] s (begun_holds s k b);
      restarts = granted cs s (begun_ready s b);
    }
