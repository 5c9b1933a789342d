-- What is taken from a channel is what was sent on it: by induction over the calls.
use Rattle.std.proofs.Common.{◌≡◌, ℕ, ◌+◌, ◌<◌, ◌≤◌, List, [], ◌∷◌, ◌++◌, length, Option, get_or, drop, sym, refl, ap, ◌∙◌, subst, inl, inr, arith}
use Rattle.std.proofs.lemmas.List.{append-nil, append_assoc, take-append-drop, length-take-le, get_or_past, get_or-replicate}
use Rattle.std.proofs.lemmas.Bool.{cases_lt}
use Rattle.channel.specs.declared.record.Channel.{Channel}
use Rattle.channel.specs.declared.record.Status.{Status}
use Rattle.channel.specs.declared.record.Status.TheVariants as status
use Rattle.channel.specs.Record.{unused}
use Rattle.protocol.specs.declared.operation.Operation.{Operation}
use Rattle.protocol.specs.declared.operation.Operation.TheVariants.{Open, Send, Take, Close, Step}
use Rattle.protocol.specs.State.{State, blank, fresh_table}
use Rattle.protocol.specs.Begin.{Begun}
use Rattle.protocol.specs.Rules.{rule, answers_of}
use Rattle.words_law.specs.Words.{Follows, Words, sent, taken, sent_by, taken_by}
use Rattle.words_law.proofs.Receiving.{Arrived}
use Rattle.words_law.proofs.Records.{Live}
use Rattle.words_law.proofs.Invariant.{By}
pub use Rattle.words_law.proofs.Invariant.{Holds}
use Rattle.words_law.proofs.Calls.{open_keeps, send_keeps, take_keeps, close_keeps, step_keeps}

-- where a session begins
unused_at : (k : ℕ) → (get_or fresh_table k blank).status ≡ status.Unused
unused_at k = elim (cases_lt k 64) [
  | inl l ↦ ap (λ (r : Channel). r.status) (get_or-replicate 64 k unused blank l)
  | inr l ↦ ap (λ (r : Channel). r.status) (get_or_past fresh_table k blank l)
]

pub begun_holds : (s : State) (c : ℕ) → Begun s → Holds c [] [] s
begun_holds s c b =
    record {
      size = ap length b.table;
      channel = λ k _.
          subst (λ (x : Status). By x [] [] (Live [] [] (get_or s.table k blank)))
          (sym (ap (λ (t : List Channel). (get_or t k blank).status) b.table ∙ unused_at k)) (refl, refl);
      wire = rw b.wire.empty tt;
      resend = rw b.resend.empty tt;
    }

-- one call
pub rule_holds : (c : ℕ) (W T : List ℕ) (s : State) → Holds c W T s → (x : Operation) →
    Holds c (W ++ sent_by c x (rule s x).answer) (T ++ taken_by c x (rule s x).answer) (rule s x).after
rule_holds c W T s i (Open k) = open_keeps c W T s i k
rule_holds c W T s i (Send k w) = send_keeps c W T s i k w
rule_holds c W T s i (Take k) = take_keeps c W T s i k
rule_holds c W T s i (Close k) = close_keeps c W T s i k
rule_holds c W T s i Step = step_keeps c W T s i

-- the base is no more than the receiver's window past what was taken
near_base : (t : ℕ) (ps : List (Option ℕ)) (base : ℕ) → ((n : ℕ) → n < base → Arrived t ps n) → base ≤ t + 8
near_base t ps base f = elim (cases_lt (t + 8) base) [
  | inl l ↦ elim (f (t + 8) l) [ inl q ↦ omega arith | inr q ↦ omega (arith, q.0) ]
  | inr l ↦ l
]

live_follows : (W T : List ℕ) (r : Channel) → Live W T r → Follows T W
live_follows W T r l =
    let e : length T ≡ r.taken = ap length l.receives.took ∙ length-take-le r.taken W l.receives.fits in
    record {
      front = (
        drop r.taken W,
        sym (take-append-drop r.taken W) ∙ ap (λ (x : List ℕ). x ++ drop r.taken W) (sym l.receives.took),
      );
      near = omega (arith, e, near_base r.taken r.receiving r.base l.sends.below, l.sends.all, l.sends.high);
    }

by_follows : (x : Status) (W T : List ℕ) (r : Channel) → By x W T (Live W T r) → Follows T W
by_follows status.Unused W T r h = record { front = (W, rw h.1 refl); near = omega (arith, ap length h.0) }
by_follows status.Open W T r h = live_follows W T r h
by_follows status.Closed W T r h = live_follows W T r h

pub holds_follows : (c : ℕ) (W T : List ℕ) (s : State) → Holds c W T s → Follows T W
holds_follows c W T s i =
    let r : Channel = get_or s.table c blank in
    by_follows r.status W T r (i.channel c refl)

run : (ops : List Operation) (s : State) (c : ℕ) (W T : List ℕ) → Holds c W T s →
    Follows (T ++ taken c ops (answers_of s ops)) (W ++ sent c ops (answers_of s ops))
run [] s c W T i = rw (append-nil W, append-nil T) (holds_follows c W T s i)
run (x ∷ ops) s c W T i =
    let a = (rule s x).answer in
    let t = (rule s x).after in
    rw (← append_assoc W (sent_by c x a) (sent c ops (answers_of t ops)), ← append_assoc T (taken_by c x a) (taken c ops (answers_of t ops)))
    (run ops t c (W ++ sent_by c x a) (T ++ taken_by c x a) (rule_holds c W T s i x))

pub words : Words
words s b ops c = run ops s c [] [] (begun_holds s c b)
