-- Each call keeps the laws of a history, so every list of calls does.
use Rattle.std.proofs.Common.{◌≡◌, ℕ, ◌+◌, ◌<◌, ◌≤◌, false, eqb, List, [], ◌∷◌, ◌++◌, is_some, Some, None, Option, Result, sym, refl, ap, ◌∙◌, subst, inl, inr, append_assoc, arith}
use Rattle.std.proofs.lemmas.List.{append-nil}
use Rattle.std.proofs.lemmas.Bool.{cases_lt, cond_both}
use Rattle.std.proofs.lemmas.Bool.Decides.{nat_tests}
use Rattle.timer.specs.declared.call.Call.{Call}
use Rattle.timer.specs.declared.call.Call.TheVariants.{Start, Stop, Take, Advance}
use Rattle.timer.specs.declared.fault.TimerFault.{TimerFault}
use Rattle.timer.specs.Meaning.{Entry, Meaning, Rising}
use Rattle.timer.specs.Rules.{Event, Outcome, Started, Stopped, Fired, find, due_entry, without, check_rule, entered, started, start_rule, left, stopped, stop_rule, taken, take_rule, ticked, due_rule, advance_rule}
use Rattle.timer.specs.History.{call_after, call_events, ends, events, In, times_pending, times_stopped, times_fired, Fresh, Lawful}
use Rattle.timer.proofs.Members.{never, in_left, in_last, in_push, before_push, pending_push, stopped_push, fired_push}
use Rattle.timer.proofs.Entries.{all_from_in, find_in, in_without, rising_without, rising_push, without_other, times_without, due_in, due_first, none_due}

pub fresh_lawful : {P : Type 0} (m : Meaning P) → Fresh m → Lawful m []
fresh_lawful m f =
    record {
      one = λ t a b. absurd (omega arith);
      none = λ t h. ap (λ p. times_pending t p + 0 + 0) f.empty;
      single = λ t d e i j. absurd i;
      issued = λ t d i. absurd i;
      punctual = λ t k i. absurd i;
      waiting = λ e i. absurd (subst (In e) f.empty i);
      ordered = λ t u k b. absurd b;
      behind = λ t e i j q. absurd i;
      rising = subst Rising (sym f.empty) tt;
    }

-- nothing happened
same_lawful : {P : Type 0} (m : Meaning P) (es : List Event) → Lawful m es → Lawful m (es ++ [])
same_lawful m es l = subst (Lawful m) (sym (append-nil es)) l

-- a start that is not refused has its deadline after now
check_later : {P : Type 0} (m : Meaning P) (deadline owner : ℕ) → check_rule m deadline owner ≡ None → m.now < deadline
unfolding check_rule
check_later m deadline owner h = grind (arith, nat_tests)

-- how often a ticket is one of pending, stopped, fired
abbrev tally : {P : Type 0} → ℕ → List (Entry P) → List Event → ℕ
tally t p es = times_pending t p + times_stopped t es + times_fired t es

tally_entered : {P : Type 0} (t u d : ℕ) (p : List (Entry P)) (e : Entry P) (es : List Event) → tally t (p ++ e ∷ []) (es ++ Started u d ∷ []) ≡ tally t p es + times_pending t (e ∷ [])
tally_entered t u d p e es =
    omega (arith, pending_push t p e, stopped_push t es (Started u d), fired_push t es (Started u d))

tally_left : {P : Type 0} (t : ℕ) (p : List (Entry P)) (e : Entry P) (es : List Event) (x : Event) → In e p → times_stopped t (x ∷ []) + times_fired t (x ∷ []) ≡ times_pending t (e ∷ []) → tally t (without e.ticket p) (es ++ x ∷ []) ≡ tally t p es
tally_left t p e es x i h = omega (arith, times_without t p e i, stopped_push t es x, fired_push t es x)

-- a new entry takes a ticket that occurs nowhere yet
entered_lawful : {P : Type 0} (m : Meaning P) (es : List Event) (deadline owner : ℕ) (payload : P) → m.now < deadline → Lawful m es → Lawful (entered m deadline owner payload) (es ++ Started (m.given + 1) deadline ∷ [])
entered_lawful {P} m es deadline owner payload late l =
    let e : Entry P = record { ticket = m.given + 1; deadline = deadline; owner = owner; payload = payload } in
    let x : Event = Started (m.given + 1) deadline in
    record {
      one = λ t a b.
          let n = tally_entered t (m.given + 1) deadline m.pending e es in
          elim (cases_lt m.given t) [
            | inl h ↦ let o = l.none t (inr h) in grind (arith, nat_tests)
            | inr h ↦ let o = l.one t a h in grind (arith, nat_tests)
          ];
      none = λ t h.
          let n = tally_entered t (m.given + 1) deadline m.pending e es in
          let o = l.none t (elim h [ inl z ↦ inl z | inr g ↦ inr (omega arith) ]) in
          grind (arith, nat_tests);
      single = λ t d f i j.
          elim (in_push (Started t d) x es i) [
            | inl a ↦ elim (in_push (Started t f) x es j) [
              | inl b ↦ l.single t d f a b
              | inr q ↦ let g : m.given + 1 ≡ t = cc in absurd (omega (arith, l.issued t d a))
            ]
            | inr p ↦ elim (in_push (Started t f) x es j) [
              | inl b ↦ let g : m.given + 1 ≡ t = cc in absurd (omega (arith, l.issued t f b))
              | inr q ↦ cc
            ]
          ];
      issued = λ t d i.
          elim (in_push (Started t d) x es i) [
            | inl a ↦ let g = l.issued t d a in (g.0, omega arith)
            | inr q ↦ let g : m.given + 1 ≡ t = cc in (omega arith, omega arith)
          ];
      punctual = λ t k i.
          elim (in_push (Fired t k) x es i) [
            | inl a ↦ let g = l.punctual t k a in (in_left (Started t k) es (x ∷ []) g.0, g.1)
            | inr q ↦ never (cc)
          ];
      waiting = λ f i.
          elim (in_push f e m.pending i) [
            | inl a ↦ let g = l.waiting f a in (in_left (Started f.ticket f.deadline) es (x ∷ []) g.0, g.1)
            | inr q ↦ subst (λ y. In (Started y.ticket y.deadline) (es ++ x ∷ []) × (m.now ≤ y.deadline)) q (in_last x es, omega arith)
          ];
      ordered = λ t u k b.
          elim (before_push (Fired t k) (Fired u k) x es b) [ inl a ↦ l.ordered t u k a | inr q ↦ never (cc) ];
      behind = λ t f i j d.
          elim (in_push (Fired t m.now) x es i) [
            | inl a ↦ elim (in_push f e m.pending j) [
              | inl b ↦ l.behind t f a b d
              | inr q ↦ let g : deadline ≡ f.deadline = ap (λ y. y.deadline) q in absurd (omega arith)
            ]
            | inr q ↦ never (cc)
          ];
      rising = rising_push m.pending e l.rising (all_from_in (λ f. f.ticket < m.given + 1) m.pending (λ f i. omega (arith, l.issued f.ticket f.deadline (l.waiting f i).0)));
    }

-- each rule, by the option that it goes by
start_by : {P : Type 0} (m : Meaning P) (es : List Event) (deadline owner : ℕ) (payload : P) (o : Option TimerFault) → check_rule m deadline owner ≡ o → Lawful m es → Lawful (started m deadline owner payload o).after (es ++ (started m deadline owner payload o).events)
start_by m es deadline owner payload (Some f) c l = same_lawful m es l
start_by m es deadline owner payload None c l =
    entered_lawful m es deadline owner payload (check_later m deadline owner c) l

pub start_lawful : {P : Type 0} (m : Meaning P) (es : List Event) (deadline owner : ℕ) (payload : P) → Lawful m es → Lawful (start_rule m deadline owner payload).after (es ++ (start_rule m deadline owner payload).events)
start_lawful m es deadline owner payload l =
    start_by m es deadline owner payload (check_rule m deadline owner) refl l

-- what a fired event says of the entry that leaves: it is due, and no other that is due has a lower ticket
record First {P : Type 0} (m : Meaning P) (e : Entry P) (t k : ℕ) : Type 0 where
  ticket_is : e.ticket ≡ t
  deadline_is : e.deadline ≡ k
  is_now : k ≡ m.now
  lowest : (f : Entry P) → In f m.pending → f.deadline ≡ m.now → e.ticket ≤ f.ticket

-- an entry leaves by an event that counts its ticket once: it is stopped, or it fires
left_lawful : {P : Type 0} (m : Meaning P) (es : List Event) (e : Entry P) (x : Event) → In e m.pending → ((t : ℕ) → times_stopped t (x ∷ []) + times_fired t (x ∷ []) ≡ times_pending t (e ∷ [])) → ((t d : ℕ) → x ≡ Started t d → ⊥) → ((t k : ℕ) → x ≡ Fired t k → First m e t k) → Lawful m es → Lawful (left m e) (es ++ x ∷ [])
left_lawful m es e x i counts old first l =
    let kept : (t d : ℕ) → In (Started t d) (es ++ x ∷ []) → In (Started t d) es = λ t d j. elim (in_push (Started t d) x es j) [ inl a ↦ a | inr q ↦ absurd (old t d q) ] in
    record {
      one = λ t a b. tally_left t m.pending e es x i (counts t) ∙ l.one t a b;
      none = λ t h. tally_left t m.pending e es x i (counts t) ∙ l.none t h;
      single = λ t d f a b. l.single t d f (kept t d a) (kept t f b);
      issued = λ t d a. l.issued t d (kept t d a);
      punctual = λ t k j.
          elim (in_push (Fired t k) x es j) [
            | inl a ↦ let g = l.punctual t k a in (in_left (Started t k) es (x ∷ []) g.0, g.1)
            | inr q ↦
                let f = first t k q in
                let w : In (Started t k) es = subst (λ y. In y es) (let z : Started e.ticket e.deadline ≡ Started t k = cc in z) (l.waiting e i).0 in
                (in_left (Started t k) es (x ∷ []) w, omega arith)
          ];
      waiting = λ f j.
          let g = l.waiting f (in_without e.ticket m.pending f j) in
          (in_left (Started f.ticket f.deadline) es (x ∷ []) g.0, g.1);
      ordered = λ t u k b.
          elim (before_push (Fired t k) (Fired u k) x es b) [
            | inl a ↦ l.ordered t u k a
            | inr q ↦
                let f = first u k q.1 in
                omega (arith, l.behind t e (subst (λ n. In (Fired t n) es) f.is_now q.0) i (f.deadline_is ∙ f.is_now))
          ];
      behind = λ t f a j d.
          let p = in_without e.ticket m.pending f j in
          elim (in_push (Fired t m.now) x es a) [
            | inl b ↦ l.behind t f b p d
            | inr q ↦
                let g = first t m.now q in
                let n : f.ticket ≡ e.ticket → ⊥ = without_other m.pending e f l.rising i j in
                omega (arith, g.lowest f p d)
          ];
      rising = rising_without e.ticket m.pending l.rising;
    }

stop_by : {P : Type 0} (m : Meaning P) (es : List Event) (t : ℕ) (o : Option (Entry P)) → find t m.pending ≡ o → Lawful m es → Lawful (stopped m o).after (es ++ (stopped m o).events)
stop_by m es t None c l = same_lawful m es l
stop_by m es t (Some e) c l =
    left_lawful m es e (Stopped e.ticket) (find_in t m.pending e c) (λ u. grind (arith, nat_tests)) (λ u d q. never (cc)) (λ u k q. never (cc)) l

pub stop_lawful : {P : Type 0} (m : Meaning P) (es : List Event) (ticket : ℕ) → Lawful m es → Lawful (stop_rule m ticket).after (es ++ (stop_rule m ticket).events)
stop_lawful m es ticket l = stop_by m es ticket (find ticket m.pending) refl l

take_by : {P : Type 0} (m : Meaning P) (es : List Event) (o : Option (Entry P)) → due_entry m.now m.pending ≡ o → Lawful m es → Lawful (taken m o).after (es ++ (taken m o).events)
take_by m es None c l = same_lawful m es l
take_by m es (Some e) c l =
    let d = due_in m.now m.pending e c in
    left_lawful m es e (Fired e.ticket m.now) d.0 (λ u. grind (arith, nat_tests)) (λ u n q. never (cc))
    (λ u k q. record { ticket_is = cc; deadline_is = cc; is_now = cc; lowest = λ f i. due_first m.now m.pending e f l.rising c i })
    l

pub take_lawful : {P : Type 0} (m : Meaning P) (es : List Event) → Lawful m es → Lawful (take_rule m).after (es ++ (take_rule m).events)
take_lawful m es l = take_by m es (due_entry m.now m.pending) refl l

-- a tick later nothing has fired yet, and no entry that was due is pending
ticked_lawful : {P : Type 0} (m : Meaning P) (es : List Event) → due_entry m.now m.pending ≡ None → Lawful m es → Lawful (ticked m) es
ticked_lawful m es c l =
    record {
      one = l.one;
      none = l.none;
      single = l.single;
      issued = l.issued;
      punctual = λ t k i. let g = l.punctual t k i in (g.0, omega arith);
      waiting = λ e i.
          let g = l.waiting e i in
          let n : e.deadline ≡ m.now → ⊥ = none_due m.now m.pending e c i in
          (g.0, omega arith);
      ordered = l.ordered;
      behind = λ t e i j d. absurd (omega (arith, l.punctual t (m.now + 1) i));
      rising = l.rising;
    }

none_from : {X : Type 0} (o : Option X) → is_some o ≡ false → o ≡ None
none_from None h = refl
none_from (Some x) h = never (cc)

pub advance_lawful : {P : Type 0} (m : Meaning P) (es : List Event) → Lawful m es → Lawful (advance_rule m).after (es ++ (advance_rule m).events)
advance_lawful {P} m es l =
    let Keeps : Outcome (Result (Unit {0}) TimerFault) P → Type 0 = λ o. Lawful o.after (es ++ o.events) in
    let same = same_lawful m es l in
    cond_both (due_rule m) _ _ Keeps (λ _. same)
    (λ d. cond_both (eqb m.now m.last) _ _ Keeps (λ _. same)
    (λ _. same_lawful (ticked m) es (ticked_lawful m es (none_from (due_entry m.now m.pending) d) l)))

pub call_lawful : {P : Type 0} (m : Meaning P) (es : List Event) (c : Call P) → Lawful m es → Lawful (call_after m c) (es ++ call_events m c)
call_lawful m es (Start deadline owner payload) l = start_lawful m es deadline owner payload l
call_lawful m es (Stop ticket) l = stop_lawful m es ticket l
call_lawful m es Take l = take_lawful m es l
call_lawful m es Advance l = advance_lawful m es l

pub history_lawful : {P : Type 0} (m : Meaning P) (es : List Event) (cs : List (Call P)) → Lawful m es → Lawful (ends m cs) (es ++ events m cs)
history_lawful m es [] l = same_lawful m es l
history_lawful m es (c ∷ cs) l =
    rw append_assoc at (history_lawful (call_after m c) (es ++ call_events m c) cs (call_lawful m es c l))
