-- Every call keeps the laws of all three stores.
use Rattle.std.proofs.Common.{◌≡◌, eqb, List, [], ◌∷◌, ◌++◌, Result, sym, refl, ap, ◌∙◌, subst, append_assoc}
use Rattle.std.proofs.lemmas.List.{append-nil}
use Rattle.std.proofs.lemmas.Bool.{cond_both}
use Rattle.timer.specs.declared.fault.TimerFault.{TimerFault}
use Rattle.timer.specs.Meaning.{Meaning}
use Rattle.timer.specs.Rules.{Event, Outcome, due_rule, advance_rule}
use Rattle.timer.specs.History.{Lawful}
use Rattle.timer.proofs.Laws.{fresh_lawful, start_lawful, stop_lawful, take_lawful, advance_lawful}
use Rattle.trace.specs.declared.queue.Queue.TheVariants.{Wire, Resend, Keepalive}
use Rattle.protocol.specs.State.{State}
use Rattle.protocol.specs.Begin.{Begun}
use Rattle.protocol.specs.Rules.{Events, Step, no_events, joined, advanced_wire, advanced_resend, advanced_keepalive, all_advanced, advance_keepalive, advance_resend, tick_rule, rule, state_after, events_after}
use Rattle.protocol.specs.declared.operation.Operation.{Operation}
use Rattle.timers_law.specs.Timers.{Lawfuls, Timers}
use Rattle.protocol.proofs.Ways.{or_store_by}
use Rattle.timers_law.proofs.Keeps.{Lasting, Invariant, Holds, Kept, still}
use Rattle.timers_law.proofs.Calls.{rule_by}

lawful_lasts : {P : Type 0} → Lasting (λ (m : Meaning P) (es : List Event). Lawful m es)
lawful_lasts = record { start = start_lawful; stop = stop_lawful; take = take_lawful }

lawful : State → Invariant
lawful s =
    record {
      OnWire = λ m es. Lawful m es;
      OnResend = λ m es. Lawful m es;
      OnKeepalive = λ m es. Lawful m es;
      wire = lawful_lasts;
      resend = lawful_lasts;
      keepalive = lawful_lasts;
      interval = s.interval;
    }

-- as a store goes on nothing happens to its timers
advance_quiet : {P : Type 0} (m : Meaning P) → (advance_rule m).events ≡ []
advance_quiet {P} m =
    let Quiet : Outcome (Result (Unit {0}) TimerFault) P → Type 0 = λ o. o.events ≡ [] in
    cond_both (due_rule m) _ _ Quiet (λ _. refl) (λ _. cond_both (eqb m.now m.last) _ _ Quiet (λ _. refl) (λ _. refl))

advanced : {P : Type 0} (m : Meaning P) (es : List Event) → Lawful m es → Lawful (advance_rule m).after es
advanced m es l =
    subst (Lawful (advance_rule m).after) (ap (λ xs. es ++ xs) (advance_quiet m) ∙ append-nil es) (advance_lawful m es l)

tick_lawful : (s : State) (es : Events) → Holds (lawful s) s es → Kept (lawful s) es (tick_rule s)
unfolding tick_rule lawful
tick_lawful s es h =
    let v = lawful s in
    let s1 : State = advanced_wire s in
    let s2 : State = advanced_resend s1 in
    let h1 : Holds v s1 es = record { interval = refl; wire = advanced s.wire es.wire h.wire; resend = h.resend; keepalive = h.keepalive } in
    let h2 : Holds v s2 es = record { interval = refl; wire = h1.wire; resend = advanced s.resend es.resend h.resend; keepalive = h.keepalive } in
    let h3 : Holds v (advanced_keepalive s2) es = record { interval = refl; wire = h1.wire; resend = h2.resend; keepalive = advanced s.keepalive es.keepalive h.keepalive } in
    or_store_by (Kept v es) Wire (advance_rule s.wire).answer s (advance_resend s1) (λ _ _. still v s es h) (λ _ _.
    or_store_by (Kept v es) Resend (advance_rule s.resend).answer s1 (advance_keepalive s2) (λ _ _. still v s1 es h1) (λ _ _.
    or_store_by (Kept v es) Keepalive (advance_rule s.keepalive).answer s2 (all_advanced s2) (λ _ _. still v s2 es h2) (λ _ _. still v (advanced_keepalive s2) es h3)))

pub begun_lawful : (s : State) → Begun s → Lawfuls s no_events
begun_lawful s b =
    record {
      wire = fresh_lawful s.wire b.wire;
      resend = fresh_lawful s.resend b.resend;
      keepalive = fresh_lawful s.keepalive b.keepalive;
    }

pub rule_lawful : (s : State) (es : Events) (x : Operation) → Lawfuls s es → Lawfuls (rule s x).after (joined es (rule s x).events)
unfolding lawful
rule_lawful s es x l =
    let h : Holds (lawful s) s es = record { interval = refl; wire = l.wire; resend = l.resend; keepalive = l.keepalive } in
    let Q : Step → Type 0 = λ p. Lawfuls p.after (joined es p.events) in
    let laws : (p : Step) → Kept (lawful s) es p → Q p = λ p k. record { wire = k.wire; resend = k.resend; keepalive = k.keepalive } in
    rule_by (lawful s) s es h Q laws (λ _. laws (tick_rule s) (tick_lawful s es h)) x

-- some events, then others, then others
joined_joined : (a b c : Events) → joined (joined a b) c ≡ joined a (joined b c)
joined_joined a b c =
    rw (append_assoc a.wire b.wire c.wire, append_assoc a.resend b.resend c.resend, append_assoc a.keepalive b.keepalive c.keepalive)

run_lawful : (s : State) (es : Events) (ops : List Operation) → Lawfuls s es → Lawfuls (state_after s ops) (joined es (events_after s ops))
run_lawful s es [] l =
    record {
      wire = subst (Lawful s.wire) (sym (append-nil es.wire)) l.wire;
      resend = subst (Lawful s.resend) (sym (append-nil es.resend)) l.resend;
      keepalive = subst (Lawful s.keepalive) (sym (append-nil es.keepalive)) l.keepalive;
    }
run_lawful s es (x ∷ xs) l =
    let p = rule s x in
    subst (Lawfuls (state_after p.after xs)) (joined_joined es p.events (events_after p.after xs))
    (run_lawful p.after (joined es p.events) xs (rule_lawful s es x l))

pub timers : Timers
timers s b ops = run_lawful s no_events ops (begun_lawful s b)
