-- Where nothing is due and the last tick is far, the three clocks go on together.
use Rattle.std.proofs.Common.{◌≡◌, ℕ, ◌+◌, ◌<◌, false, cond, not, ◌||◌, eqb, leb, [], is_some, None, Ok, Result, ap, ◌∙◌, inl, inr, arith}
use Rattle.std.proofs.lemmas.Bool.{and_cases, or_from, both_ways, not-false, leb-false, ne_eqb, cond-false}
use Rattle.timer.specs.declared.fault.TimerFault.{TimerFault}
use Rattle.timer.specs.Meaning.{Meaning}
use Rattle.timer.specs.Rules.{Outcome, due_rule, refused, ticked, advance_rule}
use Rattle.timer.specs.declared.fault.TimerFault.TheVariants.{Due, Ended}
use Rattle.trace.specs.declared.action.Action.TheVariants.{Advanced}
use Rattle.trace.specs.declared.queue.Queue.TheVariants.{Wire, Resend, Keepalive}
use Rattle.link.specs.declared.packet.Packet.{Packet}
use Rattle.channel.specs.declared.record.Attempt.{Attempt}
use Rattle.protocol.specs.State.{State, state, with_wire, with_resend, with_keepalive, in_ticks, last_of}
use Rattle.protocol.specs.Rules.{Step, give, or_store, any_due, tick_rule}
use Rattle.timers_law.specs.Ready.{Ready}
use Rattle.timers_law.proofs.Ways.{Idle, next_due}

-- a store goes on
abbrev goes : {P : Type 0} → Meaning P → Outcome (Result (Unit {0}) TimerFault) P
goes m = record { answer = Ok tt; after = ticked m; events = [] }

none_due : {P : Type 0} (m : Meaning P) → next_due m ≡ None → due_rule m ≡ false
none_due m h = ap is_some h

advance_goes : {P : Type 0} (m : Meaning P) → next_due m ≡ None → m.now < m.last → advance_rule m ≡ goes m
advance_goes m h l =
    let rest = cond (eqb m.now m.last) (refused m Ended) (goes m) in
    cond-false (due_rule m) (refused m Due) rest (none_due m h)
    ∙ cond-false (eqb m.now m.last) (refused m Ended) (goes m) (ne_eqb m.now m.last (λ e. omega arith))

-- the rule of a tick, by what the three stores answer
abbrev by_advances : State → Outcome (Result (Unit {0}) TimerFault) Packet → Outcome (Result (Unit {0}) TimerFault) Attempt → Outcome (Result (Unit {0}) TimerFault) ℕ → Step
by_advances s a b c =
    or_store Wire a.answer s (λ _.
    or_store Resend b.answer (with_wire s a.after) (λ _.
    or_store Keepalive c.answer (with_resend (with_wire s a.after) b.after) (λ _.
    give Advanced (with_keepalive (with_resend (with_wire s a.after) b.after) c.after))))

abbrev pub all_ticked : State → State
all_ticked s = state s s.packets (ticked s.wire) (ticked s.resend) (ticked s.keepalive) s.table

pub nothing_due : (s : State) → Idle s → any_due s ≡ false
nothing_due s i =
    or_from (due_rule s.wire) (due_rule s.resend || due_rule s.keepalive) (none_due s.wire i.wire)
    (or_from (due_rule s.resend) (due_rule s.keepalive) (none_due s.resend i.resend) (none_due s.keepalive i.keepalive))

-- the last tick is still far
pub idle_far : (s : State) → Ready s → Idle s → s.wire.now + 60000 < s.wire.last
idle_far s r i =
    elim (and_cases (not (any_due s)) (leb (last_of s) (in_ticks s 60000)) i.more) [
      | inl h ↦ absurd (both_ways (any_due s) (nothing_due s i) (not-false (any_due s) h))
      | inr h ↦ omega (arith, leb-false (last_of s) (in_ticks s 60000) h, r.wire.sound.fits)
    ]

pub tick_goes : (s : State) → Ready s → Idle s → tick_rule s ≡ give Advanced (all_ticked s)
unfolding tick_rule
tick_goes s r i =
    let l = idle_far s r i in
    let a = advance_goes s.wire i.wire (omega arith) in
    let b = advance_goes s.resend i.resend (omega (arith, r.resend_clock.tick, r.resend_clock.last)) in
    let c = advance_goes s.keepalive i.keepalive (omega (arith, r.keepalive_clock.tick, r.keepalive_clock.last)) in
    ap (λ x. by_advances s x (advance_rule s.resend) (advance_rule s.keepalive)) a
    ∙ ap (λ x. by_advances s (goes s.wire) x (advance_rule s.keepalive)) b
    ∙ ap (λ x. by_advances s (goes s.wire) (goes s.resend) x) c
