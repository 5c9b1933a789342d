-- A rig is ready when it begins and after every call.
use Rattle.std.proofs.Common.{◌≡◌, ℕ, ◌<◌, ◌≤◌, List, [], length, get_or, sym, refl, ◌∙◌, subst, arith}
use Rattle.std.specs.List.{AllByRecursion}
use Rattle.timer.specs.Meaning.{Entry, Meaning, Sound}
use Rattle.timer.specs.Rules.{Event, count, ticked}
use Rattle.timer.specs.History.{Fresh}
use Rattle.protocol.specs.State.{State}
use Rattle.protocol.specs.Begin.{Begun}
use Rattle.protocol.specs.Rules.{Step, no_events, rule}
use Rattle.protocol.specs.declared.operation.Operation.{Operation}
use Rattle.timers_law.specs.Ready.{Within, Ready}
use Rattle.timers_law.proofs.Ways.{Idle}
use Rattle.timers_law.proofs.Keeps.{Lasting, Invariant, Holds, Kept}
use Rattle.timers_law.proofs.Calls.{rule_by}
use Rattle.timers_law.proofs.Stores.{lasting, entered_within, left_within}
use Rattle.timers_law.proofs.Ticks.{all_ticked, idle_far, tick_goes}

fresh_within : {P : Type 0} (m : Meaning P) → Sound m → Fresh m → Within m
fresh_within {P} m s f =
    let at : (B : List (Entry P) → Type 0) → B [] → B m.pending = λ B b. subst B (sym f.empty) b in
    record {
      sound = s;
      room = at (λ es. length es ≤ m.capacity) (omega arith);
      allowed = λ o l. at (λ es. count o es ≤ get_or m.limits o 0) (omega arith);
      known = at (AllByRecursion (λ e. e.owner < 64)) tt;
      issued = at (AllByRecursion (λ e. e.ticket ≤ m.given)) tt;
    }

pub begun_ready : (s : State) → Begun s → Ready s
begun_ready s b =
    record {
      some = b.some;
      most = b.most;
      resend_clock = b.resend_clock;
      keepalive_clock = b.keepalive_clock;
      span = b.span;
      wire = fresh_within s.wire b.sound.wire b.wire;
      resend = fresh_within s.resend b.sound.resend b.resend;
      keepalive = fresh_within s.keepalive b.sound.keepalive b.keepalive;
    }

-- in one tick
abbrev Steady : {P : Type 0} → ℕ → ℕ → Meaning P → Type 0
Steady now last m = (m.now ≡ now) × (m.last ≡ last) × Within m

steady_lasts : {P : Type 0} (now last : ℕ) → Lasting (λ (m : Meaning P) (es : List Event). Steady now last m)
steady_lasts now last =
    lasting (Steady now last)
    (λ m deadline owner payload k b. (b.0, b.1, entered_within m deadline owner payload k b.2))
    (λ m e b. (b.0, b.1, left_within m e b.2))

steady : State → Invariant
steady s =
    let now = s.wire.now in
    let last = s.wire.last in
    record {
      OnWire = λ m es. Steady now last m;
      OnResend = λ m es. Steady now last m;
      OnKeepalive = λ m es. Steady now last m;
      wire = steady_lasts now last;
      resend = steady_lasts now last;
      keepalive = steady_lasts now last;
      interval = s.interval;
    }

ready_holds : (s : State) → Ready s → Holds (steady s) s no_events
unfolding steady
ready_holds s r =
    record {
      interval = refl;
      wire = (refl, refl, r.wire);
      resend = (r.resend_clock.tick, r.resend_clock.last, r.resend);
      keepalive = (r.keepalive_clock.tick, r.keepalive_clock.last, r.keepalive);
    }

kept_ready : (s : State) → Ready s → (p : Step) → Kept (steady s) no_events p → Ready p.after
unfolding steady
kept_ready s r p h =
    record {
      some = omega (arith, h.interval, r.some);
      most = omega (arith, h.interval, r.most);
      resend_clock = record { tick = h.resend.0 ∙ sym h.wire.0; last = h.resend.1 ∙ sym h.wire.1 };
      keepalive_clock = record { tick = h.keepalive.0 ∙ sym h.wire.0; last = h.keepalive.1 ∙ sym h.wire.1 };
      span = omega (arith, h.wire.0, h.wire.1, r.span);
      wire = h.wire.2;
      resend = h.resend.2;
      keepalive = h.keepalive.2;
    }

-- a tick later
ticked_within : {P : Type 0} (m : Meaning P) → m.now < m.last → Within m → Within (ticked m)
ticked_within m l h =
    record {
      sound = record { clock = omega arith; fits = h.sound.fits; limited = h.sound.limited; rising = h.sound.rising };
      room = h.room;
      allowed = h.allowed;
      known = h.known;
      issued = h.issued;
    }

pub ticked_ready : (s : State) → Ready s → Idle s → Ready (all_ticked s)
ticked_ready s r i =
    let far = idle_far s r i in
    record {
      some = r.some;
      most = r.most;
      resend_clock = record { tick = omega (arith, r.resend_clock.tick); last = r.resend_clock.last };
      keepalive_clock = record { tick = omega (arith, r.keepalive_clock.tick); last = r.keepalive_clock.last };
      span = omega arith;
      wire = ticked_within s.wire (omega arith) r.wire;
      resend = ticked_within s.resend (omega (arith, r.resend_clock.tick, r.resend_clock.last)) r.resend;
      keepalive = ticked_within s.keepalive (omega (arith, r.keepalive_clock.tick, r.keepalive_clock.last)) r.keepalive;
    }

pub rule_ready : (s : State) (x : Operation) → Ready s → Ready (rule s x).after
rule_ready s x r =
    rule_by (steady s) s no_events (ready_holds s r) (λ p. Ready p.after) (kept_ready s r)
    (λ i. subst (λ (p : Step). Ready p.after) (sym (tick_goes s r i)) (ticked_ready s r i)) x
