-- A step takes what is due, starts nothing that is due, or goes on to the next tick.
use Rattle.std.proofs.Common.{◌≡◌, ℕ, ◌+◌, ◌-◌, ◌*◌, ◌<◌, ◌≤◌, true, false, cond, eqb, ltb, List, is_ok, Some, Option, sym, refl, ap, subst, inl, inr, add-mul, one-mul, arith}
use Rattle.std.proofs.lemmas.List.Sums.{sum_by_push, count_by-le-length}
use Rattle.std.proofs.lemmas.Bool.{false≢true, both_ways, or_cases, ltb-true, eq-eqb, ne_eqb}
use Rattle.timer.specs.Meaning.{Entry, Meaning}
use Rattle.timer.specs.Rules.{Event, entered, left, expired, taken, ticked}
use Rattle.timer.proofs.Entries.{due_in}
use Rattle.link.specs.declared.packet.Packet.{Packet}
use Rattle.channel.specs.declared.record.Attempt.{Attempt}
use Rattle.protocol.specs.State.{State, tick_of, with_wire, with_resend, with_keepalive}
use Rattle.protocol.specs.Rules.{Step, no_events, arrival, resend, beat, any_due}
use Rattle.timers_law.specs.Ready.{Within, Ready}
use Rattle.timers_law.specs.Ends.{due_count, all_due, room, measure, Ends}
use Rattle.timers_law.proofs.Ways.{next_due, fired_wire, fired_resend, fired_keepalive, step_by, moved_by}
use Rattle.timers_law.proofs.Keeps.{Lasting, Invariant, Kept}
use Rattle.timers_law.proofs.Calls.{arrival_keeps, resend_keeps, beat_keeps}
use Rattle.timers_law.proofs.Counts.{without_le, without_count}
use Rattle.timers_law.proofs.Stores.{lasting}
use Rattle.timers_law.proofs.Ticks.{all_ticked, nothing_due, tick_goes}

-- in one tick, at most so many entries are due
abbrev Calm : {P : Type 0} → Meaning P → ℕ → Meaning P → Type 0
Calm old due m = (m.now ≡ old.now) × (m.capacity ≡ old.capacity) × (due_count m ≤ due)

entered_due : {P : Type 0} (m : Meaning P) (deadline owner : ℕ) (payload : P) → m.now < deadline → due_count (entered m deadline owner payload) ≡ due_count m
entered_due {P} m deadline owner payload later =
    let e : Entry P = record { ticket = m.given + 1; deadline = deadline; owner = owner; payload = payload } in
    let none : eqb deadline m.now ≡ false = ne_eqb deadline m.now (λ q. omega arith) in
    omega (arith, sum_by_push (λ f. cond (eqb f.deadline m.now) 1 0) m.pending e, ap {B = ℕ} (λ b. cond b 1 0) none)

calm_lasts : {P : Type 0} (old : Meaning P) (due : ℕ) → Lasting (λ (m : Meaning P) (es : List Event). Calm old due m)
calm_lasts old due =
    lasting (Calm old due)
    (λ m deadline owner payload k b. (b.0, b.1, omega (arith, b.2, entered_due m deadline owner payload k.later)))
    (λ m e b. (b.0, b.1, omega (arith, b.2, without_le (λ f. eqb f.deadline m.now) e.ticket m.pending)))

calm : State → ℕ → ℕ → ℕ → Invariant
calm s a b c =
    record {
      OnWire = λ m es. Calm s.wire a m;
      OnResend = λ m es. Calm s.resend b m;
      OnKeepalive = λ m es. Calm s.keepalive c m;
      wire = calm_lasts s.wire a;
      resend = calm_lasts s.resend b;
      keepalive = calm_lasts s.keepalive c;
      interval = s.interval;
    }

calm_itself : {P : Type 0} (m : Meaning P) → Calm m (due_count m) m
calm_itself m = (refl, refl, omega arith)

-- an entry that is taken was due
taken_calm : {P : Type 0} (m : Meaning P) (e : Entry P) → next_due m ≡ Some e → Calm m (due_count (left m e)) (taken m (next_due m)).after
taken_calm {P} m e d =
    subst (λ (o : Option (Entry P)). Calm m (due_count (left m e)) (taken m o).after) (sym d) (calm_itself (left m e))

left_due : {P : Type 0} (m : Meaning P) (e : Entry P) → Within m → next_due m ≡ Some e → due_count (left m e) < due_count m
left_due m e h d =
    let i = due_in m.now m.pending e d in
    omega (arith, without_count (λ f. eqb f.deadline m.now) m.pending e h.sound.rising i.0, ap {B = ℕ} (λ b. cond b 1 0) (eq-eqb e.deadline m.now i.1))

-- fewer are due in the same tick
kept_falls : (s : State) (t a b c : ℕ) (p : Step) → a + b + c < all_due s → Kept (calm s a b c) no_events p → measure p.after t < measure s t
unfolding calm
kept_falls s t a b c p l h =
    let n = h.wire.0 in
    let w = h.wire.1 in
    let r = h.resend.1 in
    let k = h.keepalive.1 in
    let same : (t - tick_of p.after) * room p.after ≡ (t - tick_of s) * room s = cc in
    omega (arith, h.wire.2, h.resend.2, h.keepalive.2)

-- an entry is taken from one of the stores
module _ (s : State) (t : ℕ) (r : Ready s) where
  wire_falls : (e : Entry Packet) → next_due s.wire ≡ Some e → measure (fired_wire s e).after t < measure s t
  unfolding calm
  wire_falls e d =
      let a = due_count (left s.wire e) in
      let b = due_count s.resend in
      let c = due_count s.keepalive in
      kept_falls s t a b c (arrival (with_wire s (taken s.wire (next_due s.wire)).after) (expired e)) (omega (arith, left_due s.wire e r.wire d))
      (arrival_keeps (calm s a b c) _ no_events
      (record { interval = refl; wire = taken_calm s.wire e d; resend = calm_itself s.resend; keepalive = calm_itself s.keepalive })
      (expired e))

  resend_falls : (e : Entry Attempt) → next_due s.resend ≡ Some e → measure (fired_resend s e).after t < measure s t
  unfolding calm
  resend_falls e d =
      let a = due_count s.wire in
      let b = due_count (left s.resend e) in
      let c = due_count s.keepalive in
      kept_falls s t a b c (resend (with_resend s (taken s.resend (next_due s.resend)).after) (expired e)) (omega (arith, left_due s.resend e r.resend d))
      (resend_keeps (calm s a b c) _ no_events
      (record { interval = refl; wire = calm_itself s.wire; resend = taken_calm s.resend e d; keepalive = calm_itself s.keepalive })
      (expired e))

  keepalive_falls : (e : Entry ℕ) → next_due s.keepalive ≡ Some e → measure (fired_keepalive s e).after t < measure s t
  unfolding calm
  keepalive_falls e d =
      let a = due_count s.wire in
      let b = due_count s.resend in
      let c = due_count (left s.keepalive e) in
      kept_falls s t a b c (beat (with_keepalive s (taken s.keepalive (next_due s.keepalive)).after) (expired e)) (omega (arith, left_due s.keepalive e r.keepalive d))
      (beat_keeps (calm s a b c) _ no_events
      (record { interval = refl; wire = calm_itself s.wire; resend = calm_itself s.resend; keepalive = taken_calm s.keepalive e d })
      (expired e))

-- a tick is worth more than all that can be due in it
tick_worth : (left size due : ℕ) → due < size → left * size + due < (left + 1) * size
tick_worth left size due l = omega (arith, add-mul left 1 size, one-mul size)

due_room : {P : Type 0} (m : Meaning P) → Within m → due_count (ticked m) ≤ m.capacity
due_room m h = omega (arith, count_by-le-length (λ e. eqb e.deadline (m.now + 1)) m.pending, h.room)

ticked_falls : (s : State) (t : ℕ) → Ready s → tick_of s < t → measure (all_ticked s) t < measure s t
ticked_falls s t r l =
    let rest = t - (tick_of s + 1) in
    let one : t - tick_of s ≡ rest + 1 = omega arith in
    rw one (omega (arith, tick_worth rest (room s) (all_due (all_ticked s)) (omega (arith, due_room s.wire r.wire, due_room s.resend r.resend, due_room s.keepalive r.keepalive))))

pub step_falls : Ends
step_falls s t r on =
    let Falls : Step → Type 0 = λ p. is_ok p.answer ≡ true → measure p.after t < measure s t in
    let refused : false ≡ true → measure s t < measure s t = λ h. absurd (false≢true h) in
    step_by Falls s refused refused refused (λ _ more.
    moved_by Falls s (λ e d _. wire_falls s t r e d) (λ e d _. resend_falls s t r e d) (λ e d _. keepalive_falls s t r e d)
    (λ i. subst Falls (sym (tick_goes s r i)) (λ _.
    ticked_falls s t r (elim (or_cases (ltb (tick_of s) t) (any_due s) on) [
      | inl h ↦ ltb-true (tick_of s) t h
      | inr h ↦ absurd (both_ways (any_due s) (nothing_due s i) h)
    ])))
    more)
