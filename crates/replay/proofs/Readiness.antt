-- A call leaves the rig ready for the next one.
use Rattle.std.proofs.Common.{◌≡◌, ℕ, ◌+◌, ◌<◌, ◌≤◌, List, [], ◌∷◌, length, slice_index, sym, subst}
use Rattle.std.specs.List.{AllByRecursion}
use Rattle.std.specs.Coded.{×_prop, Unit-prop}
use Rattle.std.proofs.Props.{props}
use mathlib.Core.Logic.{∥∥₁_elim}
use Rattle.timer.specs.Meaning.{Entry, Meaning, Rising, Sound}
use Rattle.timer.specs.Rules.{count}
use Rattle.protocol.specs.State.{State}
use Rattle.protocol.specs.Begin.{Together}
use Rattle.timers_law.specs.Ready.{Ready, Within}
use Rattle.timers_law.proofs.Ready.{rule_ready}
use Rattle.session.specs.declared.answer.Answer.{Answer}
use Rattle.session.specs.declared.command.Call.{Call}
use Rattle.session.specs.declared.command.Call.TheVariants.{Operate, Ask}
use Rattle.session.specs.Run.{call_after}
use Rattle.replay.specs.Noting.{Performed}

rising_prop : {P : Type 0} (es : List (Entry P)) → IsProp (Rising es)
rising_prop [] = Unit-prop
rising_prop (e ∷ es) = ×_prop (hlevel props) (rising_prop es)

sound_prop : {P : Type 0} (m : Meaning P) → IsProp (Sound m)
sound_prop m p q =
    let clock : IsProp (m.now ≤ m.last) = hlevel props in
    let fits : IsProp (m.last ≤ 4294967295) = hlevel props in
    let limited : IsProp (length m.limits ≡ 64) = hlevel props in
    λ i. record {
      clock = clock p.clock q.clock i;
      fits = fits p.fits q.fits i;
      limited = limited p.limited q.limited i;
      rising = rising_prop m.pending p.rising q.rising i;
    }

within_prop : {P : Type 0} (m : Meaning P) → IsProp (Within m)
within_prop m p q =
    let room : IsProp (length m.pending ≤ m.capacity) = hlevel props in
    let allowed : IsProp ((o : ℕ) → o < 64 → count o m.pending ≤ slice_index m.limits o) = hlevel props in
    let known : IsProp (AllByRecursion (λ e. e.owner < 64) m.pending) = hlevel props in
    let issued : IsProp (AllByRecursion (λ e. e.ticket ≤ m.given) m.pending) = hlevel props in
    λ i. record {
      sound = sound_prop m p.sound q.sound i;
      room = room p.room q.room i;
      allowed = allowed p.allowed q.allowed i;
      known = known p.known q.known i;
      issued = issued p.issued q.issued i;
    }

ready_prop : (s : State) → IsProp (Ready s)
ready_prop s p q =
    let some : IsProp (1 ≤ s.interval) = hlevel props in
    let most : IsProp (s.interval ≤ 60000) = hlevel props in
    let resend_clock : IsProp (Together s.wire s.resend) = hlevel props in
    let keepalive_clock : IsProp (Together s.wire s.keepalive) = hlevel props in
    let span : IsProp (s.wire.now + 60000 ≤ s.wire.last) = hlevel props in
    λ i. record {
      some = some p.some q.some i;
      most = most p.most q.most i;
      resend_clock = resend_clock p.resend_clock q.resend_clock i;
      keepalive_clock = keepalive_clock p.keepalive_clock q.keepalive_clock i;
      span = span p.span q.span i;
      wire = within_prop s.wire p.wire q.wire i;
      resend = within_prop s.resend p.resend q.resend i;
      keepalive = within_prop s.keepalive p.keepalive q.keepalive i;
    }

-- it can hold in one way only, so it comes out of a truncation again
pub ready_out : (s : State) → ∥ Ready s ∥₁ → Ready s
ready_out s t = ∥∥₁_elim t (ready_prop s) (λ r. r)

call_ready : (s : State) (c : Call) → Ready s → Ready (call_after s c)
call_ready s (Operate x) r = rule_ready s x r
call_ready s (Ask q) r = r

pub performed_ready : (s t : State) (c : Call) (a : Answer) → ∥ Ready s ∥₁ → Performed s c a t → ∥ Ready t ∥₁
performed_ready s t c a r p = ∣ subst (λ (z : State). Ready z) (sym p.after) (call_ready s c (ready_out s r)) ∣₁
