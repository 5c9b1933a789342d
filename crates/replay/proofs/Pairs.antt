-- Rigs that begin alike are in the same state.
use Rattle.std.proofs.Common.{◌≡◌, ℕ, ◌<◌, Bool, cond, List, length, get_or, Ok, Err, Result, sym, ap, ◌∙◌, arith, lt-ltb}
use mathlib.Core.Path.{fun_ext}
use Rattle.std.proofs.lemmas.List.{same_lists, get_or_default}
use Rattle.timer.specs.History.{Fresh}
use Rattle.timer.specs.Meaning.{Meaning, Sound}
use Rattle.timer.specs.Rules.{limit_rule}
use Rattle.protocol.specs.State.{State, tick_of, begun}
use Rattle.protocol.specs.Begin.{Begun}
use Rattle.transport.specs.declared.rig.Draft.{Draft}
use Rattle.session.specs.declared.command.Command.{Command}
use Rattle.session.specs.Run.{calls_of, notes_of, ends}
use Rattle.session.specs.Text.{session_text}
use Rattle.replay.specs.declared.outcome.Session.{Session}
use Rattle.replay.specs.declared.outcome.Stopped.{Stopped}
use Rattle.replay.specs.Alike.{Same, Alike, Indistinguishable, Both}
use Rattle.replay.specs.Lent.{Held}
use Rattle.replay.specs.Outcome.{first_state, Played, Outcome}

-- limits that answer alike are the same list
limit_at : {P : Type 0} (m : Meaning P) (k : ℕ) → k < 64 → limit_rule m k ≡ get_or m.limits k 0
limit_at m k l = ap (λ (b : Bool). cond b (get_or m.limits k 0) 0) (lt-ltb k 64 l)

same_limits : {P : Type 0} (m n : Meaning P) → Same m n → length m.limits ≡ 64 → length n.limits ≡ 64 → m.limits ≡ n.limits
same_limits m n h p q =
    same_lists m.limits n.limits (p ∙ sym q) (λ k d l.
    let a : k < 64 = omega (arith, p, l) in
    let b : k < length n.limits = omega (arith, q, a) in
    get_or_default m.limits k d 0 l ∙ sym (limit_at m k a) ∙ h.limits k ∙ limit_at n k a ∙ get_or_default n.limits k 0 d b)

same_store : {P : Type 0} (m n : Meaning P) → Same m n → Fresh m → Fresh n → Sound m → Sound n → m ≡ n
same_store m n h f g p q =
    let limits : m.limits ≡ n.limits = same_limits m n h p.limited q.limited in
    let given : m.given ≡ n.given = f.untouched ∙ sym g.untouched in
    let pending : m.pending ≡ n.pending = f.empty ∙ sym g.empty in
    λ i. record { now = h.now i; last = h.last i; capacity = h.capacity i; limits = limits i; given = given i; pending = pending i }

same_state : (d e : Draft) (l m : Held) → Alike d e l m → Begun (first_state d l) → Begun (first_state e m) → first_state d l ≡ first_state e m
same_state d e l m a b c =
    let fate = fun_ext a.fates in
    let wire = same_store l.wire m.wire a.wire b.wire c.wire b.sound.wire c.sound.wire in
    let resend = same_store l.resend m.resend a.resend b.resend c.resend b.sound.resend c.sound.resend in
    let keepalive = same_store l.keepalive m.keepalive a.keepalive b.keepalive c.keepalive b.sound.keepalive c.sound.keepalive in
    λ i. begun (a.interval i) (fate i) (wire i) (resend i) (keepalive i)

-- sessions from the same state are the same
same_session : (s t : State) (xs : List Command) (a b : Session) (l m : Held) → s ≡ t → Played s xs a l → Played t xs b m → Indistinguishable a b
same_session s t xs a b l m e p q =
    let tick : a.finished.tick ≡ b.finished.tick = p.tick ∙ ap (λ (z : State). tick_of (ends z (calls_of z xs))) e ∙ sym q.tick in
    let packets : a.finished.packets ≡ b.finished.packets = p.packets ∙ ap (λ (z : State). (ends z (calls_of z xs)).packets) e ∙ sym q.packets in
    record {
      notes = p.notes ∙ ap (λ (z : State). notes_of z (calls_of z xs)) e ∙ sym q.notes;
      finished = λ i. record { tick = tick i; packets = packets i };
      text =
          p.text
          ∙ ap (λ (z : State). session_text (notes_of z (calls_of z xs)) (tick_of (ends z (calls_of z xs))) (ends z (calls_of z xs)).packets) e
          ∙ sym q.text;
    }

pub indistinguishable : (d e : Draft) (commands : List Command) (l m : Held) (r o : Result Session Stopped) (n h : Held) → Outcome d commands l r n → Outcome e commands m o h → Alike d e l m → Both r o
indistinguishable d e commands l m (Ok a) (Ok b) n h p q s =
    same_session (first_state d l) (first_state e m) commands a b n h
    (same_state d e l m s p.1.begins q.1.begins) p.1 q.1
indistinguishable d e commands l m (Ok a) (Err f) n h p q s = tt
indistinguishable d e commands l m (Err f) (Ok b) n h p q s = tt
indistinguishable d e commands l m (Err f) (Err g) n h p q s = tt
