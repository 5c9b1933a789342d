-- No step is refused by a store.
use Rattle.std.proofs.Common.{◌≡◌, ℕ, ◌<◌, ◌≤◌, true, false, ◌||◌, eqb, leb, List, [], ◌∷◌, get_or, Some, None, Ok, Option, sym, subst, arith}
use Rattle.std.proofs.lemmas.Bool.{cond_both, or_parts, and_parts, ltb-false, leb-true}
use Rattle.timer.specs.declared.expired.Expired.{Expired}
use Rattle.timer.specs.Meaning.{Entry}
use Rattle.timer.specs.Rules.{left, expired, taken}
use Rattle.timer.proofs.Members.{never}
use Rattle.trace.specs.declared.action.Action.{Action}
use Rattle.trace.specs.declared.action.Segment.{Segment}
use Rattle.trace.specs.declared.queue.Queue.TheVariants.{Resend, Keepalive}
use Rattle.link.specs.declared.packet.Packet.{Packet}
use Rattle.link.specs.declared.packet.Packet.TheVariants as packet
use Rattle.channel.specs.declared.record.Attempt.{Attempt}
use Rattle.channel.specs.Record.{acknowledges, awaits, is_open, again}
use Rattle.protocol.specs.State.{State, blank, record_of, in_ticks, worn, low, with_resend, with_keepalive}
use Rattle.protocol.specs.Rules.{Step, live, data_acknowledged, data_dropped, data_rule, acknowledged, acknowledgement_rule, arrive, arrival, restart_resend, wait_of, resend_packet, resend_started, resend_rule, resend, start_keepalive, beat_packet, beat_started, beat_rule, beat, answers_of, rule}
use Rattle.protocol.specs.declared.operation.Operation.{Operation}
use Rattle.protocol.specs.declared.operation.Operation.TheVariants as operation
use Rattle.timers_law.specs.Ready.{Ready}
use Rattle.timers_law.specs.Restarts.{Granted, Unrefused, UnrefusedAll, Restarts}
use Rattle.protocol.proofs.Ways.{or_store_by}
use Rattle.timers_law.proofs.Ways.{next_due, step_by, moved_by}
use Rattle.timers_law.proofs.Ticks.{tick_goes}
use Rattle.timers_law.proofs.Ready.{begun_ready, rule_ready}
use Rattle.timers_law.proofs.Grants.{wait_some, left_free, start_grants}

abbrev Grants : Step → Type 0
Grants p = Granted p.answer

acted : (a : Action) → Granted (Ok a)
acted a f e = never (cc)

-- a packet arrives: nothing is asked of a store
data_granted : (s : State) (o : ℕ) (x : Segment) → Grants (data_rule s o x)
unfolding data_rule
data_granted s o x =
    cond_both (acknowledges (record_of s o) x.sequence) (data_acknowledged s o x) (data_dropped s o x) Grants
    (λ _. acted _) (λ _. acted _)

acknowledged_granted : (ticket : Option ℕ) (s : State) (o sequence : ℕ) → Grants (acknowledged ticket s o sequence)
acknowledged_granted None s o sequence = acted _
acknowledged_granted (Some ticket) s o sequence = acted _

acknowledgement_granted : (s : State) (o sequence : ℕ) → Grants (acknowledgement_rule s o sequence)
unfolding acknowledgement_rule
acknowledgement_granted s o sequence = acknowledged_granted (awaits (record_of s o) sequence) s o sequence

arrive_granted : (s : State) (o : ℕ) (x : Packet) → Grants (arrive s o x)
arrive_granted s o (packet.Data segment) = data_granted s o segment
arrive_granted s o (packet.Acknowledgement sequence) = acknowledgement_granted s o sequence
arrive_granted s o (packet.Keepalive sequence) = acted _

arrival_granted : (s : State) (e : Expired Packet) → Grants (arrival s e)
arrival_granted s e =
    cond_both (live s e.owner) _ _ Grants (λ _. arrive_granted s e.owner e.payload) (λ _. acted _)

live_known : (s : State) (o : ℕ) → live s o ≡ true → o < 64
live_known s o h = omega (arith, leb-true o 63 (and_parts (leb o 63) (is_open (record_of s o)) h).0)

-- a timer was taken from a store and starts anew
module _ (s : State) (r : Ready s) (fresh : low s ≡ false) where
  unworn : (s.resend.given ≤ 4294967293) × (s.keepalive.given ≤ 4294967293)
  unworn =
      let a = (or_parts (worn s.wire) (worn s.resend || (worn s.keepalive || eqb s.packets 4294967295)) fresh).1 in
      let b = or_parts (worn s.resend) (worn s.keepalive || eqb s.packets 4294967295) a in
      let c = or_parts (worn s.keepalive) (eqb s.packets 4294967295) b.1 in
      (ltb-false 4294967293 s.resend.given b.0, ltb-false 4294967293 s.keepalive.given c.0)

  resend_granted : (e : Entry Attempt) → next_due s.resend ≡ Some e → Grants (resend (with_resend s (left s.resend e)) (expired e))
  unfolding resend_rule
  resend_granted e d =
      let o = e.owner in
      let a = e.payload in
      let t : State = with_resend s (left s.resend e) in
      cond_both (live t o) (resend_rule t o a) _ Grants
      (λ l.
      let known = live_known t o l in
      let some : 1 ≤ wait_of t o (again a) = wait_some (get_or s.table o blank).estimator.timeout (again a).tries in
      or_store_by Grants Resend (restart_resend t o a).answer (resend_packet t o a).after (resend_started t o a)
      (λ f q. absurd
      (start_grants (left s.resend e) (in_ticks t (wait_of t o (again a))) o (again a) f (left_free s.resend e r.resend d known)
      (omega (arith, some, r.resend_clock.tick, r.span, r.wire.sound.fits)) (omega (arith, r.resend_clock.last, r.span, r.wire.sound.fits)) known unworn.0 q))
      (λ n _. acted _))
      (λ _. acted _)

  beat_granted : (e : Entry ℕ) → next_due s.keepalive ≡ Some e → Grants (beat (with_keepalive s (left s.keepalive e)) (expired e))
  unfolding beat_rule
  beat_granted e d =
      let o = e.owner in
      let t : State = with_keepalive s (left s.keepalive e) in
      cond_both (live t o) (beat_rule t o) _ Grants
      (λ l.
      let known = live_known t o l in
      or_store_by Grants Keepalive (start_keepalive t o).answer (beat_packet t o).after (beat_started t o)
      (λ f q. absurd
      (start_grants (left s.keepalive e) (in_ticks t s.interval) o o f (left_free s.keepalive e r.keepalive d known)
      (omega (arith, r.some, r.keepalive_clock.tick, r.span, r.wire.sound.fits)) (omega (arith, r.most, r.keepalive_clock.last, r.span, r.wire.sound.fits)) known unworn.1 q))
      (λ n _. acted _))
      (λ _. acted _)

pub ready_unrefused : (s : State) → Ready s → (x : Operation) → Unrefused x (rule s x).answer
ready_unrefused s r (operation.Open c) = tt
ready_unrefused s r (operation.Send c word) = tt
ready_unrefused s r (operation.Take c) = tt
ready_unrefused s r (operation.Close c) = tt
ready_unrefused s r operation.Step =
    step_by Grants s (λ f e. never (cc)) (λ f e. never (cc)) (λ f e. never (cc)) (λ fresh more.
    moved_by Grants s (λ e _. arrival_granted _ (expired e))
    (λ e d. subst (λ (o : Option (Entry Attempt)). Grants (resend (with_resend s (taken s.resend o).after) (expired e))) (sym d) (resend_granted s r fresh e d))
    (λ e d. subst (λ (o : Option (Entry ℕ)). Grants (beat (with_keepalive s (taken s.keepalive o).after) (expired e))) (sym d) (beat_granted s r fresh e d))
    (λ i. subst Grants (sym (tick_goes s r i)) (acted _)) more)

ready_restarts : (s : State) → Ready s → (ops : List Operation) → UnrefusedAll ops (answers_of s ops)
ready_restarts s r [] = tt
ready_restarts s r (x ∷ xs) = (ready_unrefused s r x, ready_restarts (rule s x).after (rule_ready s x r) xs)

pub restarts : Restarts
restarts s b ops = ready_restarts s (begun_ready s b) ops
