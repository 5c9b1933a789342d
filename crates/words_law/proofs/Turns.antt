-- What holds of a channel stays so over a step of the rig.
use Rattle.std.proofs.Common.{◌≡◌, ℕ, ◌<◌, ◌≤◌, true, ltb, leb, List, get_or, Some, None, Option, refl, arith}
use Rattle.std.proofs.lemmas.List.{get_or-set_same}
use Rattle.std.proofs.lemmas.Bool.{cond_both, and_parts, ltb-true, leb-true}
use Rattle.timer.specs.declared.expired.Expired.{Expired}
use Rattle.timer.specs.Rules.{take_rule, advance_rule}
use Rattle.trace.specs.declared.action.Segment.{Segment}
use Rattle.trace.specs.declared.queue.Queue.TheVariants.{Wire, Resend, Keepalive}
use Rattle.link.specs.declared.packet.Packet.{Packet}
use Rattle.link.specs.declared.packet.Packet.TheVariants as packet
use Rattle.channel.specs.declared.record.Attempt.{Attempt}
use Rattle.channel.specs.declared.record.Channel.{Channel}
use Rattle.channel.specs.declared.record.Status.TheVariants.{Open}
use Rattle.channel.specs.Record.{is_open, resent, in_flight, send_place, answered, acknowledges, received, kept_alive, again}
use Rattle.protocol.specs.State.{State, blank, record_of, put, with_wire, with_resend, with_keepalive, tick_of, in_ticks}
use Rattle.protocol.specs.Rules.{Step, live, wait_of, start_keepalive, data_acknowledged, data_dropped, data_rule, stop_timer, sample_of, acknowledged, acknowledgement_rule, arrive, arrival, resend_packet, restart_resend, resend_started, resend_rule, resend, beat_packet, beat_started, beat_rule, beat, advanced_wire, advanced_resend, all_advanced, advance_keepalive, advance_resend, tick_rule, by_keepalive, by_resend, by_wire, moved}
use Rattle.protocol.proofs.Ways.{or_store_by}
use Rattle.words_law.proofs.Ways.{open_by}
use Rattle.words_law.proofs.Receiving.{Word}
use Rattle.words_law.proofs.Stores.{Fires, start_keeps, stop_keeps, take_keeps, take_fires, advance_keeps}
use Rattle.words_law.proofs.Records.{ArrivedAt, standing_live, resent_changes, answered_changes, received_changes}
use Rattle.words_law.proofs.Invariant.{Carries, OnWire, InResend, Holds, put_open, put_read, open_live, transmit_keeps, wire_keeps, resend_keeps}

module _ (c : ℕ) (W T : List ℕ) where
  -- what a step leaves
  abbrev Stays : Step → Type 0
  Stays p = Holds c W T p.after

  live_by : (s : State) (o : ℕ) → live s o ≡ true → (o < 64) × ((record_of s o).status ≡ Open)
  live_by s o e =
      let both = and_parts (leb o 63) (is_open (record_of s o)) e in
      (omega (arith, leb-true o 63 both.0), open_by (record_of s o).status both.1)

  -- a packet with a word
  data_keeps : (s : State) (k : ℕ) (g : Segment) → Holds c W T s → k < 64 → (record_of s k).status ≡ Open → (k ≡ c → Word W g.sequence g.word) → Stays (data_rule s k g)
  unfolding data_rule
  data_keeps s k g i l o h =
      let r : Channel = record_of s k in
      let r1 : Channel = received r g in
      let j : Holds c W T (put s k r1) = put_open c W T s i k r1 o (λ own x. (received_changes W T r x g (h own)).0) in
      let at : get_or (put s k r1).table k blank ≡ r1 = get_or-set_same s.table k r1 blank (omega (arith, i.size)) in
      cond_both (acknowledges r g.sequence) (data_acknowledged s k g) (data_dropped s k g) Stays
      (λ a.
      transmit_keeps c W T (put s k r1) j k (packet.Acknowledgement g.sequence)
      (λ own. ((h own).0, rw at ((received_changes W T r (open_live c W T s i k own o) g (h own)).1 a))))
      (λ _. j)

  -- an acknowledgement
  waiting_keeps : (x : Option ℕ) (s : State) (k n : ℕ) → Holds c W T s → (record_of s k).status ≡ Open → (k ≡ c → ArrivedAt (record_of s k) n) →
      (record_of s k).base ≤ n → n < (record_of s k).next → Stays (acknowledged x s k n)
  waiting_keeps None s k n i o h lo hi = put_read c W T s i k o
  waiting_keeps (Some t) s k n i o h lo hi =
      let s1 : State = with_resend s (stop_timer s t).after in
      let x : Option ℕ = sample_of (stop_timer s t).answer (tick_of s) in
      let j : Holds c W T s1 = resend_keeps c W T s i (stop_timer s t).after (stop_keeps (InResend c W) s.resend t i.resend) in
      put_open c W T s1 j k (answered (record_of s k) n x) o (λ own l. answered_changes W T (record_of s k) l n x lo hi (h own))

  acknowledgement_keeps : (s : State) (k n : ℕ) → Holds c W T s → (record_of s k).status ≡ Open → (k ≡ c → ArrivedAt (record_of s k) n) → Stays (acknowledgement_rule s k n)
  unfolding acknowledgement_rule
  acknowledgement_keeps s k n i o h =
      let r : Channel = record_of s k in
      cond_both (in_flight r n) (send_place r n) None (λ x. Stays (acknowledged x s k n))
      (λ e.
      let both = and_parts (leb r.base n) (ltb n r.next) e in
      waiting_keeps (send_place r n) s k n i o h (leb-true r.base n both.0) (ltb-true n r.next both.1))
      (λ _. put_read c W T s i k o)

  arrive_keeps : (p : Packet) (s : State) (k : ℕ) → Holds c W T s → k < 64 → (record_of s k).status ≡ Open → (k ≡ c → Carries p W (ArrivedAt (record_of s k))) → Stays (arrive s k p)
  arrive_keeps (packet.Data g) s k i l o h = data_keeps s k g i l o h
  arrive_keeps (packet.Acknowledgement n) s k i l o h = acknowledgement_keeps s k n i o (λ own. (h own).1)
  arrive_keeps (packet.Keepalive n) s k i l o h = i

  arrival_keeps : (s : State) (e : Expired Packet) → Holds c W T s → OnWire c W s.table e.owner e.payload → Stays (arrival s e)
  arrival_keeps s e i h =
      cond_both (live s e.owner) _ _ Stays
      (λ a. let o = live_by s e.owner a in arrive_keeps e.payload s e.owner i o.0 o.1 h) (λ _. i)

  -- a resend timer
  resend_rule_keeps : (s : State) (k : ℕ) (a : Attempt) → Holds c W T s → (record_of s k).status ≡ Open → InResend c W k a → Stays (resend_rule s k a)
  unfolding resend_rule
  resend_rule_keeps s k a i o h =
      let s1 : State = (resend_packet s k a).after in
      let s2 : State = with_resend s1 (restart_resend s k a).after in
      let i1 : Holds c W T s1 = transmit_keeps c W T s i k (packet.Data a.segment) h in
      let i2 : Holds c W T s2 =
      resend_keeps c W T s1 i1 (restart_resend s k a).after
      (start_keeps (InResend c W) s.resend (in_ticks s (wait_of s k (again a))) k (again a) i.resend h) in
      or_store_by Stays Resend (restart_resend s k a).answer s1 (resend_started s k a) (λ _ _. i1)
      (λ t _. put_open c W T s2 i2 k (resent (record_of s k) a.segment.sequence t) o
      (λ _ l. resent_changes W T (record_of s k) l a.segment.sequence t))

  resend_due_keeps : (s : State) (e : Expired Attempt) → Holds c W T s → InResend c W e.owner e.payload → Stays (resend s e)
  resend_due_keeps s e i h =
      cond_both (live s e.owner) _ _ Stays
      (λ a. resend_rule_keeps s e.owner e.payload i (live_by s e.owner a).1 h) (λ _. i)

  -- a keepalive timer
  beat_rule_keeps : (s : State) (k : ℕ) → Holds c W T s → (record_of s k).status ≡ Open → Stays (beat_rule s k)
  unfolding beat_rule
  beat_rule_keeps s k i o =
      let s1 : State = (beat_packet s k).after in
      let i1 : Holds c W T s1 = transmit_keeps c W T s i k (packet.Keepalive (record_of s k).next) (λ _. tt) in
      or_store_by Stays Keepalive (start_keepalive s k).answer s1 (beat_started s k) (λ _ _. i1)
      (λ t _. put_open c W T s1 i1 k (kept_alive (record_of s k) t) o
      (λ _ l. record { live = standing_live W T (record_of s k) l (record_of s k).status t; status = refl; arrived = λ n h. h }))

  beat_due_keeps : (s : State) (e : Expired ℕ) → Holds c W T s → Stays (beat s e)
  beat_due_keeps s e i =
      cond_both (live s e.owner) _ _ Stays (λ a. beat_rule_keeps s e.owner i (live_by s e.owner a).1) (λ _. i)

  -- the clocks
  tick_keeps : (s : State) → Holds c W T s → Stays (tick_rule s)
  unfolding tick_rule
  tick_keeps s i =
      let s1 : State = advanced_wire s in
      let s2 : State = advanced_resend s1 in
      let i1 : Holds c W T s1 = wire_keeps c W T s i (advance_rule s.wire).after (advance_keeps (OnWire c W s.table) s.wire i.wire) in
      let i2 : Holds c W T s2 =
      resend_keeps c W T s1 i1 (advance_rule s.resend).after (advance_keeps (InResend c W) s.resend i.resend) in
      or_store_by Stays Wire (advance_rule s.wire).answer s (advance_resend s1) (λ _ _. i)
      (λ _ _. or_store_by Stays Resend (advance_rule s.resend).answer s1 (advance_keepalive s2) (λ _ _. i1)
      (λ _ _. or_store_by Stays Keepalive (advance_rule s.keepalive).answer s2 (all_advanced s2) (λ _ _. i2) (λ _ _. i2)))

  -- the first that is due
  by_keepalive_keeps : (x : Option (Expired ℕ)) (s : State) → Holds c W T s → Stays (by_keepalive x s)
  by_keepalive_keeps (Some e) s i = beat_due_keeps (with_keepalive s (take_rule s.keepalive).after) e i
  by_keepalive_keeps None s i = tick_keeps s i

  by_resend_keeps : (x : Option (Expired Attempt)) (s : State) → Holds c W T s → Fires (InResend c W) x → Stays (by_resend x s)
  by_resend_keeps (Some e) s i h =
      let m = (take_rule s.resend).after in
      resend_due_keeps (with_resend s m) e (resend_keeps c W T s i m (take_keeps (InResend c W) s.resend i.resend)) h
  by_resend_keeps None s i h = by_keepalive_keeps (take_rule s.keepalive).answer s i

  by_wire_keeps : (x : Option (Expired Packet)) (s : State) → Holds c W T s → Fires (OnWire c W s.table) x → Stays (by_wire x s)
  by_wire_keeps (Some e) s i h =
      let m = (take_rule s.wire).after in
      arrival_keeps (with_wire s m) e (wire_keeps c W T s i m (take_keeps (OnWire c W s.table) s.wire i.wire)) h
  by_wire_keeps None s i h = by_resend_keeps (take_rule s.resend).answer s i (take_fires (InResend c W) s.resend i.resend)

  pub moved_keeps : (s : State) → Holds c W T s → Holds c W T (moved s).after
  moved_keeps s i = by_wire_keeps (take_rule s.wire).answer s i (take_fires (OnWire c W s.table) s.wire i.wire)
