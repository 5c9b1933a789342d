-- A call of the rig keeps what lasts of each store, unless it lets the tick go on.
use Rattle.std.proofs.Common.{ℕ, Some, None, Option}
use Rattle.std.proofs.lemmas.Bool.{cond_both}
use Rattle.timer.specs.declared.expired.Expired.{Expired}
use Rattle.timer.specs.Meaning.{Entry}
use Rattle.timer.specs.Rules.{take_rule, expired}
use Rattle.trace.specs.declared.action.Segment.{Segment}
use Rattle.trace.specs.declared.fault.RigFault.{RigFault}
use Rattle.trace.specs.declared.fault.RigFault.TheVariants as fault
use Rattle.trace.specs.declared.queue.Queue.TheVariants.{Resend, Keepalive}
use Rattle.link.specs.declared.packet.Packet.{Packet}
use Rattle.link.specs.declared.packet.Packet.TheVariants as packet
use Rattle.channel.specs.declared.record.Attempt.{Attempt}
use Rattle.channel.specs.Record.{acknowledges, awaits, window_full, again}
use Rattle.protocol.specs.State.{State, record_of, in_ticks, low, with_wire, with_resend, with_keepalive}
use Rattle.protocol.specs.Rules.{Events, Step, no_events, refuse, not_unused, not_open, start_keepalive, start_resend, wait_of, open_started, open_rule, next_attempt, next_segment, send_packet, send_started, send_spent, send_rule, receive_rule, cancel_resends, cancel_keepalive, close_open, close_rule, live, acknowledge, data_acknowledged, data_dropped, data_rule, stop_timer, acknowledged, acknowledgement_rule, arrive, arrival, resend_packet, restart_resend, resend_started, resend_rule, resend, beat_packet, beat_started, beat_rule, beat, tick_rule, rule}
use Rattle.protocol.specs.declared.operation.Operation.{Operation}
use Rattle.protocol.specs.declared.operation.Operation.TheVariants as operation
use Rattle.protocol.proofs.Ways.{unless_by, or_store_by, on_channel_by}
use Rattle.timers_law.proofs.Ways.{Idle, fired_wire, fired_resend, fired_keepalive, step_by, moved_by}
use Rattle.timers_law.proofs.Keeps.{Invariant, Holds, Kept, more_wire, more_resend, more_keepalive, still, noting_wire, noting_resend, noting_keepalive, transmit_keeps, cancel_all_keeps}

module _ (v : Invariant) (s : State) (es : Events) (h : Holds v s es) where
  stay : (f : RigFault) → Kept v es (refuse f s)
  stay f = still v s es h

  -- open
  open_started_keeps : (c ticket : ℕ) → Kept v es (open_started s c ticket)
  open_started_keeps c ticket =
      noting_keepalive v _ es _ (start_keepalive s c).events (still v _ _
      (record {
        interval = h.interval;
        wire = h.wire;
        resend = h.resend;
        keepalive = v.keepalive.start s.keepalive es.keepalive (in_ticks s s.interval) c c h.keepalive;
      }))

  open_keeps : (c : ℕ) → Kept v es (open_rule s c)
  unfolding open_rule
  open_keeps c =
      on_channel_by (Kept v es) s c _ stay
      (λ _. unless_by (Kept v es) (not_unused s c) fault.State s _ (stay fault.State) (λ _.
      unless_by (Kept v es) (low s) fault.Spent s _ (stay fault.Spent) (λ _.
      or_store_by (Kept v es) Keepalive (start_keepalive s c).answer s (open_started s c) (λ f _. still v s es h) (λ t _. open_started_keeps c t))))

  -- a resend timer of a channel starts
  start_resend_keeps : (c : ℕ) (a : Attempt) → v.OnResend (start_resend s c a).after (more_resend es (start_resend s c a).events).resend
  start_resend_keeps c a = v.resend.start s.resend es.resend (in_ticks s (wait_of s c a)) c a h.resend

  -- send
  send_started_keeps : (c word ticket : ℕ) → Kept v es (send_started s c word ticket)
  send_started_keeps c word ticket =
      let a = next_attempt s c word in
      let t = transmit_keeps v (with_resend s (start_resend s c a).after) (more_resend es (start_resend s c a).events) c (packet.Data (next_segment s c word))
      (record { interval = h.interval; wire = h.wire; resend = start_resend_keeps c a; keepalive = h.keepalive }) in
      noting_resend v _ es _ (start_resend s c a).events (noting_wire v _ (more_resend es (start_resend s c a).events) no_events (send_packet s c word).events (still v _ _
      (record { interval = t.interval; wire = t.wire; resend = t.resend; keepalive = t.keepalive })))

  send_keeps : (c word : ℕ) → Kept v es (send_rule s c word)
  unfolding send_rule
  send_keeps c word =
      on_channel_by (Kept v es) s c _ stay
      (λ _. unless_by (Kept v es) (not_open s c) fault.State s _ (stay fault.State) (λ _.
      unless_by (Kept v es) (send_spent s c) fault.Spent s _ (stay fault.Spent) (λ _.
      unless_by (Kept v es) (window_full (record_of s c)) fault.Window s _ (stay fault.Window) (λ _.
      or_store_by (Kept v es) Resend (start_resend s c (next_attempt s c word)).answer s (send_started s c word) (λ f _. still v s es h) (λ t _. send_started_keeps c word t)))))

  -- take
  receive_keeps : (c : ℕ) → Kept v es (receive_rule s c)
  unfolding receive_rule
  receive_keeps c =
      on_channel_by (Kept v es) s c _ stay
      (λ _. unless_by (Kept v es) (not_open s c) fault.State s _ (stay fault.State) (λ _.
      still v _ es (record { interval = h.interval; wire = h.wire; resend = h.resend; keepalive = h.keepalive })))

  -- close
  close_open_keeps : (c : ℕ) → Kept v es (close_open s c)
  close_open_keeps c =
      noting_resend v _ es _ (cancel_resends s c).events (noting_keepalive v _ (more_resend es (cancel_resends s c).events) no_events (cancel_keepalive s c).events (still v _ _
      (record {
        interval = h.interval;
        wire = h.wire;
        resend = cancel_all_keeps v (record_of s c).sending s.resend es.resend h.resend;
        keepalive = v.keepalive.stop s.keepalive es.keepalive (record_of s c).keepalive h.keepalive;
      })))

  close_keeps : (c : ℕ) → Kept v es (close_rule s c)
  unfolding close_rule
  close_keeps c =
      on_channel_by (Kept v es) s c _ stay
      (λ _. unless_by (Kept v es) (not_open s c) fault.State s _ (stay fault.State) (λ _. close_open_keeps c))

  -- a packet arrives
  data_keeps : (o : ℕ) (x : Segment) → Kept v es (data_rule s o x)
  unfolding data_rule
  data_keeps o x =
      cond_both (acknowledges (record_of s o) x.sequence) (data_acknowledged s o x) (data_dropped s o x) (Kept v es)
      (λ _.
      let t = transmit_keeps v s es o (packet.Acknowledgement x.sequence) h in
      noting_wire v _ es _ (acknowledge s o x.sequence).events (still v _ _
      (record { interval = t.interval; wire = t.wire; resend = t.resend; keepalive = t.keepalive })))
      (λ _. still v _ es (record { interval = h.interval; wire = h.wire; resend = h.resend; keepalive = h.keepalive }))

  acknowledged_keeps : (ticket : Option ℕ) (o sequence : ℕ) → Kept v es (acknowledged ticket s o sequence)
  acknowledged_keeps None o sequence =
      still v _ es (record { interval = h.interval; wire = h.wire; resend = h.resend; keepalive = h.keepalive })
  acknowledged_keeps (Some ticket) o sequence =
      noting_resend v _ es _ (stop_timer s ticket).events (still v _ _
      (record {
        interval = h.interval;
        wire = h.wire;
        resend = v.resend.stop s.resend es.resend ticket h.resend;
        keepalive = h.keepalive;
      }))

  acknowledgement_keeps : (o sequence : ℕ) → Kept v es (acknowledgement_rule s o sequence)
  unfolding acknowledgement_rule
  acknowledgement_keeps o sequence = acknowledged_keeps (awaits (record_of s o) sequence) o sequence

  arrive_keeps : (o : ℕ) (x : Packet) → Kept v es (arrive s o x)
  arrive_keeps o (packet.Data segment) = data_keeps o segment
  arrive_keeps o (packet.Acknowledgement sequence) = acknowledgement_keeps o sequence
  arrive_keeps o (packet.Keepalive sequence) = still v s es h

  pub arrival_keeps : (e : Expired Packet) → Kept v es (arrival s e)
  arrival_keeps e =
      cond_both (live s e.owner) _ _ (Kept v es) (λ _. arrive_keeps e.owner e.payload) (λ _. still v s es h)

  -- a word is sent again
  resend_rule_keeps : (o : ℕ) (a : Attempt) → Kept v es (resend_rule s o a)
  unfolding resend_rule
  resend_rule_keeps o a =
      let xs = (resend_packet s o a).events in
      let t = transmit_keeps v s es o (packet.Data a.segment) h in
      noting_wire v _ es _ xs
      (or_store_by (Kept v (more_wire es xs)) Resend (restart_resend s o a).answer (resend_packet s o a).after (resend_started s o a)
      (λ f _. still v _ _ t)
      (λ n _. noting_resend v _ (more_wire es xs) no_events (restart_resend s o a).events (still v _ _
      (record { interval = t.interval; wire = t.wire; resend = start_resend_keeps o (again a); keepalive = t.keepalive }))))

  pub resend_keeps : (e : Expired Attempt) → Kept v es (resend s e)
  resend_keeps e =
      cond_both (live s e.owner) _ _ (Kept v es) (λ _. resend_rule_keeps e.owner e.payload) (λ _. still v s es h)

  -- a channel gives a sign of life
  beat_rule_keeps : (o : ℕ) → Kept v es (beat_rule s o)
  unfolding beat_rule
  beat_rule_keeps o =
      let xs = (beat_packet s o).events in
      let t = transmit_keeps v s es o (packet.Keepalive (record_of s o).next) h in
      noting_wire v _ es _ xs
      (or_store_by (Kept v (more_wire es xs)) Keepalive (start_keepalive s o).answer (beat_packet s o).after (beat_started s o)
      (λ f _. still v _ _ t)
      (λ n _. noting_keepalive v _ (more_wire es xs) no_events (start_keepalive s o).events (still v _ _
      (record {
        interval = t.interval;
        wire = t.wire;
        resend = t.resend;
        keepalive = v.keepalive.start s.keepalive es.keepalive (in_ticks s s.interval) o o h.keepalive;
      }))))

  pub beat_keeps : (e : Expired ℕ) → Kept v es (beat s e)
  beat_keeps e = cond_both (live s e.owner) _ _ (Kept v es) (λ _. beat_rule_keeps e.owner) (λ _. still v s es h)

module _ (v : Invariant) (s : State) (es : Events) (h : Holds v s es) where
  fired_wire_keeps : (e : Entry Packet) → Kept v es (fired_wire s e)
  fired_wire_keeps e =
      noting_wire v _ es _ (take_rule s.wire).events
      (arrival_keeps v (with_wire s (take_rule s.wire).after) (more_wire es (take_rule s.wire).events)
      (record {
        interval = h.interval;
        wire = v.wire.take s.wire es.wire h.wire;
        resend = h.resend;
        keepalive = h.keepalive;
      })
      (expired e))

  fired_resend_keeps : (e : Entry Attempt) → Kept v es (fired_resend s e)
  fired_resend_keeps e =
      noting_resend v _ es _ (take_rule s.resend).events
      (resend_keeps v (with_resend s (take_rule s.resend).after) (more_resend es (take_rule s.resend).events)
      (record {
        interval = h.interval;
        wire = h.wire;
        resend = v.resend.take s.resend es.resend h.resend;
        keepalive = h.keepalive;
      })
      (expired e))

  fired_keepalive_keeps : (e : Entry ℕ) → Kept v es (fired_keepalive s e)
  fired_keepalive_keeps e =
      noting_keepalive v _ es _ (take_rule s.keepalive).events
      (beat_keeps v (with_keepalive s (take_rule s.keepalive).after) (more_keepalive es (take_rule s.keepalive).events)
      (record {
        interval = h.interval;
        wire = h.wire;
        resend = h.resend;
        keepalive = v.keepalive.take s.keepalive es.keepalive h.keepalive;
      })
      (expired e))

  -- every call, where what is kept and what the next tick leads to give Q
  pub rule_by : (Q : Step → Type 0) → ((p : Step) → Kept v es p → Q p) → (Idle s → Q (tick_rule s)) → (x : Operation) → Q (rule s x)
  rule_by Q kept tick (operation.Open c) = kept _ (open_keeps v s es h c)
  rule_by Q kept tick (operation.Send c word) = kept _ (send_keeps v s es h c word)
  rule_by Q kept tick (operation.Take c) = kept _ (receive_keeps v s es h c)
  rule_by Q kept tick (operation.Close c) = kept _ (close_keeps v s es h c)
  rule_by Q kept tick operation.Step =
      step_by Q s (kept _ (still v s es h)) (kept _ (still v s es h)) (kept _ (still v s es h)) (λ _ more.
      moved_by Q s (λ e _. kept _ (fired_wire_keeps e)) (λ e _. kept _ (fired_resend_keeps e)) (λ e _. kept _ (fired_keepalive_keeps e)) tick more)
