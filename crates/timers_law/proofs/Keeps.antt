-- What starts, stops and takes keep of a store, the parts of a call keep of all three.
use Rattle.std.proofs.Common.{◌≡◌, ℕ, zero, suc, ◌+◌, Option, Some, None, List, [], ◌∷◌, ◌++◌, sym, subst, append_assoc}
use Rattle.std.proofs.lemmas.List.{append-nil}
use Rattle.timer.specs.Meaning.{Meaning}
use Rattle.timer.specs.Rules.{Event, start_rule, stop_rule, take_rule}
use Rattle.link.specs.declared.packet.Packet.{Packet}
use Rattle.link.specs.Fate.{fate_delay, fate_copies}
use Rattle.channel.specs.declared.record.Attempt.{Attempt}
use Rattle.channel.specs.Record.{stop}
use Rattle.protocol.specs.State.{State}
use Rattle.protocol.specs.Link.{carried, carry, next_fate, transmit}
use Rattle.protocol.specs.Rules.{Events, Step, no_events, joined, on_wire, on_resend, on_keepalive, place_cancelled, all_cancelled}

-- what lasts of a store and of what happened to its timers, but for the clock
pub record Lasting {P : Type 0} (A : Meaning P → List Event → Type 0) : Type 0 where
  pub start : (m : Meaning P) (es : List Event) (deadline owner : ℕ) (payload : P) → A m es → A (start_rule m deadline owner payload).after (es ++ (start_rule m deadline owner payload).events)
  pub stop : (m : Meaning P) (es : List Event) (ticket : ℕ) → A m es → A (stop_rule m ticket).after (es ++ (stop_rule m ticket).events)
  pub take : (m : Meaning P) (es : List Event) → A m es → A (take_rule m).after (es ++ (take_rule m).events)

-- what lasts of each of the three stores
pub record Invariant : Type 1 where
  pub OnWire : Meaning Packet → List Event → Type 0
  pub OnResend : Meaning Attempt → List Event → Type 0
  pub OnKeepalive : Meaning ℕ → List Event → Type 0
  pub wire : Lasting OnWire
  pub resend : Lasting OnResend
  pub keepalive : Lasting OnKeepalive
  pub interval : ℕ

pub record Holds (v : Invariant) (s : State) (es : Events) : Type 0 where
  pub interval : s.interval ≡ v.interval
  pub wire : v.OnWire s.wire es.wire
  pub resend : v.OnResend s.resend es.resend
  pub keepalive : v.OnKeepalive s.keepalive es.keepalive

abbrev pub Kept : Invariant → Events → Step → Type 0
Kept v es p = Holds v p.after (joined es p.events)

-- more happened to the timers of one store
abbrev pub more_wire : Events → List Event → Events
more_wire es xs = record { wire = es.wire ++ xs; resend = es.resend; keepalive = es.keepalive }

abbrev pub more_resend : Events → List Event → Events
more_resend es xs = record { wire = es.wire; resend = es.resend ++ xs; keepalive = es.keepalive }

abbrev pub more_keepalive : Events → List Event → Events
more_keepalive es xs = record { wire = es.wire; resend = es.resend; keepalive = es.keepalive ++ xs }

module _ (v : Invariant) where
  -- nothing happened to a timer
  pub still : (s : State) (es : Events) → Holds v s es → Holds v s (joined es no_events)
  still s es h =
      record {
        interval = h.interval;
        wire = subst (v.OnWire s.wire) (sym (append-nil es.wire)) h.wire;
        resend = subst (v.OnResend s.resend) (sym (append-nil es.resend)) h.resend;
        keepalive = subst (v.OnKeepalive s.keepalive) (sym (append-nil es.keepalive)) h.keepalive;
      }

  -- first some events of one store, and then others
  pub noting_wire : (s : State) (es ys : Events) (xs : List Event) → Holds v s (joined (more_wire es xs) ys) → Holds v s (joined es (joined (on_wire xs) ys))
  noting_wire s es ys xs h =
      record {
        interval = h.interval;
        wire = subst (v.OnWire s.wire) (append_assoc es.wire xs ys.wire) h.wire;
        resend = h.resend;
        keepalive = h.keepalive;
      }

  pub noting_resend : (s : State) (es ys : Events) (xs : List Event) → Holds v s (joined (more_resend es xs) ys) → Holds v s (joined es (joined (on_resend xs) ys))
  noting_resend s es ys xs h =
      record {
        interval = h.interval;
        wire = h.wire;
        resend = subst (v.OnResend s.resend) (append_assoc es.resend xs ys.resend) h.resend;
        keepalive = h.keepalive;
      }

  pub noting_keepalive : (s : State) (es ys : Events) (xs : List Event) → Holds v s (joined (more_keepalive es xs) ys) → Holds v s (joined es (joined (on_keepalive xs) ys))
  noting_keepalive s es ys xs h =
      record {
        interval = h.interval;
        wire = h.wire;
        resend = h.resend;
        keepalive = subst (v.OnKeepalive s.keepalive) (append_assoc es.keepalive xs ys.keepalive) h.keepalive;
      }

  -- a packet is handed to the link
  carried_keeps : (n : ℕ) (m : Meaning Packet) (es : List Event) (d c : ℕ) (x : Packet) → v.OnWire m es → v.OnWire (carried n m d c x).after (es ++ (carried n m d c x).events)
  carried_keeps zero m es d c x h = subst (v.OnWire m) (sym (append-nil es)) h
  carried_keeps (suc n) m es d c x h =
      let l = carried n m d c x in
      subst (v.OnWire (start_rule l.after d c x).after) (append_assoc es l.events (start_rule l.after d c x).events)
      (v.wire.start l.after (es ++ l.events) d c x (carried_keeps n m es d c x h))

  carry_keeps : (f : ℕ) (m : Meaning Packet) (es : List Event) (c : ℕ) (x : Packet) → v.OnWire m es → v.OnWire (carry f m c x).after (es ++ (carry f m c x).events)
  unfolding carry
  carry_keeps f m es c x h = carried_keeps (fate_copies f) m es (stop (m.now + fate_delay f)) c x h

  pub transmit_keeps : (s : State) (es : Events) (c : ℕ) (x : Packet) → Holds v s es → Holds v (transmit s c x).after (more_wire es (transmit s c x).events)
  transmit_keeps s es c x h =
      record {
        interval = h.interval;
        wire = carry_keeps (next_fate s) s.wire es.wire c x h.wire;
        resend = h.resend;
        keepalive = h.keepalive;
      }

  -- the resend timers of a channel are stopped
  cancel_place_keeps : (p : Option ℕ) (m : Meaning Attempt) (es : List Event) → v.OnResend m es → v.OnResend (place_cancelled p m).after (es ++ (place_cancelled p m).events)
  cancel_place_keeps None m es h = subst (v.OnResend m) (sym (append-nil es)) h
  cancel_place_keeps (Some ticket) m es h = v.resend.stop m es ticket h

  pub cancel_all_keeps : (ps : List (Option ℕ)) (m : Meaning Attempt) (es : List Event) → v.OnResend m es → v.OnResend (all_cancelled ps m).after (es ++ (all_cancelled ps m).events)
  cancel_all_keeps [] m es h = subst (v.OnResend m) (sym (append-nil es)) h
  cancel_all_keeps (p ∷ ps) m es h =
      let l = place_cancelled p m in
      let n = all_cancelled ps l.after in
      subst (v.OnResend n.after) (append_assoc es l.events n.events)
      (cancel_all_keeps ps l.after (es ++ l.events) (cancel_place_keeps p m es h))
