-- A step of the rig, way by way, for any predicate on what it leads to.
use Rattle.std.proofs.Common.{◌≡◌, ℕ, false, Some, None, Option, refl}
use Rattle.timer.specs.Meaning.{Entry, Meaning}
use Rattle.timer.specs.Rules.{due_entry, expired, taken, take_rule}
use Rattle.trace.specs.declared.fault.RigFault.TheVariants as fault
use Rattle.link.specs.declared.packet.Packet.{Packet}
use Rattle.channel.specs.declared.record.Attempt.{Attempt}
use Rattle.protocol.specs.State.{State, with_wire, with_resend, with_keepalive, table_short, low}
use Rattle.protocol.specs.Rules.{Step, refuse, noting, on_wire, on_resend, on_keepalive, arrival, resend, beat, tick_rule, by_wire, by_resend, by_keepalive, moved, ending, step_rule}
use Rattle.protocol.proofs.Ways.{unless_by}

-- the first entry of a store that is due
abbrev pub next_due : {P : Type 0} → Meaning P → Option (Entry P)
next_due m = due_entry m.now m.pending

-- an entry is taken and acted on
abbrev pub fired_wire : State → Entry Packet → Step
fired_wire s e =
    noting (on_wire (take_rule s.wire).events) (arrival (with_wire s (take_rule s.wire).after) (expired e))

abbrev pub fired_resend : State → Entry Attempt → Step
fired_resend s e =
    noting (on_resend (take_rule s.resend).events) (resend (with_resend s (take_rule s.resend).after) (expired e))

abbrev pub fired_keepalive : State → Entry ℕ → Step
fired_keepalive s e =
    noting (on_keepalive (take_rule s.keepalive).events) (beat (with_keepalive s (take_rule s.keepalive).after) (expired e))

-- nothing is due, and the last tick is not near
pub record Idle (s : State) : Type 0 where
  pub wire : next_due s.wire ≡ None
  pub resend : next_due s.resend ≡ None
  pub keepalive : next_due s.keepalive ≡ None
  pub more : ending s ≡ false

module _ (Q : Step → Type 0) where
  pub step_by : (s : State) → Q (refuse fault.Table s) → Q (refuse fault.Spent s) → Q (refuse fault.Ending s) → (low s ≡ false → ending s ≡ false → Q (moved s)) → Q (step_rule s)
  unfolding step_rule
  step_by s table spent end go =
      unless_by Q (table_short s.table) fault.Table s _ table (λ _.
      unless_by Q (low s) fault.Spent s _ spent (λ l. unless_by Q (ending s) fault.Ending s _ end (λ e. go l e)))

  module _ (s : State) (wire : (e : Entry Packet) → next_due s.wire ≡ Some e → Q (fired_wire s e)) (resent : (e : Entry Attempt) → next_due s.resend ≡ Some e → Q (fired_resend s e)) (beaten : (e : Entry ℕ) → next_due s.keepalive ≡ Some e → Q (fired_keepalive s e)) (idle : Idle s → Q (tick_rule s)) (more : ending s ≡ false) where
    keepalive_by : (o : Option (Entry ℕ)) → next_due s.keepalive ≡ o → next_due s.wire ≡ None → next_due s.resend ≡ None → Q (by_keepalive (taken s.keepalive o).answer s)
    keepalive_by None h a b = idle (record { wire = a; resend = b; keepalive = h; more = more })
    keepalive_by (Some e) h a b = beaten e h

    resend_by : (o : Option (Entry Attempt)) → next_due s.resend ≡ o → next_due s.wire ≡ None → Q (by_resend (taken s.resend o).answer s)
    resend_by None h a = keepalive_by (next_due s.keepalive) refl a h
    resend_by (Some e) h a = resent e h

    wire_by : (o : Option (Entry Packet)) → next_due s.wire ≡ o → Q (by_wire (taken s.wire o).answer s)
    wire_by None h = resend_by (next_due s.resend) refl h
    wire_by (Some e) h = wire e h

    pub moved_by : Q (moved s)
    moved_by = wire_by (next_due s.wire) refl
