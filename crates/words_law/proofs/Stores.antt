-- What holds of each pending entry of a store, over the calls of the store.
use Rattle.std.proofs.Common.{ℕ, zero, suc, ◌+◌, true, false, cond, eqb, List, [], ◌∷◌, Some, None, Option}
use Rattle.std.specs.List.{AllByRecursion}
use Rattle.std.proofs.ByRecursion.{All-push, All-weaker}
use Rattle.std.proofs.lemmas.Bool.{cond_both}
use Rattle.timer.specs.declared.fault.TimerFault.{TimerFault}
use Rattle.timer.specs.declared.fault.TimerFault.TheVariants.{Due, Ended}
use Rattle.timer.specs.declared.expired.Expired.{Expired}
use Rattle.timer.specs.Meaning.{Entry, Meaning}
use Rattle.timer.specs.Rules.{find, without, due_entry, check_rule, started, start_rule, stopped, stop_rule, taken, take_rule, due_rule, refused, advance_rule}
use Rattle.link.specs.declared.packet.Packet.{Packet}
use Rattle.link.specs.Fate.{fate_delay, fate_copies}
use Rattle.channel.specs.declared.record.Attempt.{Attempt}
use Rattle.channel.specs.Record.{stop}
use Rattle.protocol.specs.Link.{carried, carry}
use Rattle.protocol.specs.Rules.{place_cancelled, all_cancelled}

-- a fact of an owner and a payload, of every entry
abbrev pub Each : {P : Type 0} → (ℕ → P → Type 0) → List (Entry P) → Type 0
Each Q es = AllByRecursion (λ e. Q e.owner e.payload) es

abbrev pub Pending : {P : Type 0} → (ℕ → P → Type 0) → Meaning P → Type 0
Pending Q m = Each Q m.pending

-- and of the entry that a take answers
abbrev pub Fires : {P : Type 0} → (ℕ → P → Type 0) → Option (Expired P) → Type 0
Fires Q None = Unit {0}
Fires Q (Some e) = Q e.owner e.payload

module _ {P : Type 0} (Q : ℕ → P → Type 0) where
  pub each_weaker : (R : ℕ → P → Type 0) → ((o : ℕ) (p : P) → Q o p → R o p) → (es : List (Entry P)) → Each Q es → Each R es
  each_weaker R f es h =
      All-weaker (λ (e : Entry P). Q e.owner e.payload) (λ e. R e.owner e.payload) (λ e. f e.owner e.payload) es h

  without_all : (t : ℕ) (es : List (Entry P)) → Each Q es → Each Q (without t es)
  without_all t [] h = tt
  without_all t (e ∷ es) h =
      elim (eqb e.ticket t) as (λ b. Each Q (cond b es (e ∷ without t es))) [
        | true ↦ h.1
        | false ↦ (h.0, without_all t es h.1)
      ]

  started_keeps : (f : Option TimerFault) (m : Meaning P) (d o : ℕ) (p : P) → Pending Q m → Q o p → Pending Q (started m d o p f).after
  started_keeps (Some f) m d o p h k = h
  started_keeps None m d o p h k =
      All-push (λ e. Q e.owner e.payload) m.pending (record { ticket = m.given + 1; deadline = d; owner = o; payload = p }) h k

  pub start_keeps : (m : Meaning P) (d o : ℕ) (p : P) → Pending Q m → Q o p → Pending Q (start_rule m d o p).after
  start_keeps m d o p h k = started_keeps (check_rule m d o) m d o p h k

  stopped_keeps : (x : Option (Entry P)) (m : Meaning P) → Pending Q m → Pending Q (stopped m x).after
  stopped_keeps None m h = h
  stopped_keeps (Some e) m h = without_all e.ticket m.pending h

  pub stop_keeps : (m : Meaning P) (t : ℕ) → Pending Q m → Pending Q (stop_rule m t).after
  stop_keeps m t h = stopped_keeps (find t m.pending) m h

  taken_keeps : (x : Option (Entry P)) (m : Meaning P) → Pending Q m → Pending Q (taken m x).after
  taken_keeps None m h = h
  taken_keeps (Some e) m h = without_all e.ticket m.pending h

  pub take_keeps : (m : Meaning P) → Pending Q m → Pending Q (take_rule m).after
  take_keeps m h = taken_keeps (due_entry m.now m.pending) m h

  due_fires : (m : Meaning P) (n : ℕ) (es : List (Entry P)) → Each Q es → Fires Q (taken m (due_entry n es)).answer
  due_fires m n [] h = tt
  due_fires m n (e ∷ es) h =
      elim (eqb e.deadline n) as (λ b. Fires Q (taken m (cond b (Some e) (due_entry n es))).answer) [
        | true ↦ h.0
        | false ↦ due_fires m n es h.1
      ]

  pub take_fires : (m : Meaning P) → Pending Q m → Fires Q (take_rule m).answer
  take_fires m h = due_fires m m.now m.pending h

  pub advance_keeps : (m : Meaning P) → Pending Q m → Pending Q (advance_rule m).after
  advance_keeps m h =
      cond_both (due_rule m) (refused m Due) _ (λ d. Pending Q d.after) (λ _. h)
      (λ _. cond_both (eqb m.now m.last) (refused m Ended) _ (λ d. Pending Q d.after) (λ _. h) (λ _. h))

-- the copies of a packet
carried_keeps : (Q : ℕ → Packet → Type 0) (n : ℕ) (m : Meaning Packet) (d o : ℕ) (p : Packet) → Pending Q m → Q o p → Pending Q (carried n m d o p).after
carried_keeps Q zero m d o p h k = h
carried_keeps Q (suc n) m d o p h k = start_keeps Q (carried n m d o p).after d o p (carried_keeps Q n m d o p h k) k

pub carry_keeps : (Q : ℕ → Packet → Type 0) (f : ℕ) (m : Meaning Packet) (o : ℕ) (p : Packet) → Pending Q m → Q o p → Pending Q (carry f m o p).after
unfolding carry
carry_keeps Q f m o p h k = carried_keeps Q (fate_copies f) m (stop (m.now + fate_delay f)) o p h k

-- the timers of a channel that closes
cancelled_keeps : (Q : ℕ → Attempt → Type 0) (p : Option ℕ) (m : Meaning Attempt) → Pending Q m → Pending Q (place_cancelled p m).after
cancelled_keeps Q None m h = h
cancelled_keeps Q (Some t) m h = stop_keeps Q m t h

pub cancel_keeps : (Q : ℕ → Attempt → Type 0) (ps : List (Option ℕ)) (m : Meaning Attempt) → Pending Q m → Pending Q (all_cancelled ps m).after
cancel_keeps Q [] m h = h
cancel_keeps Q (p ∷ ps) m h = cancel_keeps Q ps (place_cancelled p m).after (cancelled_keeps Q p m h)
