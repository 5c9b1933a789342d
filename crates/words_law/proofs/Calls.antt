-- What holds of a channel after each call.
use Rattle.std.proofs.Common.{◌≡◌, ℕ, ◌-◌, ◌<◌, Bool, true, false, eqb, List, [], ◌∷◌, ◌++◌, length, Option, Some, None, sym, refl, ap, inl, inr, arith}
use Rattle.std.specs.Option.{option_map}
use Rattle.std.proofs.lemmas.List.{append-nil, get_or_push, length_push}
use Rattle.std.proofs.lemmas.Bool.{cases_eq, eqb-false, not-false, or_parts, eq-eqb, ne_eqb}
use Rattle.timer.specs.Meaning.{Meaning}
use Rattle.trace.specs.declared.action.Action.TheVariants as action
use Rattle.trace.specs.declared.fault.RigFault.{RigFault}
use Rattle.trace.specs.declared.fault.RigFault.TheVariants as fault
use Rattle.trace.specs.declared.queue.Queue.TheVariants.{Resend, Keepalive}
use Rattle.link.specs.declared.packet.Packet.TheVariants.{Data}
use Rattle.channel.specs.declared.record.Attempt.{Attempt}
use Rattle.channel.specs.declared.record.Channel.{Channel}
use Rattle.channel.specs.declared.record.Status.TheVariants as status
use Rattle.channel.specs.Record.{opened, is_unused, window_full, sent, receive_place, numbered, emptied, closed}
use Rattle.protocol.specs.declared.operation.Operation.{Operation}
use Rattle.protocol.specs.declared.operation.Operation.TheVariants as op
use Rattle.protocol.specs.State.{State, record_of, put, with_resend, in_ticks, table_short, low}
use Rattle.protocol.specs.Rules.{Step, give, refuse, unless, not_unused, start_keepalive, wait_of, start_resend, open_after, open_started, open_rule, next_segment, next_attempt, send_started, send_start, send_spent, send_rule, take_front, receive_rule, cancel_resends, close_open, close_rule, ending, moved, step_rule}
use Rattle.words_law.specs.Words.{on, sent_by, taken_by}
use Rattle.protocol.proofs.Ways.{unless_by, or_store_by, on_channel_by}
use Rattle.words_law.proofs.Ways.{if_open_by, unused_by}
use Rattle.words_law.proofs.Receiving.{Word, word_more}
use Rattle.words_law.proofs.Stores.{start_keeps, cancel_keeps}
use Rattle.words_law.proofs.Records.{Live, Changed, opened_live, standing_live, sent_changes, emptied_changes}
use Rattle.words_law.proofs.Invariant.{InResend, Holds, unused_bare, as_open, put_own, put_other, put_some, put_read, open_live, transmit_keeps, resend_keeps}
use Rattle.words_law.proofs.Turns.{moved_keeps}

-- what a call leaves
abbrev pub Kept : ℕ → List ℕ → List ℕ → Operation → Step → Type 0
Kept c W T x p = Holds c (W ++ sent_by c x p.answer) (T ++ taken_by c x p.answer) p.after

same : (c : ℕ) (W T V S : List ℕ) (s : State) → V ≡ [] → S ≡ [] → Holds c W T s → Holds c (W ++ V) (T ++ S) s
same c W T V S s v z i = rw (v, z, append-nil W, append-nil T) i

none : (b : Bool) → on b [] ≡ []
none true = refl
none false = refl

module _ (c : ℕ) (W T : List ℕ) (s : State) (i : Holds c W T s) where
  -- open
  opened_keeps : (k t : ℕ) → (record_of s k).status ≡ status.Unused → Holds c W T (open_after s k t)
  opened_keeps k t u =
      put_some c W T s i k (opened t)
      (λ own.
      let bare : (W ≡ []) × (T ≡ []) = unused_bare c W T s i k own u in
      (rw (bare.0, bare.1) (opened_live t), λ n q h. absurd (omega (arith, q, ap length bare.0))))

  pub open_keeps : (k : ℕ) → Kept c W T (op.Open k) (open_rule s k)
  unfolding open_rule
  open_keeps k =
      let Q : Step → Type 0 = Kept c W T (op.Open k) in
      let stay : (f : RigFault) → Q (refuse f s) = λ _. same c W T [] [] s refl refl i in
      on_channel_by Q s k _ stay (λ _.
      unless_by Q (not_unused s k) fault.State s _ (stay fault.State) (λ u.
      unless_by Q (low s) fault.Spent s _ (stay fault.Spent) (λ _.
      or_store_by Q Keepalive (start_keepalive s k).answer s (open_started s k) (λ f _. stay (fault.Store (record { queue = Keepalive; fault = f }))) (λ t _.
      same c W T [] [] (open_after s k t) refl refl
      (opened_keeps k t (unused_by (record_of s k).status (not-false (is_unused (record_of s k)) u)))))))

  -- send
  sent_own : (k w t : ℕ) → k ≡ c → k < 64 → (record_of s k).status ≡ status.Open → ((record_of s k).next ≡ 4294967295 → ⊥) → ((record_of s k).next - (record_of s k).base ≡ 8 → ⊥) →
      Holds c (W ++ w ∷ []) T (send_started s k w t).after
  sent_own k w t own l o more room =
      let r : Channel = record_of s k in
      let x : Live W T r = open_live c W T s i k own o in
      let V : List ℕ = W ++ w ∷ [] in
      let a : Attempt = next_attempt s k w in
      let d : Changed V T r (sent r t) = sent_changes W T r x w t more room in
      let word : Word V r.next w =
      (omega (arith, length_push W w, x.sends.all), sym (get_or_push W w 0 r.next (sym x.sends.all))) in
      let s1 : State = put s k (sent r t) in
      let i1 : Holds c V T s1 =
      put_own c W T s i k (sent r t) V T own l (λ n v h. word_more W w n v h) (as_open V T (sent r t) o d.live) (λ n _ h. h) in
      let m : Meaning Attempt = (start_resend s k a).after in
      let i2 : Holds c V T (with_resend s1 m) =
      resend_keeps c V T s1 i1 m (start_keeps (InResend c V) s.resend (in_ticks s (wait_of s k a)) k a i1.resend (λ _. word)) in
      transmit_keeps c V T (with_resend s1 m) i2 k (Data (next_segment s k w)) (λ _. word)

  sent_other : (k w t : ℕ) → (k ≡ c → ⊥) → Holds c W T (send_started s k w t).after
  sent_other k w t other =
      let s1 : State = put s k (sent (record_of s k) t) in
      let a : Attempt = next_attempt s k w in
      let i1 : Holds c W T s1 = put_other c W T s i k (sent (record_of s k) t) other in
      let m : Meaning Attempt = (start_resend s k a).after in
      let i2 : Holds c W T (with_resend s1 m) =
      resend_keeps c W T s1 i1 m
      (start_keeps (InResend c W) s.resend (in_ticks s (wait_of s k a)) k a i1.resend (λ own. absurd (other own))) in
      transmit_keeps c W T (with_resend s1 m) i2 k (Data (next_segment s k w)) (λ own. absurd (other own))

  pub send_keeps : (k w : ℕ) → Kept c W T (op.Send k w) (send_rule s k w)
  unfolding send_rule
  send_keeps k w =
      let Q : Step → Type 0 = Kept c W T (op.Send k w) in
      let r : Channel = record_of s k in
      let stay : (f : RigFault) → Q (refuse f s) = λ _. same c W T (on (eqb k c) []) [] s (none (eqb k c)) refl i in
      if_open_by Q s k (unless (send_spent s k) fault.Spent s (unless (window_full r) fault.Window s (send_start s k w))) stay (λ l o.
      unless_by Q (send_spent s k) fault.Spent s (unless (window_full r) fault.Window s (send_start s k w)) (stay fault.Spent) (λ more.
      unless_by Q (window_full r) fault.Window s (send_start s k w) (stay fault.Window) (λ room.
      or_store_by Q Resend (start_resend s k (next_attempt s k w)).answer s (send_started s k w) (λ f _. stay (fault.Store (record { queue = Resend; fault = f }))) (λ t _.
      elim (cases_eq k c) [
        | inl own ↦
            rw (eq-eqb k c own, append-nil T)
            (sent_own k w t own l o
            (eqb-false r.next 4294967295 (or_parts (low s) (eqb r.next 4294967295) more).1) (eqb-false (r.next - r.base) 8 room))
        | inr other ↦ rw (ne_eqb k c other, append-nil W, append-nil T) (sent_other k w t other)
      ]))))

  -- take
  taken_keeps : (x : Option ℕ) (k : ℕ) → k < 64 → (record_of s k).status ≡ status.Open → receive_place (record_of s k) (record_of s k).taken ≡ x →
      Kept c W T (op.Take k) (give (action.Taken k (option_map (numbered (record_of s k).taken) x)) (put s k (emptied x (record_of s k))))
  taken_keeps None k l o e =
      same c W T [] (on (eqb k c) []) (put s k (record_of s k)) refl (none (eqb k c))
      (put_read c W T s i k o)
  taken_keeps (Some w) k l o e = elim (cases_eq k c) [
    | inl own ↦
        let r : Channel = record_of s k in
        let d : Changed W (T ++ w ∷ []) r (emptied (Some w) r) = emptied_changes W T r (open_live c W T s i k own o) w e in
        rw (eq-eqb k c own, append-nil W)
        (put_own c W T s i k (emptied (Some w) r) W (T ++ w ∷ []) own l (λ n v h. h)
        (as_open W (T ++ w ∷ []) (emptied (Some w) r) o d.live) (λ n _ h. d.arrived n h))
    | inr other ↦ rw (ne_eqb k c other, append-nil W, append-nil T) (put_other c W T s i k (emptied (Some w) (record_of s k)) other)
  ]

  pub take_keeps : (k : ℕ) → Kept c W T (op.Take k) (receive_rule s k)
  unfolding receive_rule
  take_keeps k =
      let Q : Step → Type 0 = Kept c W T (op.Take k) in
      let r : Channel = record_of s k in
      let stay : (f : RigFault) → Q (refuse f s) = λ _. same c W T [] (on (eqb k c) []) s refl (none (eqb k c)) i in
      if_open_by Q s k (take_front s k) stay (λ l o. taken_keeps (receive_place r r.taken) k l o refl)

  -- close
  closed_keeps : (k : ℕ) → (record_of s k).status ≡ status.Open → Holds c W T (close_open s k).after
  closed_keeps k o =
      let r : Channel = record_of s k in
      let m : Meaning Attempt = (cancel_resends s k).after in
      let i1 : Holds c W T (with_resend s m) = resend_keeps c W T s i m (cancel_keeps (InResend c W) r.sending s.resend i.resend) in
      put_some c W T (with_resend s m) i1 k (closed r)
      (λ own. (standing_live W T r (open_live c W T s i k own o) status.Closed r.keepalive, λ n _ h. h))

  pub close_keeps : (k : ℕ) → Kept c W T (op.Close k) (close_rule s k)
  unfolding close_rule
  close_keeps k =
      let Q : Step → Type 0 = Kept c W T (op.Close k) in
      let stay : (f : RigFault) → Q (refuse f s) = λ _. same c W T [] [] s refl refl i in
      if_open_by Q s k (close_open s k) stay (λ _ o. same c W T [] [] (close_open s k).after refl refl (closed_keeps k o))

  -- step
  pub step_keeps : Kept c W T op.Step (step_rule s)
  unfolding step_rule
  step_keeps =
      let Q : Step → Type 0 = Kept c W T op.Step in
      let stay : (f : RigFault) → Q (refuse f s) = λ _. same c W T [] [] s refl refl i in
      unless_by Q (table_short s.table) fault.Table s _ (stay fault.Table) (λ _.
      unless_by Q (low s) fault.Spent s _ (stay fault.Spent) (λ _.
      unless_by Q (ending s) fault.Ending s _ (stay fault.Ending) (λ _.
      same c W T [] [] (moved s).after refl refl (moved_keeps c W T s i))))
