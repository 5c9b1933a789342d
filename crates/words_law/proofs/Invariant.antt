-- What holds of one channel between two calls.
use Rattle.std.proofs.Common.{◌≡◌, ℕ, ◌<◌, List, [], length, get_or, set, sym, refl, ap, ◌∙◌, subst, inl, inr, arith}
use Rattle.std.proofs.lemmas.List.{get_or-set_same, get_or-set_other, length-set, set_past}
use Rattle.std.proofs.lemmas.Bool.{cases_eq, cases_lt}
use Rattle.timer.specs.Meaning.{Entry, Meaning}
use Rattle.link.specs.declared.packet.Packet.{Packet}
use Rattle.link.specs.declared.packet.Packet.TheVariants.{Data, Acknowledgement, Keepalive}
use Rattle.channel.specs.declared.record.Attempt.{Attempt}
use Rattle.channel.specs.declared.record.Channel.{Channel}
use Rattle.channel.specs.declared.record.Status.{Status}
use Rattle.channel.specs.declared.record.Status.TheVariants.{Unused, Open, Closed}
use Rattle.protocol.specs.State.{State, blank, record_of, with_wire, with_resend, put}
use Rattle.protocol.specs.Link.{transmit, next_fate}
use Rattle.words_law.proofs.Receiving.{Word}
use Rattle.words_law.proofs.Stores.{Each, Pending, each_weaker, carry_keeps}
use Rattle.words_law.proofs.Records.{ArrivedAt, Live, Changed, read_live, unchanged}

-- nothing was sent or taken before a channel is open
abbrev pub By : Status → List ℕ → List ℕ → Type 0 → Type 0
By Unused W T L = (W ≡ []) × (T ≡ [])
By Open W T L = L
By Closed W T L = L

abbrev pub Record : List ℕ → List ℕ → Channel → Type 0
Record W T r = By r.status W T (Live W T r)

-- what a packet on the wire says is so, where H says which words arrived
abbrev pub Carries : Packet → List ℕ → (ℕ → Type 0) → Type 0
Carries (Data g) W H = Word W g.sequence g.word
Carries (Acknowledgement n) W H = (n < length W) × H n
Carries (Keepalive n) W H = Unit {0}

abbrev pub OnWire : ℕ → List ℕ → List Channel → ℕ → Packet → Type 0
OnWire c W t o p = o ≡ c → Carries p W (ArrivedAt (get_or t o blank))

abbrev pub InResend : ℕ → List ℕ → ℕ → Attempt → Type 0
InResend c W o a = o ≡ c → Word W a.segment.sequence a.segment.word

-- channel c, where W was sent and T was taken: the wire, the resend timers, the table
pub record Invariant (c : ℕ) (W T : List ℕ) (ws : List (Entry Packet)) (rs : List (Entry Attempt)) (t : List Channel) : Type 0 where
  pub size : length t ≡ 64
  pub channel : (k : ℕ) → k ≡ c → Record W T (get_or t k blank)
  pub wire : Each (OnWire c W t) ws
  pub resend : Each (InResend c W) rs

abbrev pub Holds : ℕ → List ℕ → List ℕ → State → Type 0
Holds c W T s = Invariant c W T s.wire.pending s.resend.pending s.table

-- one list says all that another says
abbrev pub Grows : List ℕ → List ℕ → Type 0
Grows V W = (n w : ℕ) → Word V n w → Word W n w

carries_on : (p : Packet) (V W : List ℕ) (H G : ℕ → Type 0) → Grows V W → ((m : ℕ) → m < length V → H m → G m) → Carries p V H → Carries p W G
carries_on (Data g) V W H G up on h = up g.sequence g.word h
carries_on (Acknowledgement n) V W H G up on h = ((up n (get_or V n 0) (h.0, refl)).0, on n h.0 h.1)
carries_on (Keepalive n) V W H G up on h = tt

pub as_open : (W T : List ℕ) (r : Channel) → r.status ≡ Open → Live W T r → Record W T r
as_open W T r o l = subst (λ (x : Status). By x W T (Live W T r)) (sym o) l

module _ (c : ℕ) (V S : List ℕ) (s : State) (i : Holds c V S s) where
  -- the record of another channel changes
  pub put_other : (k : ℕ) (r : Channel) → (k ≡ c → ⊥) → Holds c V S (put s k r)
  put_other k r d =
      let t : List Channel = s.table in
      let same : (j : ℕ) → j ≡ c → get_or (set t k r) j blank ≡ get_or t j blank =
      λ j e. get_or-set_other t k j r blank (λ q. d (sym q ∙ e)) in
      record {
        size = length-set t k r ∙ i.size;
        channel = λ j e. rw (same j e) (i.channel j e);
        wire =
            each_weaker (OnWire c V t) (OnWire c V (set t k r)) (λ o p h own. rw (same o own) (h own)) s.wire.pending i.wire;
        resend = i.resend;
      }

  -- the channel's own record changes, and its lists grow
  pub put_own : (k : ℕ) (r : Channel) (W T : List ℕ) → k ≡ c → k < 64 → Grows V W → Record W T r →
      ((n : ℕ) → n < length V → ArrivedAt (record_of s k) n → ArrivedAt r n) → Holds c W T (put s k r)
  put_own k r W T own l up h on =
      let t : List Channel = s.table in
      let new : (j : ℕ) → j ≡ c → get_or (set t k r) j blank ≡ r =
      λ j e. ap (λ (x : ℕ). get_or (set t k r) x blank) (e ∙ sym own) ∙ get_or-set_same t k r blank (omega (arith, i.size)) in
      let old : (j : ℕ) → j ≡ c → get_or t j blank ≡ get_or t k blank =
      λ j e. ap (λ (x : ℕ). get_or t x blank) (e ∙ sym own) in
      record {
        size = length-set t k r ∙ i.size;
        channel = λ j e. rw (new j e) h;
        wire =
            each_weaker (OnWire c V t) (OnWire c W (set t k r))
            (λ o p b e. rw (new o e)
            (carries_on p V W (ArrivedAt (get_or t o blank)) (ArrivedAt r) up (λ m q u. on m q (rw (old o e) at u)) (b e)))
            s.wire.pending i.wire;
        resend =
            each_weaker (InResend c V) (InResend c W) (λ o a b e. up a.segment.sequence a.segment.word (b e))
            s.resend.pending i.resend;
      }

  -- some record changes, and no list
  pub put_some : (k : ℕ) (r : Channel) →
      (k ≡ c → Record V S r × ((n : ℕ) → n < length V → ArrivedAt (record_of s k) n → ArrivedAt r n)) → Holds c V S (put s k r)
  put_some k r f = elim (cases_lt k 64) [
    | inl l ↦ elim (cases_eq k c) [
      | inl e ↦ put_own k r V S e l (λ n w h. h) (f e).0 (f e).1
      | inr d ↦ put_other k r d
    ]
    | inr l ↦ rw (set_past s.table k r (omega (arith, i.size))) i
  ]

  -- the record of an open channel is live
  pub open_live : (k : ℕ) → k ≡ c → (record_of s k).status ≡ Open → Live V S (record_of s k)
  open_live k e o =
      let r : Channel = get_or s.table k blank in
      read_live V S r (subst (λ (x : Status). By x V S (Live V S r)) o (i.channel k e))

  -- nothing was sent on an unused channel
  pub unused_bare : (k : ℕ) → k ≡ c → (record_of s k).status ≡ Unused → (V ≡ []) × (S ≡ [])
  unused_bare k e u = subst (λ (x : Status). By x V S (Live V S (get_or s.table k blank))) u (i.channel k e)

  -- an open channel's record changes
  pub put_open : (k : ℕ) (r : Channel) → (record_of s k).status ≡ Open →
      (k ≡ c → Live V S (record_of s k) → Changed V S (record_of s k) r) → Holds c V S (put s k r)
  put_open k r o f =
      put_some k r
      (λ own.
      let d : Changed V S (record_of s k) r = f own (open_live k own o) in
      (as_open V S r (d.status ∙ o) d.live, λ n _ h. d.arrived n h))

  -- an open channel's record is put back as read
  pub put_read : (k : ℕ) → (record_of s k).status ≡ Open → Holds c V S (put s k (record_of s k))
  put_read k o = put_open k (record_of s k) o (λ _ l. unchanged V S (record_of s k) l)

  pub transmit_keeps : (k : ℕ) (p : Packet) → (k ≡ c → Carries p V (ArrivedAt (record_of s k))) → Holds c V S (transmit s k p).after
  transmit_keeps k p h =
      record {
        size = i.size;
        channel = i.channel;
        wire = carry_keeps (OnWire c V s.table) (next_fate s) s.wire k p i.wire h;
        resend = i.resend;
      }

  pub wire_keeps : (m : Meaning Packet) → Pending (OnWire c V s.table) m → Holds c V S (with_wire s m)
  wire_keeps m h = record { size = i.size; channel = i.channel; wire = h; resend = i.resend }

  pub resend_keeps : (m : Meaning Attempt) → Pending (InResend c V) m → Holds c V S (with_resend s m)
  resend_keeps m h = record { size = i.size; channel = i.channel; wire = i.wire; resend = h }
