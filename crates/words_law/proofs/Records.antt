-- What each change makes of the record of a channel.
use Rattle.std.proofs.Common.{◌≡◌, ℕ, ◌+◌, ◌-◌, ◌%◌, ◌<◌, ◌≤◌, true, ltb, leb, List, [], ◌∷◌, ◌++◌, set, Option, Some, None, sym, refl, ◌∙◌, inl, inr, arith}
use Rattle.std.proofs.lemmas.Bool.{true≢false, cond_both, or_cases, and_parts, ltb-true, leb-true}
use Rattle.trace.specs.declared.action.Segment.{Segment}
use Rattle.channel.specs.declared.record.Channel.{Channel}
use Rattle.channel.specs.declared.record.Status.{Status}
use Rattle.channel.specs.Record.{stop, as_read, opened, sent, resent, answered, emptied, receive_place, has_place, acknowledges, filled, received, with_standing}
use Rattle.words_law.proofs.Receiving.{Arrived, Word, Receives, is_filled, receives_new, receives_more, receives_taken, receives_filled, arrived_taken, arrived_filled, arrived_now}
use Rattle.words_law.proofs.Sending.{Sends, sends_new, sends_arrived, sends_sent, sends_waiting, sends_answered, sends_risen, sends_read}

-- the words of these numbers arrived at the channel's other end
abbrev pub ArrivedAt : Channel → ℕ → Type 0
ArrivedAt r = Arrived r.taken r.receiving

-- the record of a channel on which W was sent, and of which T was taken
pub record Live (W T : List ℕ) (r : Channel) : Type 0 where
  pub receives : Receives W T r.taken r.receiving
  pub sends : Sends W (ArrivedAt r) r.next r.base r.sending

-- such a record after another, where what arrived stays so
pub record Changed (W T : List ℕ) (r r1 : Channel) : Type 0 where
  pub live : Live W T r1
  pub status : r1.status ≡ r.status
  pub arrived : (n : ℕ) → ArrivedAt r n → ArrivedAt r1 n

pub opened_live : (t : ℕ) → Live [] [] (opened t)
opened_live t = record { receives = receives_new; sends = sends_new (ArrivedAt (opened t)) }

module _ (W T : List ℕ) (r : Channel) (l : Live W T r) where
  pub read_live : Live W T (as_read r)
  read_live =
      record {
        receives = l.receives;
        sends = rw (sends_read W (ArrivedAt r) r.next r.base r.sending l.sends) l.sends;
      }

  pub standing_live : (x : Status) (t : ℕ) → Live W T (with_standing r x t)
  standing_live x t = record { receives = l.receives; sends = l.sends }

  pub unchanged : Changed W T r r
  unchanged = record { live = l; status = refl; arrived = λ n h. h }

  pub sent_changes : (w t : ℕ) → (r.next ≡ 4294967295 → ⊥) → (r.next - r.base ≡ 8 → ⊥) → Changed (W ++ w ∷ []) T r (sent r t)
  sent_changes w t more room =
      record {
        live =
            record {
              receives = receives_more W T r.taken r.receiving w l.receives;
              sends =
                  sends_sent W (ArrivedAt r) r.next r.base r.sending l.sends w t (stop (r.next + 1))
                  (omega (arith, l.sends.small, more)) (omega arith) (omega (arith, l.sends.high, room));
            };
        status = refl;
        arrived = λ n h. h;
      }

  pub resent_changes : (n t : ℕ) → Changed W T r (resent r n t)
  resent_changes n t =
      record {
        live =
            record {
              receives = l.receives;
              sends = sends_waiting W (ArrivedAt r) r.next r.base r.sending l.sends n t;
            };
        status = refl;
        arrived = λ m h. h;
      }

  pub answered_changes : (n : ℕ) (sample : Option ℕ) → r.base ≤ n → n < r.next → ArrivedAt r n → Changed W T r (answered r n sample)
  answered_changes n sample lo hi h =
      record {
        live =
            record {
              receives = l.receives;
              sends =
                  sends_risen 8 W (ArrivedAt r) r.next r.base (set r.sending (n % 8) None)
                  (sends_answered W (ArrivedAt r) r.next r.base r.sending l.sends n lo hi h);
            };
        status = refl;
        arrived = λ m h. h;
      }

  -- the word to take next is taken
  pub emptied_changes : (w : ℕ) → receive_place r r.taken ≡ Some w → Changed W (T ++ w ∷ []) r (emptied (Some w) r)
  emptied_changes w e =
      let word : Word W r.taken w = l.receives.filled r.taken w (omega arith) (omega arith) e in
      let up : stop (r.taken + 1) ≡ r.taken + 1 = omega (arith, word.0, l.sends.all, l.sends.small) in
      let on : (n : ℕ) → ArrivedAt r n → ArrivedAt (emptied (Some w) r) n =
      arrived_taken r.taken (stop (r.taken + 1)) r.receiving up in
      record {
        live =
            record {
              receives = receives_taken W T r.taken (stop (r.taken + 1)) r.receiving w up l.receives e;
              sends = sends_arrived W (ArrivedAt r) r.next r.base r.sending l.sends (ArrivedAt (emptied (Some w) r)) on;
            };
        status = refl;
        arrived = on;
      }

  -- a word arrives at its place
  filled_changes : (x : Option ℕ) (g : Segment) → receive_place r g.sequence ≡ x → r.taken ≤ g.sequence → g.sequence < r.taken + 8 → Word W g.sequence g.word → Changed W T r (filled x r g) × ArrivedAt (filled x r g) g.sequence
  filled_changes (Some v) g e lo hi h = (unchanged, inr (hi, is_filled (receive_place r g.sequence) v e))
  filled_changes None g e lo hi h =
      let on : (n : ℕ) → ArrivedAt r n → ArrivedAt (filled None r g) n =
      arrived_filled r.taken r.receiving g.sequence g.word l.receives.size lo hi in (
        record {
          live =
              record {
                receives = receives_filled W T r.taken r.receiving g.sequence g.word l.receives lo hi h;
                sends = sends_arrived W (ArrivedAt r) r.next r.base r.sending l.sends (ArrivedAt (filled None r g)) on;
              };
          status = refl;
          arrived = on;
        },
        arrived_now r.taken r.receiving g.sequence g.word l.receives.size hi,
      )

  -- what is acknowledged has arrived
  pub received_changes : (g : Segment) → Word W g.sequence g.word → Changed W T r (received r g) × (acknowledges r g.sequence ≡ true → ArrivedAt (received r g) g.sequence)
  received_changes g h =
      let n : ℕ = g.sequence in
      cond_both (has_place r n) (filled (receive_place r n) r g) r (λ x. Changed W T r x × (acknowledges r n ≡ true → ArrivedAt x n))
      (λ p.
      let both = and_parts (leb r.taken n) (leb n (stop (r.taken + 7))) p in
      let f : Changed W T r (filled (receive_place r n) r g) × ArrivedAt (filled (receive_place r n) r g) n =
      filled_changes (receive_place r n) g refl (leb-true r.taken n both.0) (omega (arith, leb-true n (stop (r.taken + 7)) both.1)) h in
      (f.0, λ _. f.1))
      (λ p. (
        unchanged,
        λ a. elim (or_cases (ltb n r.taken) (has_place r n) a) [
          | inl q ↦ inl (ltb-true n r.taken q)
          | inr q ↦ absurd (true≢false (sym q ∙ p))
        ],
      ))
