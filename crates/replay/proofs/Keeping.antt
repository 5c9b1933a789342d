-- Calls one after the other keep what each of them keeps.
use Rattle.std.proofs.Common.{ℕ, refl, ◌∙◌}
use Rattle.timer.proofs.Frames.{framed_still, framed_on}
use Rattle.timer.specs.declared.store.Store.{Ghosts}
use Rattle.link.specs.declared.packet.Packet.{Packet}
use Rattle.channel.specs.declared.record.Attempt.{Attempt}
use Rattle.replay.specs.declared.lent.Lent.{Lent}
use Rattle.replay.specs.declared.playing.Playing.{Playing}
use Rattle.replay.specs.Lent.{Kept}
use Rattle.replay.specs.Playing.{Holding}

module _ {W R K : Type 0} (w : Ghosts W Packet) (r : Ghosts R Attempt) (k : Ghosts K ℕ) where
  pub kept_still : (a : Lent W R K) → Kept w r k a a
  kept_still a =
      record {
        later = refl;
        records = refl;
        fates = refl;
        wire = framed_still w a.wire.now;
        resend = framed_still r a.resend.now;
        keepalive = framed_still k a.keepalive.now;
        wire_loan = refl;
        resend_loan = refl;
        keepalive_loan = refl;
        table_loan = refl;
      }

  pub kept_on : (a b c : Lent W R K) → Kept w r k a b → Kept w r k b c → Kept w r k a c
  kept_on a b c f g =
      record {
        later = g.later ∙ f.later;
        records = g.records ∙ f.records;
        fates = g.fates ∙ f.fates;
        wire = framed_on w _ _ _ f.wire g.wire;
        resend = framed_on r _ _ _ f.resend g.resend;
        keepalive = framed_on k _ _ _ f.keepalive g.keepalive;
        wire_loan = g.wire_loan ∙ f.wire_loan;
        resend_loan = g.resend_loan ∙ f.resend_loan;
        keepalive_loan = g.keepalive_loan ∙ f.keepalive_loan;
        table_loan = g.table_loan ∙ f.table_loan;
      }

  pub holding_still : (a : Playing W R K w r k) → Holding w r k a a
  holding_still a = (refl, refl, kept_still a.lent.now)

  pub holding_on : (a b c : Playing W R K w r k) → Holding w r k a b → Holding w r k b c → Holding w r k a c
  holding_on a b c f g = (g.0 ∙ f.0, g.1 ∙ f.1, kept_on a.lent.now b.lent.now c.lent.now f.2 g.2)
