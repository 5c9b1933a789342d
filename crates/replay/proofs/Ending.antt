-- From a draft to the end of its session.
use Rattle.std.proofs.Common.{◌≡◌, ℕ, Bool, true, List, [], length, take, None, vec_items, sym, ap, ◌∙◌, subst}
use Rattle.timer.specs.declared.store.Store.{Ghosts}
use Rattle.link.specs.declared.packet.Packet.{Packet}
use Rattle.channel.specs.declared.record.Attempt.{Attempt}
use Rattle.channel.specs.declared.record.Channel.{Channel}
use Rattle.protocol.specs.State.{State, tick_of, fresh_table}
use Rattle.protocol.specs.Begin.{AllSound, Begun}
use Rattle.timers_law.specs.Ready.{Ready}
use Rattle.timers_law.proofs.Begins.{begins}
use Rattle.timers_law.proofs.Ready.{begun_ready}
use Rattle.transport.specs.declared.rig.Draft.{Draft}
use Rattle.transport.specs.declared.rig.Running.{Running}
use Rattle.transport.specs.Begins.{started}
use Rattle.transport.specs.Parts.{fates_of, state_of}
use Rattle.session.specs.declared.command.Command.{Command}
use Rattle.session.specs.declared.answer.Note.{Note}
use Rattle.session.specs.Progress.{Progress, Went}
use Rattle.session.specs.Run.{calls_of, notes_of, ends}
use Rattle.session.specs.Text.{session_text}
use Rattle.session.proofs.Runs.{laws}
use Rattle.replay.specs.declared.outcome.Session.{Session}
use Rattle.replay.specs.declared.lent.Lent.{Lent}
use Rattle.replay.specs.Lent.{Held, held}
use Rattle.replay.specs.Outcome.{first_state, refusal, Holds, Played, Broken}
use Rattle.replay.proofs.Commands.{all_made}

-- a draft begins over sound stores
pub first_sound : {W R K : Type 0} (w : Ghosts W Packet) (r : Ghosts R Attempt) (k : Ghosts K ℕ) (d : Draft) (l : Lent W R K) → AllSound (first_state d (held w r k l))
first_sound w r k d l =
    record { wire = w.sound l.wire.now; resend = r.sound l.resend.now; keepalive = k.sound l.keepalive.now }

module _ (d : Draft) (l : Held) (rig : Running) (t : List Channel) (is : rig ≡ started d) (clear : take 64 t ≡ fresh_table) where
  -- the rig begins in the first state
  pub begun_state : state_of rig l.fates l.wire l.resend l.keepalive (take 64 t) ≡ first_state d l
  begun_state =
      ap (λ (x : Running). state_of x l.fates l.wire l.resend l.keepalive (take 64 t)) is
      ∙ ap (λ (x : List Channel). state_of (started d) l.fates l.wire l.resend l.keepalive x) clear

  module _ (none : refusal d l ≡ None) (sound : AllSound (first_state d l)) where
    pub first_begun : Begun (first_state d l)
    first_begun = begins d.delay d.interval (fates_of l.fates d.fates d.delay) l.wire l.resend l.keepalive (length l.table) none sound

    pub first_ready : Ready (state_of rig l.fates l.wire l.resend l.keepalive (take 64 t))
    first_ready = subst (λ (s : State). Ready s) (sym begun_state) (begun_ready (first_state d l) first_begun)

-- the same, told from the first state and no notes
pub from_first : (s z : State) (ns : List Note) (xs : List Command) (well : Bool) (u : State) (ms : List Note) → z ≡ s → ns ≡ [] → Went z ns (calls_of z xs) well u ms → Went s [] (calls_of s xs) well u ms
from_first s z ns xs well u ms e f w =
    subst (λ (x : State). Went x [] (calls_of x xs) well u ms) e (subst (λ (x : List Note). Went z x (calls_of z xs) well u ms) f w)

pub played : (s : State) (xs : List Command) (u : State) (ms : List Note) (session : Session) (l : Held) → Begun s → Went s [] (calls_of s xs) true u ms → vec_items session.notes ≡ ms → session.finished.tick ≡ tick_of u → session.finished.packets ≡ u.packets → vec_items session.text ≡ session_text (vec_items session.notes) session.finished.tick session.finished.packets → Holds u l → Played s xs session l
played s xs u ms session l b w same k p x h =
    let q : Progress s [] (calls_of s xs) u ms = all_made s [] (calls_of s xs) u ms w in
    let noted : vec_items session.notes ≡ notes_of s (calls_of s xs) = same ∙ q.noted in
    let tick : session.finished.tick ≡ tick_of (ends s (calls_of s xs)) = k ∙ ap (λ (z : State). tick_of z) q.reached in
    let packets : session.finished.packets ≡ (ends s (calls_of s xs)).packets = p ∙ ap (λ (z : State). z.packets) q.reached in
    record {
      begins = b;
      notes = noted;
      tick = tick;
      packets = packets;
      text =
          x
          ∙ ap (λ (z : List Note). session_text z session.finished.tick session.finished.packets) noted
          ∙ ap (λ (z : ℕ). session_text (notes_of s (calls_of s xs)) z session.finished.packets) tick
          ∙ ap (λ (z : ℕ). session_text (notes_of s (calls_of s xs)) (tick_of (ends s (calls_of s xs))) z) packets;
      leaves = subst (λ (z : State). Holds z l) q.reached h;
      law = laws s b (calls_of s xs);
    }

-- memory ran out
pub broken : (s : State) (xs : List Command) (well : Bool) (u : State) (ms : List Note) (l : Held) → Went s [] (calls_of s xs) well u ms → Holds u l → Broken s xs l
broken s xs well u ms l w h =
    record {
      done = w.done;
      left = w.left;
      whole = w.whole;
      leaves = subst (λ (z : State). Holds z l) w.progress.reached h;
    }
