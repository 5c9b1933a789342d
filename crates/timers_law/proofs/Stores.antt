-- Starts, stops and takes keep a store within its capacity and its limits.
use Rattle.std.proofs.Common.{◌≡◌, ℕ, ◌+◌, ◌<◌, ◌≤◌, true, cond, eqb, List, [], ◌∷◌, ◌++◌, length, Some, None, Option, refl, arith}
use Rattle.std.specs.List.{AllByRecursion}
use Rattle.std.proofs.ByRecursion.{All-push, All-weaker}
use Rattle.std.proofs.lemmas.List.{length_push}
use Rattle.std.proofs.lemmas.List.Sums.{sum_by_push}
use Rattle.std.proofs.lemmas.Bool.Decides.{nat_tests}
use Rattle.timer.specs.declared.fault.TimerFault.{TimerFault}
use Rattle.timer.specs.Meaning.{Entry, Meaning}
use Rattle.timer.specs.Rules.{Event, count, find, due_entry, without, check_rule, entered, started, left, stopped, taken}
use Rattle.timer.proofs.Checks.{Open, open_says}
use Rattle.timer.proofs.Entries.{all_in, all_from_in, in_without, rising_without, rising_push}
use Rattle.timers_law.specs.Ready.{Within}
use Rattle.timers_law.proofs.Keeps.{Lasting}
use Rattle.timers_law.proofs.Counts.{length_counts, count_counts, without_le}

-- what lasts as an entry comes in and as one leaves
module _ {P : Type 0} (B : Meaning P → Type 0) (in' : (m : Meaning P) (deadline owner : ℕ) (payload : P) → Open m deadline owner → B m → B (entered m deadline owner payload)) (out : (m : Meaning P) (e : Entry P) → B m → B (left m e)) where
  start_by : (m : Meaning P) (deadline owner : ℕ) (payload : P) (o : Option TimerFault) → check_rule m deadline owner ≡ o → B m → B (started m deadline owner payload o).after
  start_by m deadline owner payload (Some f) c b = b
  start_by m deadline owner payload None c b = in' m deadline owner payload (open_says m deadline owner c) b

  stop_by : (m : Meaning P) (o : Option (Entry P)) → B m → B (stopped m o).after
  stop_by m None b = b
  stop_by m (Some e) b = out m e b

  take_by : (m : Meaning P) (o : Option (Entry P)) → B m → B (taken m o).after
  take_by m None b = b
  take_by m (Some e) b = out m e b

  pub lasting : Lasting (λ (m : Meaning P) (es : List Event). B m)
  lasting =
      record {
        start = λ m es deadline owner payload b. start_by m deadline owner payload (check_rule m deadline owner) refl b;
        stop = λ m es ticket b. stop_by m (find ticket m.pending) b;
        take = λ m es b. take_by m (due_entry m.now m.pending) b;
      }

count_push : {P : Type 0} (o : ℕ) (es : List (Entry P)) (e : Entry P) → count o (es ++ e ∷ []) ≡ count o es + cond (eqb e.owner o) 1 0
count_push o es e =
    omega (arith, sum_by_push (λ x. cond (eqb x.owner o) 1 0) es e, count_counts o es, count_counts o (es ++ e ∷ []))

pub entered_within : {P : Type 0} (m : Meaning P) (deadline owner : ℕ) (payload : P) → Open m deadline owner → Within m → Within (entered m deadline owner payload)
entered_within {P} m deadline owner payload k h =
    let e : Entry P = record { ticket = m.given + 1; deadline = deadline; owner = owner; payload = payload } in
    record {
      sound =
          record {
            clock = h.sound.clock;
            fits = h.sound.fits;
            limited = h.sound.limited;
            rising = rising_push m.pending e h.sound.rising
                (All-weaker (λ f. f.ticket ≤ m.given) (λ f. f.ticket < m.given + 1) (λ f q. omega arith) m.pending h.issued);
          };
      room = let n : length m.pending ≡ m.capacity → ⊥ = k.room in omega (arith, length_push m.pending e, h.room);
      allowed = λ o l.
          let c = count_push o m.pending e in
          let a = h.allowed o l in
          let b = k.allowed in
          grind (arith, nat_tests);
      known = All-push (λ f. f.owner < 64) m.pending e h.known k.known;
      issued = All-push (λ f. f.ticket ≤ m.given + 1) m.pending e
          (All-weaker (λ f. f.ticket ≤ m.given) (λ f. f.ticket ≤ m.given + 1) (λ f q. omega arith) m.pending h.issued) (omega arith);
    }

all_without : {P : Type 0} (Q : Entry P → Type 0) (t : ℕ) (es : List (Entry P)) → AllByRecursion Q es → AllByRecursion Q (without t es)
all_without Q t es a = all_from_in Q (without t es) (λ e i. all_in Q es e a (in_without t es e i))

pub left_within : {P : Type 0} (m : Meaning P) (e : Entry P) → Within m → Within (left m e)
left_within m e h =
    let rest = without e.ticket m.pending in
    record {
      sound =
          record {
            clock = h.sound.clock;
            fits = h.sound.fits;
            limited = h.sound.limited;
            rising = rising_without e.ticket m.pending h.sound.rising;
          };
      room = omega (arith, without_le (λ _. true) e.ticket m.pending, length_counts m.pending, length_counts rest, h.room);
      allowed = λ o l.
          omega (arith, without_le (λ f. eqb f.owner o) e.ticket m.pending, count_counts o m.pending, count_counts o rest, h.allowed o l);
      known = all_without (λ f. f.owner < 64) e.ticket m.pending h.known;
      issued = all_without (λ f. f.ticket ≤ m.given) e.ticket m.pending h.issued;
    }
