-- A store that an entry was taken from grants its owner another.
use Rattle.std.proofs.Common.{◌≡◌, ℕ, ◌^◌, ◌<◌, ◌≤◌, min, true, eqb, length, get_or, Some, Err, Option, refl, subst, le-mul_of_pos_right, arith, pow_pos}
use Rattle.std.proofs.lemmas.Bool.{lt-leb, le-ltb, ne_eqb, eq-eqb}
use Rattle.timer.specs.declared.fault.TimerFault.{TimerFault}
use Rattle.timer.specs.Meaning.{Entry, Meaning}
use Rattle.timer.specs.Rules.{count, started, start_rule, left, without}
use Rattle.timer.proofs.Checks.{check_open}
use Rattle.timer.proofs.Entries.{due_in}
use Rattle.timer.proofs.Members.{never}
use Rattle.estimator.specs.Estimate.{cut, wait_rule}
use Rattle.timers_law.specs.Ready.{Within}
use Rattle.timers_law.proofs.Ways.{next_due}
use Rattle.timers_law.proofs.Counts.{length_counts, count_counts, without_count}

-- the wait of a resend timer is not nothing
pub wait_some : (timeout resends : ℕ) → 1 ≤ wait_rule (cut timeout) resends
wait_some timeout resends =
    omega (arith, le-mul_of_pos_right {m = 2 ^ min resends 6} (cut timeout) (pow_pos (min resends 6)))

-- a store that has room for one more entry of an owner
pub record Free {P : Type 0} (m : Meaning P) (o : ℕ) : Type 0 where
  pub room : length m.pending < m.capacity
  pub allowed : count o m.pending < get_or m.limits o 0

pub left_free : {P : Type 0} (m : Meaning P) (e : Entry P) → Within m → next_due m ≡ Some e → e.owner < 64 → Free (left m e) e.owner
left_free m e h d l =
    let i = (due_in m.now m.pending e d).0 in
    let rest = without e.ticket m.pending in
    record {
      room = omega (arith, without_count (λ _. true) m.pending e h.sound.rising i, length_counts m.pending, length_counts rest, h.room);
      allowed =
          let c = rw (eq-eqb e.owner e.owner refl) at (without_count (λ f. eqb f.owner e.owner) m.pending e h.sound.rising i) in
          omega (arith, c, count_counts e.owner m.pending, count_counts e.owner rest, h.allowed e.owner l);
    }

pub start_grants : {P : Type 0} (m : Meaning P) (d o : ℕ) (x : P) (f : TimerFault) → Free m o → m.now < d → d ≤ m.last → o < 64 → m.given ≤ 4294967293 → (start_rule m d o x).answer ≡ Err f → ⊥
start_grants m d o x f free later within known fresh =
    let none = check_open m d o (lt-leb d m.now later) (le-ltb m.last d within) known (ne_eqb m.given 4294967295 (λ e. omega arith)) (λ e. omega (arith, free.room)) free.allowed in
    subst (λ (c : Option TimerFault). (started m d o x c).answer ≡ Err f → ⊥) none (λ e. never (cc))
