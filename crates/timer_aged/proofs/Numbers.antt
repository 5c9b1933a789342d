-- Tickets that fit 32 bits once they are raised still do after each call.
use Rattle.std.proofs.Common.{◌≡◌, ℕ, ◌+◌, ◌<◌, ◌≤◌, ◌≢◌, eqb, Some, None, Ok, Err, Option, Result, refl, ap, sym, subst, inl, inr, arith}
use Rattle.std.proofs.lemmas.Bool.{cases_lt, cond_both}
use mathlib.Core.Logic.{∥∥₁_elim}
use denote.Struct.Props.{props}
use Rattle.timer.specs.declared.expired.Expired.{Expired}
use Rattle.timer.specs.declared.fault.TimerFault.{TimerFault}
use Rattle.timer.specs.Meaning.{Entry, Meaning}
use Rattle.timer.specs.History.{In}
use Rattle.timer.specs.Rules.{Outcome, find, without, due_entry, due_rule, with_pending, ticked, check_rule, started, start_rule, stopped, stop_rule, taken, take_rule, advance_rule}
use Rattle.timer.proofs.Members.{in_push, never}
use Rattle.timer.proofs.Entries.{in_without, due_in}
use Rattle.timer.proofs.Checks.{open_says}
use Rattle.timer_aged.specs.Aged.{aged, Numbered}
use Rattle.timer_aged.proofs.Rulings.{start_answer}

module _ {P : Type 0} (m : Meaning P) (k : ℕ) where
  numbered_prop : IsProp (Numbered m k)
  numbered_prop p q =
      let given : IsProp (m.given + k ≤ 4294967295) = hlevel props in
      let pending : IsProp (0 < k → (e : Entry P) → In e m.pending → e.ticket + k ≤ 4294967295) = hlevel props in
      λ i. record { given = given p.given q.given i; pending = pending p.pending q.pending i }

  pub numbered_out : ∥ Numbered m k ∥₁ → Numbered m k
  numbered_out t = ∥∥₁_elim t numbered_prop (λ f. f)

module _ {P : Type 0} (m : Meaning P) (k : ℕ) (f : Numbered m k) where
  started_numbered : (d o : ℕ) (p : P) (c : Option TimerFault) → m.given + k ≢ 4294967295 → Numbered (started m d o p c).after k
  started_numbered d o p (Some x) h = f
  started_numbered d o p None h =
      let new : Entry P = record { ticket = m.given + 1; deadline = d; owner = o; payload = p } in
      record {
        given = omega (arith, f.given);
        pending = λ l e i.
            elim (in_push e new m.pending i) [
              | inl j ↦ f.pending l e j
              | inr q ↦ omega (arith, f.given, ap (λ (x : Entry P). x.ticket) q)
            ];
      }

  left_numbered : (t : ℕ) → Numbered (with_pending m (without t m.pending)) k
  left_numbered t = record { given = f.given; pending = λ l e i. f.pending l e (in_without t m.pending e i) }

  stopped_numbered : (o : Option (Entry P)) → Numbered (stopped m o).after k
  stopped_numbered None = f
  stopped_numbered (Some e) = left_numbered e.ticket

  taken_numbered : (o : Option (Entry P)) → Numbered (taken m o).after k
  taken_numbered None = f
  taken_numbered (Some e) = left_numbered e.ticket

  advanced_numbered : Numbered (advance_rule m).after k
  advanced_numbered =
      let Keeps : Outcome (Result (Unit {0}) TimerFault) P → Type 0 = λ o. Numbered o.after k in
      let later : Numbered (ticked m) k = record { given = f.given; pending = f.pending } in
      cond_both (due_rule m) _ _ Keeps (λ _. f) (λ _. cond_both (eqb m.now m.last) _ _ Keeps (λ _. f) (λ _. later))

  answer_by : (x : Expired P) (o : Option (Entry P)) → due_entry m.now m.pending ≡ o → (taken m o).answer ≡ Some x → 0 < k → x.ticket + k ≤ 4294967295
  answer_by x None d h l = never (cc)
  answer_by x (Some e) d h l =
      let q : e.ticket ≡ x.ticket = cc in
      omega (arith, f.pending l e (due_in m.now m.pending e d).0, q)

-- the same of the invariant, and of what a store means after a call
module _ {P : Type 0} (m n : Meaning P) (k : ℕ) (t : ∥ Numbered m k ∥₁) where
  kept : (o : Meaning P) → n ≡ o → Numbered o k → ∥ Numbered n k ∥₁
  kept o e f = ∣ subst (λ (x : Meaning P). Numbered x k) (sym e) f ∣₁

  pub start_numbered : (d o : ℕ) (p : P) → None ≡ check_rule (aged m k) d o → n ≡ (start_rule m d o p).after → ∥ Numbered n k ∥₁
  start_numbered d o p h e =
      kept (start_rule m d o p).after e (started_numbered m k (numbered_out m k t) d o p (check_rule m d o) (open_says (aged m k) d o (sym h)).fresh)

  pub stop_numbered : (u : ℕ) → n ≡ (stop_rule m u).after → ∥ Numbered n k ∥₁
  stop_numbered u e = kept (stop_rule m u).after e (stopped_numbered m k (numbered_out m k t) (find u m.pending))

  pub take_numbered : n ≡ (take_rule m).after → ∥ Numbered n k ∥₁
  take_numbered e = kept (take_rule m).after e (taken_numbered m k (numbered_out m k t) (due_entry m.now m.pending))

  pub advance_numbered : n ≡ (advance_rule m).after → ∥ Numbered n k ∥₁
  advance_numbered e = kept (advance_rule m).after e (advanced_numbered m k (numbered_out m k t))

-- the ticket that take answers, which alone fits 32 bits
pub expired_fits : {P : Type 0} (m : Meaning P) (k : ℕ) → ∥ Numbered m k ∥₁ → (x : Expired P) → x.ticket < 4294967296 → Some x ≡ (take_rule m).answer → x.ticket + k ≤ 4294967295
expired_fits m k t x b h =
    elim (cases_lt 0 k) [
      | inl l ↦ answer_by m k (numbered_out m k t) x (due_entry m.now m.pending) refl (sym h) l
      | inr z ↦ omega (arith, b, z)
    ]

-- what start answers in the store below: a ticket that fits once it is raised, and no refusal
module _ {P : Type 0} (m : Meaning P) (k : ℕ) (t : ∥ Numbered m k ∥₁) (d o : ℕ) (p : P) (h : None ≡ check_rule (aged m k) d o) where
  answer_is : (start_rule m d o p).answer ≡ Ok (m.given + 1)
  answer_is = start_answer m k d o (numbered_out m k t).given h p

  pub ticket_fits : (x : ℕ) → Ok x ≡ (start_rule m d o p).answer → x + k ≤ 4294967295
  ticket_fits x a =
      let left : m.given + k ≢ 4294967295 = (open_says (aged m k) d o (sym h)).fresh in
      let q : x ≡ m.given + 1 = cc (a, answer_is) in
      omega (arith, (numbered_out m k t).given, left, q)

  pub never_refused : (x : TimerFault) → Err x ≡ (start_rule m d o p).answer → ⊥
  never_refused x e = never (cc (e, answer_is))
