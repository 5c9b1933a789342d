-- The rules, on a store and on the aged one over it.
use Rattle.std.proofs.Common.{◌≡◌, ℕ, ◌+◌, ◌<◌, ◌≤◌, if◌then◌else◌, ◌==◌, nat_lt, Bool, true, false, [], ◌∷◌, Some, None, Ok, Err, Option, Result, ◌≢◌, refl, ap, sym, ◌∙◌, arith}
use Rattle.std.specs.Option.{option_map}
use Rattle.std.proofs.lemmas.Bool.Decides.{nat_tests}
use Rattle.std.proofs.lemmas.List.{length-map, map-append}
use Rattle.timer.specs.declared.expired.Expired.{Expired}
use Rattle.timer.specs.declared.fault.TimerFault.{TimerFault}
use Rattle.timer.specs.declared.fault.TimerFault.TheVariants.{Spent, Missing, Due, Ended}
use Rattle.timer.specs.Faults.{fault_number}
use Rattle.timer.specs.Meaning.{Entry, Meaning}
use Rattle.timer.specs.Rules.{Outcome, check_rule, count_rule, due_rule, due_entry, find, started, start_rule, stopped, stop_rule, taken, take_rule, refused, ticked, advance_rule}
use Rattle.timer.proofs.Checks.{open_says}
use Rattle.timer_aged.specs.Aged.{raised, aged}
use Rattle.timer_aged.proofs.Raised.{count_raised, due_raised, is_due_raised, find_raised, find_below, without_raised}

-- the same answer with its ticket raised
abbrev pub raised_answer : {P : Type 0} → ℕ → Expired P → Expired P
raised_answer k e = record { ticket = e.ticket + k; owner = e.owner; payload = e.payload }

-- an advance, by whether an entry is due and whether now is the last tick
abbrev advanced : {P : Type 0} → Meaning P → Bool → Bool → Outcome (Result (Unit {0}) TimerFault) P
advanced m due ended = if due then refused m Due else (if ended then refused m Ended else record { answer = Ok tt; after = ticked m; events = [] })

module _ {P : Type 0} (m : Meaning P) (k : ℕ) where
  pub count_aged : (o : ℕ) → count_rule (aged m k) o ≡ count_rule m o
  count_aged o = ap (λ n. if nat_lt o 64 then n else 0) (count_raised k o m.pending)

  pub due_aged : due_rule (aged m k) ≡ due_rule m
  due_aged = is_due_raised k m.now m.pending

  module _ (d o : ℕ) where
    -- while a ticket is left
    pub check_left : m.given + k < 4294967295 → check_rule m d o ≡ check_rule (aged m k) d o
    unfolding check_rule
    check_left h =
        let l = length-map m.pending (raised k) in
        let c = count_raised k o m.pending in
        grind (arith, nat_tests)

    -- none is left
    module _ (s : m.given + k ≡ 4294967295) where
      pub check_before : (f : TimerFault) → Some f ≡ check_rule m d o → fault_number f < 4 → Some f ≡ check_rule (aged m k) d o
      unfolding check_rule
      check_before f h l = grind (arith, nat_tests)

      pub check_after : (f : TimerFault) → Some f ≡ check_rule m d o → 4 ≤ fault_number f → Some Spent ≡ check_rule (aged m k) d o
      unfolding check_rule
      check_after f h l = grind (arith, nat_tests)

      pub check_none : None ≡ check_rule m d o → Some Spent ≡ check_rule (aged m k) d o
      unfolding check_rule
      check_none h = grind (arith, nat_tests)

    -- what the aged store does not refuse, the store below does not refuse either
    module _ (f : m.given + k ≤ 4294967295) (h : None ≡ check_rule (aged m k) d o) where
      pub check_inner : None ≡ check_rule m d o
      unfolding check_rule
      check_inner =
          let l = length-map m.pending (raised k) in
          let c = count_raised k o m.pending in
          grind (arith, nat_tests)

      pub ticket_left : m.given + k ≢ 4294967295
      ticket_left = (open_says (aged m k) d o (sym h)).fresh

      pub start_answer : (p : P) → (start_rule m d o p).answer ≡ Ok (m.given + 1)
      start_answer p = ap (λ c. (started m d o p c).answer) (sym check_inner)

      pub start_raised : (p : P) → Ok (m.given + 1 + k) ≡ (start_rule (aged m k) d o p).answer
      start_raised p =
          let e : m.given + 1 + k ≡ m.given + k + 1 = omega arith in
          ap Ok e ∙ ap (λ c. (started (aged m k) d o p c).answer) h

      pub start_after : (p : P) → aged (start_rule m d o p).after k ≡ (start_rule (aged m k) d o p).after
      start_after p =
          let e : m.given + 1 + k ≡ m.given + k + 1 = omega arith in
          let x : Entry P = record { ticket = m.given + 1; deadline = d; owner = o; payload = p } in
          let a = map-append (raised k) m.pending (x ∷ []) in
          ap (λ c. aged (started m d o p c).after k) (sym check_inner)
          ∙ rw (a, e) refl
          ∙ ap (λ c. (started (aged m k) d o p c).after) h

  -- a ticket that was raised is stopped as the ticket below
  stopped_aged : (e : Option (Entry P)) → (stopped (aged m k) (option_map (raised k) e)).answer ≡ (stopped m e).answer
  stopped_aged None = refl
  stopped_aged (Some e) = refl

  left_aged : (e : Option (Entry P)) → (stopped (aged m k) (option_map (raised k) e)).after ≡ aged (stopped m e).after k
  left_aged None = refl
  left_aged (Some e) = ap (λ es. record (aged m k) { pending = es }) (without_raised k e.ticket m.pending)

  pub stop_answer : (t : ℕ) → (stop_rule (aged m k) (t + k)).answer ≡ (stop_rule m t).answer
  stop_answer t = ap (λ e. (stopped (aged m k) e).answer) (find_raised k t m.pending) ∙ stopped_aged (find t m.pending)

  pub stop_after : (t : ℕ) → (stop_rule (aged m k) (t + k)).after ≡ aged (stop_rule m t).after k
  stop_after t = ap (λ e. (stopped (aged m k) e).after) (find_raised k t m.pending) ∙ left_aged (find t m.pending)

  -- no ticket is below the first that is given
  module _ (t : ℕ) (h : t < k) where
    pub stop_missing : (stop_rule (aged m k) t).answer ≡ Err Missing
    stop_missing = ap (λ e. (stopped (aged m k) e).answer) (find_below k t m.pending h)

    pub stop_same : (stop_rule (aged m k) t).after ≡ aged m k
    stop_same = ap (λ e. (stopped (aged m k) e).after) (find_below k t m.pending h)

  taken_answer : (e : Option (Entry P)) → (taken (aged m k) (option_map (raised k) e)).answer ≡ option_map (raised_answer k) (taken m e).answer
  taken_answer None = refl
  taken_answer (Some e) = refl

  taken_after : (e : Option (Entry P)) → (taken (aged m k) (option_map (raised k) e)).after ≡ aged (taken m e).after k
  taken_after None = refl
  taken_after (Some e) = ap (λ es. record (aged m k) { pending = es }) (without_raised k e.ticket m.pending)

  pub take_answer : (take_rule (aged m k)).answer ≡ option_map (raised_answer k) (take_rule m).answer
  take_answer = ap (λ e. (taken (aged m k) e).answer) (due_raised k m.now m.pending) ∙ taken_answer (due_entry m.now m.pending)

  pub take_after : (take_rule (aged m k)).after ≡ aged (take_rule m).after k
  take_after = ap (λ e. (taken (aged m k) e).after) (due_raised k m.now m.pending) ∙ taken_after (due_entry m.now m.pending)

  advanced_answer : (due ended : Bool) → (advanced (aged m k) due ended).answer ≡ (advanced m due ended).answer
  advanced_answer true ended = refl
  advanced_answer false true = refl
  advanced_answer false false = refl

  advanced_after : (due ended : Bool) → (advanced (aged m k) due ended).after ≡ aged (advanced m due ended).after k
  advanced_after true ended = refl
  advanced_after false true = refl
  advanced_after false false = refl

  pub advance_answer : (advance_rule (aged m k)).answer ≡ (advance_rule m).answer
  advance_answer = ap (λ due. (advanced (aged m k) due (m.now == m.last)).answer) due_aged ∙ advanced_answer (due_rule m) (m.now == m.last)

  pub advance_after : (advance_rule (aged m k)).after ≡ aged (advance_rule m).after k
  advance_after = ap (λ due. (advanced (aged m k) due (m.now == m.last)).after) due_aged ∙ advanced_after (due_rule m) (m.now == m.last)
