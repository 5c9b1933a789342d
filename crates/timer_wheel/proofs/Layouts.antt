-- What walks along the slots of a wheel meet, at a tick and at the next.
use Rattle.std.proofs.Common.{◌≡◌, ℕ, zero, suc, ◌+◌, ◌*◌, ◌<◌, ◌≤◌, Bool, true, false, cond, ◌&&◌, eqb, ltb, ◌≢◌, List, [], ◌∷◌, get_or, Ok, Err, Result, sym, refl, ap, ◌∙◌, subst, ⊎_elim, arith}
use Rattle.std.specs.Result.{OnOk}
use Rattle.std.specs.List.{All, AllByRecursion, filter}
use Rattle.std.proofs.Math.Path.{fun_ext}
use Rattle.std.proofs.lemmas.Bool.{cases_eq, eq-eqb, ne_eqb, lt-ltb}
use Rattle.timer.specs.declared.fault.TimerFault.{TimerFault}
use Rattle.timer.specs.declared.fault.TimerFault.TheVariants.{Due, Ended}
use Rattle.timer.specs.Meaning.{Entry, Meaning}
use Rattle.timer.specs.Rules.{Outcome, advance_rule, due_rule, refused, ticked}
use Rattle.timer_rows.specs.declared.row.Row.{Row}
use Rattle.timer_rows.specs.declared.ends.Ends.{Ends}
use Rattle.timer_rows.specs.declared.ledger.Ledger.{Ledger}
use Rattle.timer_rows.specs.Kept.{Kept}
use Rattle.timer_rows.specs.Rows.{entries, meant}
use Rattle.timer_rows.specs.Walks.{in_slot, Meets}
use Rattle.timer_rows.specs.Slots.{Slots}
use Rattle.timer_rows.proofs.Meeting.{slot_met, by_ticket}
use Rattle.timer_rows.proofs.Pending.{all_entries, ticket_at, deadline_at}
use Rattle.timer_wheel.specs.Place.{digit, level, place_of, Highest}
use Rattle.timer_wheel.specs.Cascade.{laid, cascade, ToCome}
use Rattle.timer_wheel.specs.Layout.{lies, lying, Layout, Walked}
use Rattle.timer_wheel.specs.Placed.{place_at, key, Placed}
use Rattle.timer_wheel.proofs.Cascading.{all_levels}
use Rattle.timer_wheel.proofs.Levels.{level_highest}

-- two numbers below 64 beside others, as one number each
pair_at : (a k x y s : ℕ) → x < 64 → s < 64 → (a ≡ k → y ≡ x) → (eqb a k && eqb y s) ≡ eqb (64 * a + x) (64 * k + s)
pair_at a k x y s xl sl same =
    ⊎_elim
    (λ (e : a ≡ k).
    let m = same e in
    rw (eq-eqb a k e)
    (⊎_elim
    (λ (f : y ≡ s). eq-eqb y s f ∙ sym (eq-eqb (64 * a + x) (64 * k + s) (omega arith)))
    (λ (f : y ≢ s). ne_eqb y s f ∙ sym (ne_eqb (64 * a + x) (64 * k + s) (λ z. f (omega arith))))
    (cases_eq y s)))
    (λ (e : a ≢ k). rw (ne_eqb a k e) (sym (ne_eqb (64 * a + x) (64 * k + s) (λ z. e (omega arith)))))
    (cases_eq a k)

-- a level and a slot there, and the place of both
lies_at : (n k s d : ℕ) → s < 64 → lies n k s d ≡ eqb (place_of n d) (64 * k + s)
unfolding place_of
lies_at n k s d sl = pair_at (level n d) k (digit (level n d) d) (digit k d) s (omega arith) sl (λ e. ap (λ j. digit j d) (sym e))

all_of : {X : Type 0} (Q : X → Type 0) (xs : List X) → AllByRecursion Q xs → All Q xs
all_of Q [] a k d l = absurd (omega arith)
all_of Q (x ∷ xs) a zero d l = a.0
all_of Q (x ∷ xs) a (suc k) d l = all_of Q xs a.1 k d (omega arith)

lying_laid : {P : Type 0} (n k s : ℕ) (es : List (Entry P)) → s < 64 → lying n k s es ≡ laid n es (64 * k + s)
lying_laid n k s es sl = ap (λ t. filter t es) (fun_ext (λ e. lies_at n k s e.deadline sl))

module _ {P : Type 0} (rows : List (Row P)) (l : Ledger) (es : List Ends) (k : Kept rows l) (h : Placed rows l es) where
  pub walked : Walked rows es (laid l.now (entries rows))
  walked p b =
      subst (λ (met : List (Entry P)). Meets rows es p met) (by_ticket rows k.apart (λ e. eqb (place_of l.now e.deadline) p)) (slot_met h.slots p b)

  pub layout : Layout l.now rows es
  layout =
      record {
        levels = all_of (λ e. Highest (level l.now e.deadline) l.now e.deadline) (entries rows)
            (all_entries (λ e. Highest (level l.now e.deadline) l.now e.deadline) rows
            (λ i d il n.
            let t = k.timed i (λ z. n (sym (ticket_at rows i d il) ∙ z)) in
            let e = deadline_at rows i d il in
            let last = h.last in
            level_highest (level l.now (get_or rows i d).deadline) l.now (get_or rows i d).deadline refl (omega arith) (omega arith)));
        walks = λ j s jl sl. subst (λ (met : List (Entry P)). Meets rows es (64 * j + s) met) (sym (lying_laid l.now j s (entries rows) sl)) (walked (64 * j + s) (omega arith));
      }

  -- entries that are to come as the tick n ends are laid out by the cascade
  pub cascaded : (n : ℕ) → l.now ≡ n + 1 → Walked rows es (cascade l.now (laid n (entries rows)))
  cascaded n e p b =
      let w : ToCome n (entries rows) = all_of (λ e. (n < e.deadline) × (e.deadline ≤ 16777215)) (entries rows)
      (all_entries (λ e. (n < e.deadline) × (e.deadline ≤ 16777215)) rows
      (λ i d il v.
      let t = k.timed i (λ z. v (sym (ticket_at rows i d il) ∙ z)) in
      let a = deadline_at rows i d il in
      let last = h.last in
      (omega arith, omega arith))) in
      subst (λ (met : List (Entry P)). Meets rows es p met) (sym (ap (λ t. cascade t (laid n (entries rows)) p) e ∙ ap (λ f. f p) (all_levels n (entries rows) w) ∙ ap (λ t. laid t (entries rows) p) (sym e))) (walked p b)

  -- the slot of a level, where the wheel was lent to be read
  module _ (ys : List (Row P)) (fs : List Ends) (is : ys ≡ rows) (at : fs ≡ es) where
    pub read_slots : Slots (place_at l.now) key ys fs 256
    read_slots = rw (is, at) h.slots

    pub read_lying : (j s : ℕ) → s < 64 → in_slot (place_at l.now) key (64 * j + s) ys ≡ lying l.now j s (entries rows)
    read_lying j s sl =
        ap (in_slot (place_at l.now) key (64 * j + s)) is
        ∙ by_ticket rows k.apart (λ e. eqb (place_of l.now e.deadline) (64 * j + s))
        ∙ sym (lying_laid l.now j s (entries rows) sl)

-- a slot that there is
pub there : {X : Type 0} (j s : ℕ) (x y : X) → j < 4 → s < 64 → x ≡ cond (ltb j 4 && ltb s 64) x y
there j s x y a b = rw (lt-ltb j 4 a, lt-ltb s 64 b) refl

-- an advance that was not refused
module _ {P : Type 0} (m : Meaning P) where
  abbrev by : Bool → Bool → Outcome (Result (Unit {0}) TimerFault) P
  by d e = cond d (refused m Due) (cond e (refused m Ended) (record { answer = Ok tt; after = ticked m; events = [] }))

  after_by : (d e : Bool) → Ok tt ≡ (by d e).answer → (by d e).after ≡ ticked m
  after_by true e h = absurd (cc h)
  after_by false true h = absurd (cc h)
  after_by false false h = refl

  pub advanced : Ok tt ≡ (advance_rule m).answer → (advance_rule m).after ≡ ticked m
  advanced h = after_by (due_rule m) (eqb m.now m.last) h

pub on_ok : (r : Result (Unit {0}) TimerFault) (Q : Type 0) → (r ≡ Ok tt → Q) → OnOk r Q
on_ok (Ok x) Q f = f refl
on_ok (Err e) Q f = tt

-- the wheel after it
pub advanced_walked : {P : Type 0} (rows rows' : List (Row P)) (l l' : Ledger) (es : List Ends) (r : Result (Unit {0}) TimerFault) → Kept rows' l' → Placed rows' l' es → r ≡ (advance_rule (meant rows l)).answer → meant rows' l' ≡ (advance_rule (meant rows l)).after → OnOk r (Walked rows' es (cascade l'.now (laid l.now (entries rows))))
advanced_walked {P} rows rows' l l' es r k h a m =
    on_ok r (Walked rows' es (cascade l'.now (laid l.now (entries rows)))) (λ e.
    let t = m ∙ advanced (meant rows l) (sym e ∙ a) in
    subst (λ (xs : List (Entry P)). Walked rows' es (cascade l'.now (laid l.now xs))) (ap (λ (q : Meaning P). q.pending) t)
    (cascaded rows' l' es k h l.now (ap (λ (q : Meaning P). q.now) t)))
