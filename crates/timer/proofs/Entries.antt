-- The entries that are pending: what is found among them, and what is left without one.
use Rattle.std.proofs.Common.{◌≡◌, ℕ, ◌+◌, ◌<◌, ◌≤◌, true, false, cond, eqb, ◌⊎◌, List, [], ◌∷◌, ◌++◌, Some, None, Option, sym, refl, ap, ◌∙◌, subst, inl, inr, arith}
use Rattle.std.specs.List.{AllByRecursion}
use Rattle.std.proofs.ByRecursion.{All-push}
use Rattle.std.proofs.lemmas.Bool.{cases_eq, eq-eqb, ne_eqb, cond-true, cond-false}
use Rattle.std.proofs.lemmas.Bool.Decides.{nat_tests}
use Rattle.timer.specs.Meaning.{Entry, Rising}
use Rattle.timer.specs.Rules.{find, without, due_entry}
use Rattle.timer.specs.History.{In, times_pending}
use Rattle.timer.proofs.Members.{never}

pub all_in : {P : Type 0} (Q : Entry P → Type 0) (es : List (Entry P)) (e : Entry P) → AllByRecursion Q es → In e es → Q e
all_in Q [] e a h = absurd h
all_in Q (x ∷ es) e a h = elim h [ inl q ↦ subst Q q a.0 | inr i ↦ all_in Q es e a.1 i ]

pub all_from_in : {P : Type 0} (Q : Entry P → Type 0) (es : List (Entry P)) → ((e : Entry P) → In e es → Q e) → AllByRecursion Q es
all_from_in Q [] f = tt
all_from_in Q (x ∷ es) f = (f x (inl refl), all_from_in Q es (λ e i. f e (inr i)))

pub find_in : {P : Type 0} (t : ℕ) (es : List (Entry P)) (e : Entry P) → find t es ≡ Some e → In e es
find_in t [] e h = never (cc)
find_in t (x ∷ es) e h =
    (elim (eqb x.ticket t) as (λ b. cond b (Some x) (find t es) ≡ Some e → (x ≡ e) ⊎ In e es) [
      | true ↦ λ q. inl (cc)
      | false ↦ λ q. inr (find_in t es e q)
    ]) h

pub in_without : {P : Type 0} (t : ℕ) (es : List (Entry P)) (e : Entry P) → In e (without t es) → In e es
in_without t [] e h = h
in_without t (x ∷ es) e h =
    (elim (eqb x.ticket t) as (λ b. In e (cond b es (x ∷ without t es)) → (x ≡ e) ⊎ In e es) [
      | true ↦ λ i. inr i
      | false ↦ λ s. elim s [ inl q ↦ inl q | inr i ↦ inr (in_without t es e i) ]
    ]) h

pub rising_without : {P : Type 0} (t : ℕ) (es : List (Entry P)) → Rising es → Rising (without t es)
rising_without t [] r = tt
rising_without t (x ∷ es) r =
    elim (eqb x.ticket t) as (λ b. Rising (cond b es (x ∷ without t es))) [
      | true ↦ r.1
      | false ↦ (
        all_from_in (λ f. x.ticket < f.ticket) (without t es) (λ e i. all_in (λ f. x.ticket < f.ticket) es e r.0 (in_without t es e i)),
        rising_without t es r.1,
      )
    ]

pub rising_push : {P : Type 0} (es : List (Entry P)) (e : Entry P) → Rising es → AllByRecursion (λ f. f.ticket < e.ticket) es → Rising (es ++ e ∷ [])
rising_push [] e r a = (tt, tt)
rising_push (x ∷ es) e r a = (All-push (λ f. x.ticket < f.ticket) es e r.0 a.0, rising_push es e r.1 a.1)

-- no other entry has the ticket
pub without_other : {P : Type 0} (es : List (Entry P)) (e f : Entry P) → Rising es → In e es → In f (without e.ticket es) → f.ticket ≡ e.ticket → ⊥
without_other [] e f r i j q = i
without_other (x ∷ es) e f r i j q =
    elim (cases_eq x.ticket e.ticket) [
      | inl h ↦
          let k : In f es = subst (λ b. In f (cond b es (x ∷ without e.ticket es))) (eq-eqb x.ticket e.ticket h) j in
          omega (arith, all_in (λ f. x.ticket < f.ticket) es f r.0 k)
      | inr h ↦
          let k : (x ≡ f) ⊎ In f (without e.ticket es) = subst (λ b. In f (cond b es (x ∷ without e.ticket es))) (ne_eqb x.ticket e.ticket h) j in
          elim k [
            | inl g ↦ h (ap (λ y. y.ticket) g ∙ q)
            | inr l ↦ elim i [ inl g ↦ h (ap (λ y. y.ticket) g) | inr o ↦ without_other es e f r.1 o l q ]
          ]
    ]

-- an entry that leaves is one that was pending
pub times_without : {P : Type 0} (t : ℕ) (es : List (Entry P)) (e : Entry P) → In e es → times_pending t (without e.ticket es) + times_pending t (e ∷ []) ≡ times_pending t es
times_without t [] e i = absurd i
times_without t (x ∷ es) e i =
    elim i [
      | inl q ↦ let h : x.ticket ≡ e.ticket = ap (λ y. y.ticket) q in grind (arith, nat_tests)
      | inr j ↦ let h = times_without t es e j in grind (arith, nat_tests)
    ]

-- the first entry is the one that is due first, or another after it is
due_cases : {P : Type 0} (n : ℕ) (x : Entry P) (es : List (Entry P)) (o : Option (Entry P)) → due_entry n (x ∷ es) ≡ o → ((x.deadline ≡ n) × (o ≡ Some x)) ⊎ ((x.deadline ≡ n → ⊥) × (due_entry n es ≡ o))
due_cases n x es o h =
    elim (cases_eq x.deadline n) [
      | inl q ↦ inl (q, sym h ∙ cond-true (eqb x.deadline n) (Some x) (due_entry n es) (eq-eqb x.deadline n q))
      | inr q ↦ inr (q, sym (cond-false (eqb x.deadline n) (Some x) (due_entry n es) (ne_eqb x.deadline n q)) ∙ h)
    ]

pub due_in : {P : Type 0} (n : ℕ) (es : List (Entry P)) (e : Entry P) → due_entry n es ≡ Some e → In e es × (e.deadline ≡ n)
due_in n [] e h = never (cc)
due_in n (x ∷ es) e h =
    elim (due_cases n x es (Some e) h) [
      | inl c ↦ let q : x ≡ e = cc in (inl q, ap (λ y. y.deadline) (sym q) ∙ c.0)
      | inr c ↦ let r = due_in n es e c.1 in (inr r.0, r.1)
    ]

-- no entry that is due has a lower ticket
pub due_first : {P : Type 0} (n : ℕ) (es : List (Entry P)) (e f : Entry P) → Rising es → due_entry n es ≡ Some e → In f es → f.deadline ≡ n → e.ticket ≤ f.ticket
due_first n [] e f r h i d = absurd i
due_first n (x ∷ es) e f r h i d =
    elim (due_cases n x es (Some e) h) [
      | inl c ↦
          let q : x.ticket ≡ e.ticket = cc in
          elim i [
            | inl p ↦ omega (arith, ap (λ y. y.ticket) p)
            | inr j ↦ omega (arith, all_in (λ y. x.ticket < y.ticket) es f r.0 j)
          ]
      | inr c ↦
          elim i [
            | inl p ↦ absurd (c.0 (ap (λ y. y.deadline) p ∙ d))
            | inr j ↦ due_first n es e f r.1 c.1 j d
          ]
    ]

pub none_due : {P : Type 0} (n : ℕ) (es : List (Entry P)) (e : Entry P) → due_entry n es ≡ None → In e es → e.deadline ≡ n → ⊥
none_due n [] e h i d = i
none_due n (x ∷ es) e h i d =
    elim (due_cases n x es None h) [
      | inl c ↦ never (cc)
      | inr c ↦ elim i [ inl p ↦ c.0 (ap (λ y. y.deadline) p ∙ d) | inr j ↦ none_due n es e c.1 j d ]
    ]
