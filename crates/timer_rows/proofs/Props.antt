-- The facts that a store keeps can hold in one way only, so they come out of a truncation again.
use Rattle.std.proofs.Common.{◌≡◌, ℕ, ◌+◌, ◌^◌, ◌<◌, ◌≤◌, ◌≢◌, List, length, get_or}
use mathlib.Core.Logic.{∥∥₁_elim}
use denote.Struct.Props.{props}
use Rattle.timer.specs.Meaning.{Entry}
use Rattle.timer.specs.Rules.{count}
use Rattle.timer_rows.specs.declared.row.Row.{Row}
use Rattle.timer_rows.specs.declared.ledger.Ledger.{Ledger}
use Rattle.timer_rows.specs.Kept.{Kept}
use Rattle.timer_rows.specs.declared.ends.Ends.{Ends}
use Rattle.timer_rows.specs.Links.{ons, backs, keys_by, Leads, Linked}
use Rattle.timer_rows.specs.Rows.{tickets, deadlines, owners, entries}
use Rattle.timer_rows.specs.Slots.{homes, Slots}

pub kept_prop : {P : Type 0} (rows : List (Row P)) (l : Ledger) → IsProp (Kept rows l)
kept_prop rows l p q =
    let few : IsProp (length rows ≤ 4096) = hlevel props in
    let apart : IsProp ((i j : ℕ) → get_or (tickets rows) i 0 ≢ 0 → get_or (tickets rows) i 0 ≡ get_or (tickets rows) j 0 → i ≡ j) = hlevel props in
    let issued : IsProp ((i : ℕ) → get_or (tickets rows) i 0 ≤ l.given) = hlevel props in
    let numbered : IsProp (l.given < 2 ^ 32) = hlevel props in
    let each : IsProp (length l.counts ≡ 64) = hlevel props in
    let sized : IsProp (l.pending ≡ length (entries rows)) = hlevel props in
    let counted : IsProp ((o : ℕ) → o < 64 → get_or l.counts o 0 ≡ count o (entries rows)) = hlevel props in
    let owned : IsProp ((i : ℕ) → get_or (tickets rows) i 0 ≢ 0 → get_or (owners rows) i 0 < 64) = hlevel props in
    let timed : IsProp ((i : ℕ) → get_or (tickets rows) i 0 ≢ 0 → (l.now ≤ get_or (deadlines rows) i 0) × (get_or (deadlines rows) i 0 ≤ l.last)) = hlevel props in
    let clock : IsProp (l.now ≤ l.last) = hlevel props in
    let fits : IsProp (l.last < 2 ^ 32) = hlevel props in
    λ i. record {
      few = few p.few q.few i;
      apart = apart p.apart q.apart i;
      issued = issued p.issued q.issued i;
      numbered = numbered p.numbered q.numbered i;
      each = each p.each q.each i;
      sized = sized p.sized q.sized i;
      counted = counted p.counted q.counted i;
      owned = owned p.owned q.owned i;
      timed = timed p.timed q.timed i;
      clock = clock p.clock q.clock i;
      fits = fits p.fits q.fits i;
    }

pub kept_out : {P : Type 0} (rows : List (Row P)) (l : Ledger) → ∥ Kept rows l ∥₁ → Kept rows l
kept_out rows l t = ∥∥₁_elim t (kept_prop rows l) (λ k. k)

leads_prop : (ns ps hs : List ℕ) (n m : ℕ) → IsProp (Leads ns ps hs n m)
leads_prop ns ps hs n m = hlevel props

pub linked_prop : (ns ps hs ks : List ℕ) (n m : ℕ) → IsProp (Linked ns ps hs ks n m)
linked_prop ns ps hs ks n m p q =
    let up : IsProp ((y : ℕ) → y < n → get_or hs y m < m → get_or ns y 0 < n → get_or ks y 0 < get_or ks (get_or ns y 0) 0) = hlevel props in
    let sentinels : IsProp ((s : ℕ) → s < m → get_or hs (n + s) m ≡ s) = hlevel props in
    let long : (xs : List ℕ) (k : ℕ) → IsProp (length xs ≡ k) = λ xs k. hlevel props in
    λ i. record {
      on = leads_prop ns ps hs n m p.on q.on i;
      back = leads_prop ps ns hs n m p.back q.back i;
      up = up p.up q.up i;
      sentinels = sentinels p.sentinels q.sentinels i;
      onward = long ns (n + m) p.onward q.onward i;
      backward = long ps (n + m) p.backward q.backward i;
      homes = long hs (n + m) p.homes q.homes i;
      keys = long ks n p.keys q.keys i;
    }

pub slots_prop : {P : Type 0} (slot key : Entry P → ℕ) (rows : List (Row P)) (es : List Ends) (m : ℕ) → IsProp (Slots slot key rows es m)
slots_prop slot key rows es m p q =
    let each : IsProp ((i : ℕ) → get_or (tickets rows) i 0 ≢ 0 → get_or (homes m slot rows) i m < m) = hlevel props in
    λ i. record {
      each = each p.each q.each i;
      linked = linked_prop (ons rows es) (backs rows es) (homes m slot rows) (keys_by key rows) (length rows) m p.linked q.linked i;
    }
