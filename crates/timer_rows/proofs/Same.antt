-- A store whose links changed, or whose clock went on, and nothing else.
use Rattle.std.proofs.Common.{◌≡◌, ℕ, ◌^◌, ◌<◌, ◌≤◌, min, ◌≢◌, List, [], ◌∷◌, map, length, get_or, set, replicate, sym, refl, ap, ◌∙◌, arith}
use Rattle.std.proofs.lemmas.List.{length-map, length-set, length-replicate, map-set, get_or-replicate}
use Rattle.timer.specs.Meaning.{Entry, Meaning}
use Rattle.timer.specs.Rules.{count, with_pending, without}
use Rattle.timer_rows.specs.declared.row.Row.{Row}
use Rattle.timer_rows.specs.declared.ledger.Ledger.{Ledger}
use Rattle.timer_rows.specs.Buckets.{buckets, chains}
use Rattle.timer_rows.specs.Counts.{ticked_ledger}
use Rattle.timer_rows.specs.Kept.{Kept}
use Rattle.timer_rows.specs.Rows.{tickets, deadlines, owners, nexts, prevs, contents, entry_of, listed, entries, meant, NoneDue}
use Rattle.timer_rows.proofs.Columns.{column_same}
use Rattle.timer_rows.proofs.Pending.{live_row, entries_none}

module _ {P : Type 0} where
  -- a column that is read off the contents
  pub column_of : {Y : Type 0} (f : Entry P → Y) (rows : List (Row P)) → map (λ r. f (entry_of r)) rows ≡ map f (contents rows)
  column_of f [] = refl
  column_of f (r ∷ rs) = ap (λ l. f (entry_of r) ∷ l) (column_of f rs)

  pub same_column : {Y : Type 0} (f : Entry P → Y) (a b : List (Row P)) → contents b ≡ contents a → map (λ r. f (entry_of r)) b ≡ map (λ r. f (entry_of r)) a
  same_column f a b e = column_of f b ∙ ap (map f) e ∙ sym (column_of f a)

  pub same_length : (a b : List (Row P)) → contents b ≡ contents a → length b ≡ length a
  same_length a b e = sym (length-map b entry_of) ∙ ap length e ∙ length-map a entry_of

  -- and where one of these changes
  pub column_set : {Y : Type 0} (f : Entry P → Y) (a b : List (Row P)) (x : ℕ) (e : Entry P) → contents b ≡ set (contents a) x e → map (λ r. f (entry_of r)) b ≡ set (map (λ r. f (entry_of r)) a) x (f e)
  column_set f a b x e is = column_of f b ∙ ap (map f) is ∙ map-set f (contents a) x e ∙ ap (λ c. set c x (f e)) (sym (column_of f a))

  pub set_length : (a b : List (Row P)) (x : ℕ) (e : Entry P) → contents b ≡ set (contents a) x e → length b ≡ length a
  set_length a b x e is = sym (length-map b entry_of) ∙ ap length is ∙ length-set (contents a) x e ∙ length-map a entry_of

  pub same_kept : (a b : List (Row P)) (l : Ledger) → contents b ≡ contents a → Kept a l → Kept b l
  same_kept a b l e k =
      let t : tickets b ≡ tickets a = same_column (λ x. x.ticket) a b e in
      let d : deadlines b ≡ deadlines a = same_column (λ x. x.deadline) a b e in
      let o : owners b ≡ owners a = same_column (λ x. x.owner) a b e in
      let s : entries b ≡ entries a = ap listed e in
      record {
        few = rw (same_length a b e) k.few;
        apart = rw t k.apart;
        issued = rw t k.issued;
        numbered = k.numbered;
        each = k.each;
        sized = rw s k.sized;
        counted = rw s k.counted;
        owned = rw (t, o) k.owned;
        timed = rw (t, d) k.timed;
        clock = k.clock;
        fits = k.fits;
      }

  pub same_meant : (a b : List (Row P)) (l : Ledger) → contents b ≡ contents a → meant b l ≡ meant a l
  same_meant a b l e = let n = same_length a b e in let s : entries b ≡ entries a = ap listed e in rw (n, s)

  -- the row of an entry
  pub same_live : (a b : List (Row P)) (x : ℕ) → contents b ≡ contents a → (x < length a) × (get_or (tickets a) x 0 ≢ 0) → (x < length b) × (get_or (tickets b) x 0 ≢ 0)
  same_live a b x e live =
      (omega (arith, live.0, same_length a b e), λ z. live.1 (ap (λ ts. get_or ts x 0) (sym (same_column (λ e. e.ticket) a b e)) ∙ z))

  -- an entry left after links had changed
  pub removed_meant : (a b rows' : List (Row P)) (l l' : Ledger) (x : ℕ) → contents b ≡ contents a → meant rows' l' ≡ with_pending (meant b l) (without (get_or (tickets b) x 0) (entries b)) → meant rows' l' ≡ with_pending (meant a l) (without (get_or (tickets a) x 0) (entries a))
  removed_meant a b rows' l l' x e is =
      is
      ∙ ap (λ (m : Meaning P). with_pending m (without (get_or (tickets b) x 0) (entries b))) (same_meant a b l e)
      ∙ ap (λ ts. with_pending (meant a l) (without (get_or ts x 0) (entries b))) (same_column (λ e. e.ticket) a b e)
      ∙ ap (λ es. with_pending (meant a l) (without (get_or (tickets a) x 0) (listed es))) e

  -- a row that changes and keeps its links
  pub links_kept : (rows : List (Row P)) (x : ℕ) (r d : Row P) → x < length rows → r.next ≡ (get_or rows x d).next → r.prev ≡ (get_or rows x d).prev → (nexts (set rows x r) ≡ nexts rows) × (prevs (set rows x r) ≡ prevs rows)
  links_kept rows x r d l nx pv = (column_same (λ r. r.next) rows x r d l nx, column_same (λ r. r.prev) rows x r d l pv)

  -- and its chain links
  pub chains_kept : (rows : List (Row P)) (x : ℕ) (r d : Row P) → x < length rows → r.bucket ≡ (get_or rows x d).bucket → r.chain ≡ (get_or rows x d).chain → (buckets (set rows x r) ≡ buckets rows) × (chains (set rows x r) ≡ chains rows)
  chains_kept rows x r d l n o = (column_same (λ r. r.bucket) rows x r d l n, column_same (λ r. r.chain) rows x r d l o)

  -- one tick later, where nothing was due
  pub tick_kept : (rows : List (Row P)) (l : Ledger) → Kept rows l → NoneDue l.now rows → l.now ≢ l.last → Kept rows (ticked_ledger l)
  tick_kept rows l k none end =
      record {
        few = k.few;
        apart = k.apart;
        issued = k.issued;
        numbered = k.numbered;
        each = k.each;
        sized = k.sized;
        counted = k.counted;
        owned = k.owned;
        timed = λ i n.
            let w = k.timed i n in
            let ne = none i (live_row rows i n) n in
            (omega arith, w.1);
        clock = let c = k.clock in omega arith;
        fits = k.fits;
      }

  -- vacant rows and a new ledger
  pub new_kept : (rows : List (Row P)) (first last : ℕ) → last < 2 ^ 32 → length rows ≤ 4096 → ((i : ℕ) → get_or (tickets rows) i 0 ≡ 0) → Kept rows (record { now = min first last; last = last; given = 0; pending = 0; vacant = 0; counts = replicate 64 0 })
  new_kept rows first last fits n z =
      let s = entries_none rows z in
      record {
        few = n;
        apart = λ i j h e. absurd (h (z i));
        issued = λ i. omega (arith, z i);
        numbered = omega arith;
        each = length-replicate {A = ℕ} 64 0;
        sized = sym (ap length s);
        counted = λ o h. get_or-replicate {A = ℕ} 64 o 0 0 h ∙ sym (ap (count o) s);
        owned = λ i h. absurd (h (z i));
        timed = λ i h. absurd (h (z i));
        clock = omega arith;
        fits = fits;
      }
