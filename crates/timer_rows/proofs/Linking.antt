-- Slots stay slots when a row is taken out of one or put into one.
use Rattle.std.proofs.Common.{◌≡◌, ℕ, ◌+◌, ◌<◌, ◌≤◌, ◌≢◌, List, length, get_or, set, sym, refl, ap, ◌∙◌, ⊎_elim, arith}
use Rattle.std.proofs.lemmas.List.{get_or-set_same, get_or-set_other, length-set, get_or_past}
use Rattle.std.proofs.lemmas.Bool.{cases_lt}
use Rattle.timer_rows.specs.Links.{Leads, Linked}
use Rattle.timer_rows.proofs.Columns.{set_cases}

-- x, between p and q, is taken out: seen in either direction
leads_out : (ns ps hs : List ℕ) (n m x p q : ℕ) → Leads ns ps hs n m → get_or ps x 0 ≡ p → get_or ns x 0 ≡ q → get_or ns p 0 ≡ x → get_or ps q 0 ≡ x → get_or hs p m ≡ get_or hs x m → get_or hs q m ≡ get_or hs x m → q < n + m → q ≢ x → x < length hs → p < length ns → q < length ps → Leads (set ns p q) (set ps q p) (set hs x m) n m
leads_out ns ps hs n m x p q on ep eq xp xq hp hq qn qx lx lp lq y w =
    ⊎_elim
    (λ hx. absurd (omega (arith, hx.1)))
    (λ hy.
    let yh : get_or hs y m < m = omega (arith, hy.1) in
    let a = on y yh in
    let hq' : get_or (set hs x m) q m ≡ get_or hs q m = get_or-set_other hs x q m m qx in
    ⊎_elim
    (λ yp.
    rw yp.1 (
      qn,
      hq' ∙ hq ∙ sym hp ∙ ap (λ k. get_or hs k m) (sym yp.0) ∙ sym hy.1,
      get_or-set_same ps q p 0 lq ∙ sym yp.0,
    ))
    (λ yp.
    let z = get_or ns y 0 in
    let zx : get_or ns y 0 ≢ x = λ e. yp.0 (sym a.2 ∙ ap (λ k. get_or ps k 0) e ∙ ep) in
    let zq : get_or ns y 0 ≢ q = λ e. hy.0 (sym a.2 ∙ ap (λ k. get_or ps k 0) e ∙ xq) in
    rw yp.1 (
      a.0,
      get_or-set_other hs x (get_or ns y 0) m m zx ∙ a.1 ∙ sym hy.1,
      get_or-set_other ps q (get_or ns y 0) p 0 zq ∙ a.2,
    ))
    (set_cases ns p q 0 y lp))
    (set_cases hs x m m y lx)

-- x, which is in no slot, is put between p and q
leads_in : (ns ps hs : List ℕ) (n m x p q s : ℕ) → Leads ns ps hs n m → get_or ps q 0 ≡ p → get_or ns p 0 ≡ q → get_or hs p m ≡ s → get_or hs q m ≡ s → s < m → m ≤ get_or hs x m → q < n + m → x < n + m → x < length hs → x < length ns → x < length ps → p < length ns → q < length ps → Leads (set (set ns p x) x q) (set (set ps q x) x p) (set hs x s) n m
leads_in ns ps hs n m x p q s on ep eq hp hq sm free qn xn lx nx px lp lq y w =
    let qx : q ≢ x = λ e. omega (arith, ap (λ k. get_or hs k m) e) in
    let px' : p ≢ x = λ e. omega (arith, ap (λ k. get_or hs k m) e) in
    let nx' : x < length (set ns p x) = omega (arith, length-set ns p x) in
    let psx : x < length (set ps q x) = omega (arith, length-set ps q x) in
    let hq' : get_or (set hs x s) q m ≡ get_or hs q m = get_or-set_other hs x q s m qx in
    let psq : get_or (set (set ps q x) x p) q 0 ≡ x = get_or-set_other (set ps q x) x q p 0 qx ∙ get_or-set_same ps q x 0 lq in
    ⊎_elim
    (λ yx.
    let e : get_or (set (set ns p x) x q) y 0 ≡ q = ap (λ k. get_or (set (set ns p x) x q) k 0) yx.0 ∙ get_or-set_same (set ns p x) x q 0 nx' in
    rw e (qn, hq' ∙ hq ∙ sym yx.1, psq ∙ sym yx.0))
    (λ yx.
    let yh : get_or hs y m < m = omega (arith, yx.1) in
    let a = on y yh in
    let b : get_or (set (set ns p x) x q) y 0 ≡ get_or (set ns p x) y 0 = get_or-set_other (set ns p x) x y q 0 yx.0 in
    ⊎_elim
    (λ yp.
    rw (b ∙ yp.1) (
      xn,
      get_or-set_same hs x s m lx ∙ sym hp ∙ ap (λ k. get_or hs k m) (sym yp.0) ∙ sym yx.1,
      get_or-set_same (set ps q x) x p 0 psx ∙ sym yp.0,
    ))
    (λ yp.
    let zx : get_or ns y 0 ≢ x = λ e. omega (arith, a.1, ap (λ k. get_or hs k m) e) in
    let zq : get_or ns y 0 ≢ q = λ e. yp.0 (sym a.2 ∙ ap (λ k. get_or ps k 0) e ∙ ep) in
    rw (b ∙ yp.1) (
      a.0,
      get_or-set_other hs x (get_or ns y 0) s m zx ∙ a.1 ∙ sym yx.1,
      get_or-set_other (set ps q x) x (get_or ns y 0) p 0 zx ∙ get_or-set_other ps q (get_or ns y 0) x 0 zq ∙ a.2,
    ))
    (set_cases ns p x 0 y lp))
    (set_cases hs x s m y lx)

module _ (ns ps hs ks : List ℕ) (n m : ℕ) (k : Linked ns ps hs ks n m) where
  -- a node of a slot is a node
  pub node_below : (y : ℕ) → get_or hs y m < m → y < n + m
  node_below y h =
      ⊎_elim
      (λ (l : y < n + m). l)
      (λ (l : n + m ≤ y). absurd (omega (arith, get_or_past hs y m (omega (arith, k.homes)))))
      (cases_lt y (n + m))

  module _ (x : ℕ) (xn : x < n) (xh : get_or hs x m < m) where
    -- no row leads to itself
    next_other : get_or ns x 0 ≢ x
    next_other e =
        let l : get_or ns x 0 < n = omega (arith, e) in
        omega (arith, k.up x xn xh l, ap (λ i. get_or ks i 0) e)

    prev_other : get_or ps x 0 ≢ x
    prev_other e = next_other (ap (λ i. get_or ns i 0) (sym e) ∙ (k.back x xh).2)

    pub linked_out : Linked (set ns (get_or ps x 0) (get_or ns x 0)) (set ps (get_or ns x 0) (get_or ps x 0)) (set hs x m) ks n m
    linked_out =
        let p = get_or ps x 0 in
        let q = get_or ns x 0 in
        let b = k.back x xh in
        let o = k.on x xh in
        let lp : get_or ps x 0 < length ns = omega (arith, b.0, k.onward) in
        let lq : get_or ns x 0 < length ps = omega (arith, o.0, k.backward) in
        let lx : x < length hs = omega (arith, k.homes) in
        record {
          on = leads_out ns ps hs n m x p q k.on refl refl b.2 o.2 b.1 o.1 o.0 next_other lx lp lq;
          back = leads_out ps ns hs n m x q p k.back refl refl o.2 b.2 o.1 b.1 b.0 prev_other lx lq lp;
          up = λ y yn w l.
              ⊎_elim
              (λ hx. absurd (omega (arith, hx.1)))
              (λ hy.
              let yh : get_or hs y m < m = omega (arith, hy.1) in
              ⊎_elim
              (λ yp.
              let c : get_or ns x 0 < n = omega (arith, yp.1) in
              let e : get_or ns y 0 ≡ x = ap (λ i. get_or ns i 0) yp.0 ∙ b.2 in
              let d : get_or ns y 0 < n = omega (arith, e) in
              let f = k.up y yn yh d in
              let h = k.up x xn xh c in
              let j = ap (λ i. get_or ks i 0) e in
              rw yp.1 (omega arith))
              (λ yp. let c : get_or ns y 0 < n = omega (arith, yp.1) in rw yp.1 (k.up y yn yh c))
              (set_cases ns p q 0 y lp))
              (set_cases hs x m m y lx);
          sentinels = λ s l. let ne : n + s ≢ x = λ e. omega (arith, e) in get_or-set_other hs x (n + s) m m ne ∙ k.sentinels s l;
          onward = length-set ns p q ∙ k.onward;
          backward = length-set ps q p ∙ k.backward;
          homes = length-set hs x m ∙ k.homes;
          keys = k.keys;
        }

  -- x, with the key v, is put before the node q of slot s
  module _ (x q s v : ℕ) (xn : x < n) (free : m ≤ get_or hs x m) (qs : get_or hs q m ≡ s) (sm : s < m) (below : get_or ps q 0 < n → get_or ks (get_or ps q 0) 0 < v) (above : q < n → v < get_or ks q 0) where
    pub linked_in : Linked (set (set ns (get_or ps q 0) x) x q) (set (set ps q x) x (get_or ps q 0)) (set hs x s) (set ks x v) n m
    linked_in =
        let p = get_or ps q 0 in
        let qh : get_or hs q m < m = omega (arith, qs) in
        let b = k.back q qh in
        let hp : get_or hs (get_or ps q 0) m ≡ s = b.1 ∙ qs in
        let qn = node_below q qh in
        let pn = b.0 in
        let lx : x < length hs = omega (arith, k.homes) in
        let nx : x < length ns = omega (arith, k.onward) in
        let px : x < length ps = omega (arith, k.backward) in
        let kx : x < length ks = omega (arith, k.keys) in
        let lp : get_or ps q 0 < length ns = omega (arith, b.0, k.onward) in
        let lq : q < length ps = omega (arith, qn, k.backward) in
        let xm : x < n + m = omega arith in
        let qx : q ≢ x = λ e. omega (arith, ap (λ i. get_or hs i m) e) in
        let nx' : x < length (set ns (get_or ps q 0) x) = omega (arith, length-set ns (get_or ps q 0) x) in
        record {
          on = leads_in ns ps hs n m x p q s k.on refl b.2 hp qs sm free qn xm lx nx px lp lq;
          back = leads_in ps ns hs n m x q p s k.back b.2 refl qs hp sm free pn xm lx px nx lq lp;
          up = λ y yn w l.
              ⊎_elim
              (λ yx.
              let e : get_or (set (set ns p x) x q) y 0 ≡ q = ap (λ i. get_or (set (set ns p x) x q) i 0) yx.0 ∙ get_or-set_same (set ns p x) x q 0 nx' in
              let c : q < n = omega (arith, e) in
              rw (e, ap (λ i. get_or (set ks x v) i 0) yx.0, get_or-set_same ks x v 0 kx, get_or-set_other ks x q v 0 qx) (above c))
              (λ yx.
              let yh : get_or hs y m < m = omega (arith, yx.1) in
              let f : get_or (set (set ns p x) x q) y 0 ≡ get_or (set ns p x) y 0 = get_or-set_other (set ns p x) x y q 0 yx.0 in
              ⊎_elim
              (λ yp.
              let e : get_or (set (set ns p x) x q) y 0 ≡ x = f ∙ yp.1 in
              let c : get_or ps q 0 < n = omega (arith, yp.0) in
              let j = below c in
              rw (e, get_or-set_same ks x v 0 kx, get_or-set_other ks x y v 0 yx.0, ap (λ i. get_or ks i 0) yp.0) j)
              (λ yp.
              let e : get_or (set (set ns p x) x q) y 0 ≡ get_or ns y 0 = f ∙ yp.1 in
              let c : get_or ns y 0 < n = omega (arith, e) in
              let zx : get_or ns y 0 ≢ x = λ i. omega (arith, (k.on y yh).1, ap (λ i. get_or hs i m) i) in
              rw (e, get_or-set_other ks x (get_or ns y 0) v 0 zx, get_or-set_other ks x y v 0 yx.0) (k.up y yn yh c))
              (set_cases ns p x 0 y lp))
              (set_cases hs x s m y lx);
          sentinels = λ u l. let ne : n + u ≢ x = λ e. omega (arith, e) in get_or-set_other hs x (n + u) s m ne ∙ k.sentinels u l;
          onward = length-set (set ns p x) x q ∙ length-set ns p x ∙ k.onward;
          backward = length-set (set ps q x) x p ∙ length-set ps q x ∙ k.backward;
          homes = length-set hs x s ∙ k.homes;
          keys = length-set ks x v ∙ k.keys;
        }

  -- the key of a row that is in no slot does not matter
  pub linked_key : (x v : ℕ) → x < n → m ≤ get_or hs x m → Linked ns ps hs (set ks x v) n m
  linked_key x v xn free =
      record {
        on = k.on;
        back = k.back;
        up = λ y yn yh l.
            let yx : y ≢ x = λ e. omega (arith, ap (λ i. get_or hs i m) e) in
            let zx : get_or ns y 0 ≢ x = λ e. omega (arith, (k.on y yh).1, ap (λ i. get_or hs i m) e) in
            rw (get_or-set_other ks x y v 0 yx, get_or-set_other ks x (get_or ns y 0) v 0 zx) (k.up y yn yh l);
        sentinels = k.sentinels;
        onward = k.onward;
        backward = k.backward;
        homes = k.homes;
        keys = length-set ks x v ∙ k.keys;
      }

-- slots over columns that are equal
pub linked_at : {ns ns' ps ps' hs hs' ks ks' : List ℕ} {n n' : ℕ} (m : ℕ) → ns' ≡ ns → ps' ≡ ps → hs' ≡ hs → ks' ≡ ks → n' ≡ n → Linked ns ps hs ks n m → Linked ns' ps' hs' ks' n' m
linked_at m en ep eh ek e k = rw (en, ep, eh, ek, e) k
