-- The levels as place and cascade_place compute them.
use Rattle.std.proofs.Common.{◌≡◌, ℕ, zero, suc, ◌+◌, ◌*◌, ◌/◌, ◌%◌, ◌^◌, ◌<◌, ◌≤◌, min, ◌≢◌, ◌⊎◌, bit_or, sym, refl, ap, ◌∙◌, subst, inl, inr, ⊎_elim, arith}
use Rattle.std.specs.Int.{w32, trailing_zeros, bit_at}
use Rattle.std.specs.Int.Bits.{bit_xor, xor_self, xor_add_and}
use Rattle.std.specs.Int.Count.{trailing_of_zero}
use Rattle.std.proofs.Math.Nat.{pow-suc, pow-le-pow_right, div-lt_iff_lt-mul, div-eq_of_lt}
use Rattle.std.proofs.lemmas.Nat.{pow-add, pow_pos, pow_below, and_le_l, and_le_r, xor_shr, or_lt, le_or_l, mod-pow-add}
use Rattle.std.proofs.lemmas.Nat.Bits.{bit_at-trailing_zeros}
use Rattle.std.proofs.lemmas.Bool.{cases_eq, cases_lt}
use Rattle.std.proofs.lemmas.Bool.Decides.{nat_tests}
use Rattle.timer_wheel.specs.Place.{digit, level, Highest, HighestExamples, cascade_level}

-- two numbers with no bit between them are equal
xor_none : (a b : ℕ) → bit_xor a b ≡ 0 → a ≡ b
xor_none a b e = omega (arith, xor_add_and a b, and_le_l a b, and_le_r a b)

pow_cancels : (i j : ℕ) → 2 ^ i < 2 ^ j → i < j
pow_cancels i j l = ⊎_elim (λ (h : i < j). h) (λ (h : j ≤ i). absurd (omega (arith, pow-le-pow_right {n = 2} (omega arith) h))) (cases_lt i j)

-- r is the highest bit in which two ticks differ, or 0
module _ (a b r : ℕ) (low : 2 ^ r ≤ bit_or (bit_xor a b) 1) (high : bit_or (bit_xor a b) 1 < 2 * 2 ^ r) where
  -- the highest bit that differs lies below k
  below : (k : ℕ) → 0 < k → a / 2 ^ k ≡ b / 2 ^ k → r < k
  below k z e =
      let x : bit_xor a b / 2 ^ k ≡ 0 = xor_shr a b k ∙ ap (λ n. bit_xor n (b / 2 ^ k)) e ∙ xor_self (b / 2 ^ k) in
      let l : bit_xor a b < 1 * 2 ^ k = (div-lt_iff_lt-mul {k = 2 ^ k} {x = bit_xor a b} {y = 1} (pow_pos k)).0 (omega arith) in
      let m : bit_xor a b < 2 ^ k = omega arith in
      let o : 1 < 2 ^ k = pow_below 0 k z in
      pow_cancels r k (omega (arith, or_lt k (bit_xor a b) 1 m o))

  -- or it does not
  from : (k : ℕ) → a / 2 ^ k ≢ b / 2 ^ k → k ≤ r
  from k ne =
      let l : 2 ^ k ≤ bit_xor a b =
      ⊎_elim
      (λ (h : bit_xor a b < 2 ^ k). absurd (ne (xor_none (a / 2 ^ k) (b / 2 ^ k) (sym (xor_shr a b k) ∙ div-eq_of_lt h))))
      (λ (h : 2 ^ k ≤ bit_xor a b). h)
      (cases_lt (bit_xor a b) (2 ^ k)) in
      let c : k < suc r = pow_cancels k (suc r) (omega (arith, le_or_l (bit_xor a b) 1, pow-suc 2 r)) in
      omega arith

  side : (k : ℕ) → 0 < k → ((a / 2 ^ k ≡ b / 2 ^ k) × (r < k)) ⊎ ((a / 2 ^ k ≢ b / 2 ^ k) × (k ≤ r))
  side k z = ⊎_elim (λ (e : a / 2 ^ k ≡ b / 2 ^ k). inl (e, below k z e)) (λ (ne : a / 2 ^ k ≢ b / 2 ^ k). inr (ne, from k ne)) (cases_eq (a / 2 ^ k) (b / 2 ^ k))

  pub log_level : min (r / 6) 3 ≡ level a b
  log_level =
      let x = side 6 (omega arith) in
      let y = side 12 (omega arith) in
      let z = side 18 (omega arith) in
      grind (arith, nat_tests)

-- a digit is six bits
pub six_bits : (k : ℕ) → 2 ^ (6 * k) ≡ 64 ^ k
six_bits zero = refl
six_bits (suc k) =
    let n : 6 * suc k ≡ 6 * k + 6 = omega arith in
    ap (λ i. 2 ^ i) n ∙ pow-add 2 (6 * k) 6 ∙ ap (λ p. p * 64) (six_bits k) ∙ sym (pow-suc 64 k)

-- a tick of a wheel has no digits above the four
no_digit : (j n : ℕ) → 4 ≤ j → n ≤ 16777215 → digit j n ≡ 0
no_digit j n l h =
    let p : 64 ^ 4 ≤ 64 ^ j = pow-le-pow_right {n = 64} (omega arith) l in
    let z : n / 64 ^ j ≡ 0 = div-eq_of_lt (omega arith) in
    ap (λ q. q % 64) z

-- above the level of a deadline every digit is equal
above : (j n d : ℕ) → j < 4 → level n d < j → digit j n ≡ digit j d
above zero n d l h = absurd (omega arith)
above (suc zero) n d l h = grind (arith, nat_tests)
above (suc (suc zero)) n d l h = grind (arith, nat_tests)
above (suc (suc (suc zero))) n d l h = grind (arith, nat_tests)
above (suc (suc (suc (suc j)))) n d l h = absurd (omega arith)

-- so it is that of the highest digit that differs
pub level_highest : (k n d : ℕ) → k ≡ level n d → n ≤ 16777215 → d ≤ 16777215 → Highest k n d
level_highest k n d e l h =
    record {
      above = λ j o. ⊎_elim (λ (b : j < 4). above j n d b (omega arith)) (λ (b : 4 ≤ j). no_digit j n b l ∙ sym (no_digit j d b h)) (cases_lt j 4);
      here = λ ne. subst (λ i. digit i n ≢ digit i d) (sym e) (grind (arith, nat_tests));
      nowhere = λ o. grind (arith, nat_tests);
    }

pub highest_examples : HighestExamples
highest_examples =
    (level_highest 1 0 100 refl (omega arith) (omega arith), level_highest 0 64 100 refl (omega arith) (omega arith), level_highest 2 4095 4096 refl (omega arith) (omega arith), level_highest 0 100 100 refl (omega arith) (omega arith))

-- t is the lowest bit of n that is set
module _ (n t : ℕ) (one : bit_at n t ≡ 1) (zeros : (i : ℕ) → i < t → bit_at n i ≡ 0) where
  clear : (k : ℕ) → k ≤ t → n % 2 ^ k ≡ 0
  clear zero l = omega arith
  clear (suc k) l =
      let e : n % 2 ^ (1 + k) ≡ (n / 2 ^ k % 2) * 2 ^ k + n % 2 ^ k = mod-pow-add n 1 k in
      let z : n / 2 ^ k % 2 ≡ 0 = zeros k (omega arith) in
      ap (λ i. n % 2 ^ i) (omega arith) ∙ e ∙ ap (λ b. b * 2 ^ k + n % 2 ^ k) z ∙ omega (arith, clear k (omega arith))

  set : (k : ℕ) → t < k → 0 < n % 2 ^ k
  set zero l = absurd (omega arith)
  set (suc k) l =
      let e : n % 2 ^ (1 + k) ≡ (n / 2 ^ k % 2) * 2 ^ k + n % 2 ^ k = mod-pow-add n 1 k in
      let s : n % 2 ^ suc k ≡ (n / 2 ^ k % 2) * 2 ^ k + n % 2 ^ k = ap (λ i. n % 2 ^ i) (omega arith) ∙ e in
      ⊎_elim
      (λ (h : t < k). omega (arith, set k h))
      (λ (h : k ≤ t).
      let i : k ≡ t = omega arith in
      let o : n / 2 ^ k % 2 ≡ 1 = ap (λ j. bit_at n j) i ∙ one in
      let q : n % 2 ^ suc k ≡ 1 * 2 ^ k + n % 2 ^ k = s ∙ ap (λ b. b * 2 ^ k + n % 2 ^ k) o in
      omega (arith, pow_pos k))
      (cases_lt t k)

  sides : (k : ℕ) → ((t < k) × (0 < n % 2 ^ k)) ⊎ ((k ≤ t) × (n % 2 ^ k ≡ 0))
  sides k = ⊎_elim (λ (l : t < k). inl (l, set k l)) (λ (l : k ≤ t). inr (l, clear k l)) (cases_lt t k)

  zeros_level : min (t / 6) 3 ≡ cascade_level n
  zeros_level =
      let x = sides 6 in
      let y = sides 12 in
      let z = sides 18 in
      grind (arith, nat_tests)

pub trailing_level : (n : ℕ) → n < 2 ^ 32 → min (trailing_zeros w32 n / 6) 3 ≡ cascade_level n
trailing_level n l =
    ⊎_elim
    (λ (e : n ≡ 0). ap (λ i. min (trailing_zeros w32 i / 6) 3) e ∙ ap (λ z. min (z / 6) 3) (trailing_of_zero 32) ∙ sym (ap cascade_level e))
    (λ (ne : n ≢ 0). let b = bit_at-trailing_zeros w32 n (omega arith) l in zeros_level n (trailing_zeros w32 n) b.1 b.2)
    (cases_eq n 0)
