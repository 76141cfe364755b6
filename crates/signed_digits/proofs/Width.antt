-- One digit of width w and what it leaves, for every w from 2 on; and how long the form and how large the value of a string can be. Assumes nothing.
use mathlib.Core.Path.{◌≡◌, refl, ◌∙◌, ap}
use mathlib.Core.Logic.{◌≢◌}
use mathlib.Core.List.{List, [], ◌∷◌}
use Prim.Native.Nat.{ℕ, zero, suc, ◌+◌, ◌*◌, ◌-◌, ◌<◌, ◌≤◌, ◌^◌, ◌%◌, ◌/◌}
use native.Mathlib.Decide.{dec_lt}
use native.Mathlib.Omega.{arith}
use native.Mathlib.Nat.{pow-suc, mul-le-mul_left, lt_of_mul-lt-mul_left, pow-le-pow_right}
use borrow.Author.Tests.{eq-eqb}
use lib.Pow.{pow-add, pow_pos}
use lib.ListN.{length, length-map}
use lib.IntN.{ℤ, pos, negsuc, neg_ℤ, nat_abs}
use Rattle.signed_digits.specs.Strings.{value, digit_at}
use Rattle.signed_digits.specs.Naf.{low_digit, rest, digits_of, naf}
use Rattle.signed_digits.proofs.Parts.{positive_part, negative_part, zero_parts, size_parts, positive_sum, negative_sum, value_parts}
use Rattle.signed_digits.proofs.Exists.{even_power, Shape, even, odd, step}
use Rattle.signed_digits.proofs.Steps.{naf_zero, naf_step}

-- ---- one digit

module _ (w : ℕ) (wide : 2 ≤ w) where
  -- it is 0 just where n is even
  pub low_even : (n : ℕ) → n % 2 ≡ 0 → low_digit w n ≡ pos 0
  unfolding low_digit
  low_even n e = rw (eq-eqb (n % 2) 0 e)

  pub low_odd : (n : ℕ) → n % 2 ≢ 0 → low_digit w n ≢ pos 0
  low_odd n h z = omega (arith, (step w wide n).sum, zero_parts (low_digit w n) z)

  -- an even number leaves its half
  pub rest_even : (n : ℕ) → n % 2 ≡ 0 → rest w n ≡ n / 2
  rest_even n e = omega (arith, (step w wide n).sum, zero_parts (low_digit w n) (low_even n e))

  pub low_small : (n : ℕ) → nat_abs (low_digit w n) < 2 ^ (w - 1)
  low_small n = go (step w wide n).shape
    where
      go : Shape w (low_digit w n) (rest w n) → nat_abs (low_digit w n) < 2 ^ (w - 1)
      go (even z) = rw z (pow_pos (w - 1))
      go (odd o m) = o.small

  -- a digit below zero is no larger than the number
  pub low_minus : (n : ℕ) → negative_part (low_digit w n) ≤ n
  low_minus zero = omega (arith, zero_parts (low_digit w 0) (low_even 0 refl))
  low_minus (suc n) = go (low_digit w (suc n)) (step w wide (suc n)).sum ((step w wide (suc n)).less (omega arith))
    where
      go : (d : ℤ) → positive_part d + 2 * rest w (suc n) ≡ suc n + negative_part d → rest w (suc n) < suc n → negative_part d ≤ suc n
      go (pos k) e l = omega arith
      go (negsuc k) e l = omega arith

  -- a power of two from 2 ^ w on is a multiple of 2 ^ w
  power_whole : (n : ℕ) → w ≤ n → 2 ^ n ≡ 2 * (2 ^ (w - 1) * 2 ^ (n - w))
  power_whole n l =
      let s : n ≡ w + (n - w) = omega arith in
      let p : 2 ^ n ≡ 2 ^ w * 2 ^ (n - w) = ap (λ (x : ℕ). 2 ^ x) s ∙ pow-add 2 w (n - w) in
      omega (arith, p, ap (λ (x : ℕ). x * 2 ^ (n - w)) (even_power w (omega arith)))

  -- an odd number less than 2 ^ (w - 1) below such a power has its lowest digit subtracted from no less than it
  pub low_near : (n e : ℕ) → w ≤ n → e % 2 ≢ 0 → 2 ^ n < e + 2 ^ (w - 1) → 2 ^ n ≤ e + negative_part (low_digit w e)
  low_near n e l o near = go (step w wide e).shape
    where
      half : ℕ
      half = 2 ^ (w - 1)

      d : ℤ
      d = low_digit w e

      go : Shape w d (rest w e) → 2 ^ n ≤ e + negative_part d
      go (even z) = absurd (low_odd e o z)
      go (odd p (k, f)) =
          let t : ℕ = 2 ^ (n - w) in
          let b : half * t < half * (k + 1) = omega (arith, power_whole n l, (step w wide e).sum, p.small, size_parts d) in
          let c : t ≤ k = omega (arith, lt_of_mul-lt-mul_left half b) in
          omega (arith, power_whole n l, (step w wide e).sum, mul-le-mul_left half c)

  -- ---- how long the form is

  -- what is left of e is at most half of a power of two that e is at most
  rest_bound : (n e : ℕ) → e ≤ 2 ^ n → 2 * rest w e ≤ 2 ^ n
  rest_bound n e l = go (step w wide e).shape (dec_lt n w)
    where
      half : ℕ
      half = 2 ^ (w - 1)

      d : ℤ
      d = low_digit w e

      go : Shape w d (rest w e) → Dec (n < w) → 2 * rest w e ≤ 2 ^ n
      go (even z) _ = omega (arith, (step w wide e).sum, zero_parts d z)
      go (odd o (k, f)) (yes m) =
          let p : 2 ^ n ≤ half = pow-le-pow_right (omega arith) (omega arith) in
          let b : half * (2 * k) < half * 2 = omega (arith, (step w wide e).sum, o.small, size_parts d) in
          let z : k ≡ 0 = omega (arith, lt_of_mul-lt-mul_left half b) in
          omega (arith, f, ap (λ (x : ℕ). half * x) z)
      go (odd o (k, f)) (no m) =
          let t : ℕ = 2 ^ (n - w) in
          let q : 2 ^ n ≡ 2 * (half * t) = power_whole n (omega arith) in
          let b : half * (2 * k) < half * (2 * t + 1) = omega (arith, (step w wide e).sum, o.small, size_parts d) in
          let c : k ≤ t = omega (arith, lt_of_mul-lt-mul_left half b) in
          omega (arith, mul-le-mul_left half c)

  length_natural : (n e : ℕ) → e ≤ 2 ^ n → length (naf w (pos e)) ≤ n + 1
  length_natural zero zero l = rw (naf_zero w) (omega arith)
  length_natural (suc n) zero l = rw (naf_zero w) (omega arith)
  length_natural zero (suc e) l =
      let r : rest w (suc e) ≡ 0 = omega (arith, rest_bound 0 (suc e) l) in
      rw (naf_step w (suc e) wide (omega arith), r, naf_zero w) (omega arith)
  length_natural (suc n) (suc e) l =
      rw (naf_step w (suc e) wide (omega arith)) (omega (arith, length_natural n (rest w (suc e)) (omega (arith, rest_bound (suc n) (suc e) l, pow-suc 2 n))))

  -- the opposite has the opposite digits
  length_opposite : (n : ℕ) → length (naf w (negsuc n)) ≡ length (naf w (pos (suc n)))
  unfolding naf
  length_opposite n = length-map (digits_of w (suc n) (suc n)) neg_ℤ

  -- an integer of size at most 2 ^ n has at most n + 1 digits
  pub form_length : (n : ℕ) (z : ℤ) → nat_abs z ≤ 2 ^ n → length (naf w z) ≤ n + 1
  form_length n (pos e) l = length_natural n e l
  form_length n (negsuc e) l = rw (length_opposite e) (length_natural n (suc e) l)

-- ---- how large a value is

-- every digit has at most this size
abbrev pub UpTo : ℕ → List ℤ → Type 0
UpTo t ds = (i : ℕ) → nat_abs (digit_at ds i) ≤ t

sums_bound : (t : ℕ) (ds : List ℤ) → UpTo t ds → positive_sum ds + negative_sum ds + t ≤ t * 2 ^ length ds
unfolding positive_sum negative_sum
sums_bound t [] small = omega arith
sums_bound t (d ∷ ds) small =
    omega (arith, small 0, size_parts d, sums_bound t ds (λ i. small (suc i)), ap (λ (x : ℕ). t * x) (pow-suc 2 (length ds)))

size_at_most : (z : ℤ) (a b : ℕ) → positive_part z + b ≡ a + negative_part z → nat_abs z ≤ a + b
size_at_most (pos n) a b e = omega arith
size_at_most (negsuc n) a b e = omega arith

-- n digits of sizes up to t come to at most t (2 ^ n - 1)
pub value_bound_lem : (t : ℕ) (ds : List ℤ) → UpTo t ds → nat_abs (value ds) + t ≤ t * 2 ^ length ds
value_bound_lem t ds small = omega (arith, sums_bound t ds small, size_at_most (value ds) (positive_sum ds) (negative_sum ds) (value_parts ds))
