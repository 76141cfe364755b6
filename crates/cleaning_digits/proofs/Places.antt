-- The sums of digit and carry give the canonical digits, place by place. Assumes nothing.
use mathlib.Core.Path.{◌≡◌, refl, sym, ◌∙◌}
use mathlib.Core.Logic.{◌≢◌}
use mathlib.Core.List.{List, [], ◌∷◌}
use Prim.Native.Nat.{ℕ, zero, suc, ◌+◌, ◌*◌, ◌-◌, ◌/◌, ◌%◌, ◌<◌, ◌≤◌}
use native.Mathlib.Decide.{dec_lt}
use native.Mathlib.Omega.{arith}
use borrow.Author.Tests.{eq-eqb}
use lib.IntN.{ℤ, pos, negsuc, nat_abs, ◌+ℤ◌, ◌*ℤ◌}
use lib.ListN.{get_or, drop, get_or-map}
use Rattle.signed_digits.specs.Strings.{value, digit_at}
use Rattle.signed_digits.specs.Naf.{low_digit, rest, canonical, canonical_width}
use Rattle.signed_digits.specs.Bytes.{digit_byte, byte_digit, string_of}
use Rattle.signed_digits.proofs.Parts.{positive_part, negative_part, from_parts, zero_parts, size_parts, sum_parts, product_parts, positive_sum, negative_sum, value_parts}
use Rattle.signed_digits.proofs.Exists.{Shape, even, odd, step}
use Rattle.signed_digits.proofs.Steps.{low_digit_2, rest_2, by_four}
use Rattle.signed_digits.proofs.Cons.{digits_taken}
use Rattle.digit_strings.specs.Admission.{DigitString, string_value}
use Rattle.digit_strings.specs.Places.{place_byte}
use Rattle.digit_strings.proofs.Scan.{digit_at_lem}
use Rattle.digit_strings.proofs.Raised.{raised_is}
use Rattle.cleaning_digits.specs.Sums.{raised_at, sum_at, pair_at}

-- ---- one step of width 2

pub rest_is : (n : ℕ) → rest 2 n ≡ (n + n / 2 % 2) / 2
rest_is = by_four _ (λ q. omega (arith, rest_2 q))

byte_is : (n : ℕ) → digit_byte (low_digit 2 n) ≡ (256 + n - 2 * rest 2 n) % 256
byte_is = by_four _ (λ q.
    let d = low_digit_2 q in
    let r = rest_2 q in (
      rw (d.0, r.0) (omega arith),
      rw (d.1, r.1) (omega arith),
      rw (d.2, r.2) (omega arith),
      rw (d.3, r.3) (omega arith),
    ))

-- a larger sum leaves no less
pub rest_grows : (a b : ℕ) → a ≤ b → rest 2 a ≤ rest 2 b
rest_grows a b h = go (dec_lt a b)
  where
    near : (n : ℕ) → (2 * rest 2 n ≤ n + 1) × (n ≤ 2 * rest 2 n + 1)
    near n = omega (arith, rest_is n)

    go : Dec (a < b) → rest 2 a ≤ rest 2 b
    go (yes l) = omega (arith, near a, near b)
    go (no l) = let e : a ≡ b = omega arith in rw e (omega arith)

rest_near : (a r : ℕ) → a ≤ 4 → (r ≤ rest 2 (a + 2 * r)) × (rest 2 (a + 2 * r) ≤ r + 2)
rest_near a r h = omega (arith, rest_is (a + 2 * r))

rest_four : (n : ℕ) → 3 ≤ n → n ≤ 5 → rest 2 n ≡ 2
rest_four = by_four _ (λ q. (
  λ l m. omega (arith, rest_2 q),
  λ l m. omega (arith, rest_2 q),
  λ l m. omega (arith, rest_2 q),
  λ l m. omega (arith, rest_2 q),
))

low_even : (n : ℕ) → n % 2 ≡ 0 → low_digit 2 n ≡ pos 0
unfolding low_digit
low_even n e = rw (eq-eqb (n % 2) 0 e)

low_odd : (n : ℕ) → n % 2 ≢ 0 → low_digit 2 n ≢ pos 0
low_odd n h z = omega (arith, (step 2 (omega arith) n).sum, zero_parts (low_digit 2 n) z)

-- ---- the string, from a place on

sums_drop : (ds : List ℤ) (i : ℕ) → (positive_sum (drop i ds) ≡ positive_part (digit_at ds i) + 2 * positive_sum (drop (suc i) ds)) × (negative_sum (drop i ds) ≡ negative_part (digit_at ds i) + 2 * negative_sum (drop (suc i) ds))
unfolding positive_sum negative_sum
sums_drop [] zero = (refl, refl)
sums_drop [] (suc i) = (refl, refl)
sums_drop (d ∷ ds) zero = (refl, refl)
sums_drop (d ∷ ds) (suc i) = sums_drop ds i

module _ (s : List ℕ) (given : DigitString canonical_width s) where
  digit_raised : (i : ℕ) → (positive_part (byte_digit (get_or s i 0)) + 1 ≡ raised_at s i + negative_part (byte_digit (get_or s i 0))) × (raised_at s i ≤ 2)
  unfolding raised_at
  digit_raised i = raised_is canonical_width (get_or s i 0) (omega arith) (digit_at_lem given i)

  pub raised_small : (i : ℕ) → raised_at s i ≤ 2
  raised_small i = (digit_raised i).1

  digit_parts : (i : ℕ) → positive_part (digit_at (string_of s) i) + 1 ≡ raised_at s i + negative_part (digit_at (string_of s) i)
  digit_parts i = rw (get_or-map byte_digit s i 0) (digit_raised i).0

  -- the carry is from -1 to 1
  pub sum_small : (i : ℕ) → (raised_at s i ≤ sum_at s i) × (sum_at s i ≤ raised_at s i + 2)
  unfolding sum_at
  sum_small zero = omega (arith, raised_small 0)
  sum_small (suc i) = rest_near _ (raised_at s (suc i)) (omega (arith, sum_small i, raised_small i))

  digit : ℕ → ℤ
  digit i = low_digit 2 (pair_at s i)

  -- what is left at a place: the sum there, less 2, and the string above
  left : ℕ → ℤ
  left i = pos (sum_at s i) +ℤ (negsuc 1 +ℤ pos 2 *ℤ value (drop (suc i) (string_of s)))

  left_parts : (i : ℕ) → positive_part (left i) + (2 * negative_sum (drop (suc i) (string_of s)) + 2) ≡ 2 * positive_sum (drop (suc i) (string_of s)) + sum_at s i + negative_part (left i)
  unfolding left
  left_parts i =
      let v : ℤ = value (drop (suc i) (string_of s)) in
      omega (arith, sum_parts (pos (sum_at s i)) (negsuc 1 +ℤ pos 2 *ℤ v), sum_parts (negsuc 1) (pos 2 *ℤ v), product_parts (pos 2) v, value_parts (drop (suc i) (string_of s)))

  left_step : (i : ℕ) → left i ≡ digit i +ℤ pos 2 *ℤ left (suc i)
  unfolding sum_at digit
  left_step i =
      omega (arith, from_parts, (step 2 (omega arith) (pair_at s i)).sum, left_parts i, left_parts (suc i), sums_drop (string_of s) (suc i), digit_parts (suc i), sum_parts (digit i) (pos 2 *ℤ left (suc i)), product_parts (pos 2) (left (suc i)))

  left_shape : (i : ℕ) → Shape 2 (digit i) (nat_abs (left (suc i)))
  unfolding sum_at digit
  left_shape i = go (step 2 (omega arith) (pair_at s i)).shape
    where
      go : Shape 2 (digit i) (rest 2 (pair_at s i)) → Shape 2 (digit i) (nat_abs (left (suc i)))
      go (even z) = even z
      go (odd o (k, e)) = odd o (nat_abs (left (suc i)) / 2, omega (arith, size_parts (left (suc i)), left_parts (suc i)))

  left_whole : left 0 ≡ string_value s
  unfolding sum_at
  left_whole = omega (arith, from_parts, left_parts 0, sums_drop (string_of s) 0, digit_parts 0, value_parts (string_of s))

  canonical_digit : (i : ℕ) → digit_at (canonical (string_value s)) i ≡ digit i
  canonical_digit i = rw (← left_whole) (digits_taken 2 (omega arith) left digit left_step left_shape i)

  -- the byte of each canonical digit
  pub place_byte_lem : (i : ℕ) → (256 + pair_at s i - 2 * sum_at s (suc i)) % 256 ≡ place_byte (canonical (string_value s)) i
  unfolding place_byte digit sum_at
  place_byte_lem i = rw (canonical_digit i) (sym (byte_is (pair_at s i)))

  -- the digit is 0 just where the sum is even
  pub zero_place : (i : ℕ) → sum_at s i % 2 ≡ 0 → digit_at (canonical (string_value s)) i ≡ pos 0
  unfolding digit
  zero_place i e = canonical_digit i ∙ low_even (pair_at s i) (omega arith)

  pub nonzero_place : (i : ℕ) → sum_at s i % 2 ≢ 0 → digit_at (canonical (string_value s)) i ≢ pos 0
  unfolding digit
  nonzero_place i n e = low_odd (pair_at s i) (omega arith) (sym (canonical_digit i) ∙ e)

  -- two zeros stop every carry
  pub stopped : (i : ℕ) → get_or s i 0 ≡ 0 → get_or s (suc i) 0 ≡ 0 → sum_at s (suc i) ≡ 2
  unfolding sum_at raised_at
  stopped i h k = rest_four (pair_at s i) (omega (arith, sum_small i)) (omega (arith, sum_small i))
