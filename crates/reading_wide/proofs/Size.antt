-- How large the size of a digit string of width w is, and how many bytes it has. Assumes nothing.
use mathlib.Core.Path.{◌≡◌, refl, ap, ◌∙◌}
use mathlib.Core.Logic.{inr}
use mathlib.Core.Bool.{true}
use mathlib.Core.List.{List}
use Prim.Native.Nat.{ℕ, zero, suc, ◌+◌, ◌-◌, ◌*◌, ◌/◌, ◌^◌, ◌<◌, ◌≤◌}
use native.Mathlib.Nat.{pow-suc, lt_of_lt_of_le, mul-le-mul_left}
use native.Mathlib.Omega.{arith}
use borrow.Author.Tests.{lt-ltb}
use lib.IntN.{pos, nat_abs}
use lib.ListN.{length, replicate, length-replicate, get_or-replicate}
use lib.Pow.{pow-add, pow_pos, pow_mono}
use Rattle.rules.specs.Limits.{string_digits, largest_width}
use Rattle.integers.specs.Positional.{bytes_of, bytes_up_to}
use Rattle.integers.proofs.Bits.{power_of_bytes}
use Rattle.integers.proofs.Shortest.{bytes_fit}
use Rattle.signed_digits.specs.Strings.{value}
use Rattle.signed_digits.specs.Bytes.{byte_digit}
use Rattle.digit_strings.specs.Admission.{largest_digit, is_digit, string_value, DigitString}
use Rattle.digit_strings.proofs.Digits.{up_to_is, bound_fits}
use Rattle.digit_strings.proofs.Sizes.{string_bound}
use Rattle.widths.specs.Width.{AllowedWidth}
use Rattle.reading.specs.ReadBack.{size_bytes}

-- n digits come to at most the largest, 2 ^ n - 1 times
pub size_room : (w : ℕ) (digits : List ℕ) → DigitString w digits → nat_abs (string_value digits) ≤ (2 ^ (w - 1) - 1) * (2 ^ length digits - 1)
size_room w digits d =
    let n : ℕ = length digits in
    let t : ℕ = largest_digit w in
    let e : 2 ^ n ≡ 2 ^ n - 1 + 1 = omega (arith, pow_pos n) in
    omega (arith, string_bound w digits d, ap (λ (x : ℕ). t * x) e)

module _ (w : ℕ) (a : AllowedWidth w) where
  -- so the size has at most one byte more than an eighth of the most digits
  pub bytes_room : (digits : List ℕ) → DigitString w digits → length (size_bytes digits) ≤ string_digits / 8 + 1
  unfolding size_bytes
  bytes_room digits d = bytes_fit (nat_abs (string_value digits)) (string_digits / 8 + 1) (rw power_of_bytes (lt_of_lt_of_le below (pow_mono {i = w - 1 + n} {j = 8 * (string_digits / 8 + 1)} (omega (arith, a.most, d.within)))))
    where
      n : ℕ
      n = length digits

      below : nat_abs (string_value digits) < 2 ^ (w - 1 + n)
      below =
          let p : ℕ = 2 ^ (w - 1) in
          let b : (p - 1) * (2 ^ n - 1) ≤ (p - 1) * 2 ^ n = mul-le-mul_left (p - 1) (omega arith) in
          let e : p ≡ p - 1 + 1 = omega (arith, pow_pos (w - 1)) in
          rw (pow-add 2 (w - 1) n) (omega (arith, size_room w digits d, pow_pos n, ap (λ (x : ℕ). x * 2 ^ n) e))

  -- the largest digit, by its byte
  largest_digit_lem : (is_digit w (largest_digit w) ≡ true) × (byte_digit (largest_digit w) ≡ pos (largest_digit w))
  largest_digit_lem =
      let s : w - 1 ≡ suc (w - 2) = omega (arith, a.least) in
      let e : 2 ^ (w - 1) ≡ 2 ^ (w - 2) * 2 = ap (λ (k : ℕ). 2 ^ k) s ∙ pow-suc 2 (w - 2) in
      let f = bound_fits w a.most in
      let l : largest_digit w < 128 = omega arith in
      let b : byte_digit (largest_digit w) ≡ pos (largest_digit w) = rw (lt-ltb (largest_digit w) 128 l) in
      ((up_to_is (largest_digit w) (largest_digit w)).1 (omega arith, inr (rw b (omega (arith, pow_pos (w - 2)), omega arith))), b)

  -- as many of the largest digit come to just that
  pub size_met : (n : ℕ) → n ≤ string_digits
      → DigitString w (replicate n (2 ^ (w - 1) - 1)) × (nat_abs (string_value (replicate n (2 ^ (w - 1) - 1))) ≡ (2 ^ (w - 1) - 1) * (2 ^ n - 1))
  unfolding value
  size_met n h = (
    record {
      within = rw (length-replicate n t) h;
      digits = λ i k. rw (get_or-replicate n i t 0 (rw (length-replicate n t) at k)) largest_digit_lem.0;
    },
    ap nat_abs (sum n),
  )
    where
      t : ℕ
      t = largest_digit w

      sum : (n : ℕ) → string_value (replicate n t) ≡ pos (t * (2 ^ n - 1))
      sum zero = ap pos (omega arith)
      sum (suc n) =
          let e : 2 ^ suc n - 1 ≡ 2 * (2 ^ n - 1) + 1 = omega (arith, pow-suc 2 n, pow_pos n) in
          rw (largest_digit_lem.1, sum n, e) (ap pos (omega arith))

-- and of the largest width, as many as a string may have, to just so many bytes
pub bytes_met : length (size_bytes (replicate string_digits (largest_digit largest_width))) ≡ string_digits / 8 + 1
unfolding size_bytes value bytes_of bytes_up_to
bytes_met = refl
