-- How large the value of a digit string is, over the width of its digits. Assumes nothing.
use mathlib.Core.Path.{◌≡◌}
use mathlib.Core.Logic.{◌⊎◌, inl, inr}
use mathlib.Core.List.{List}
use Prim.Native.Nat.{ℕ, ◌+◌, ◌*◌, ◌-◌, ◌^◌, ◌<◌, ◌≤◌}
use native.Mathlib.Decide.{dec_lt}
use native.Mathlib.Nat.{mul-le-mul_right}
use native.Mathlib.Omega.{arith}
use lib.IntN.{nat_abs}
use lib.ListN.{length, get_or, length-map, get_or-map, get_or-eq_default}
use lib.Pow.{pow-add}
use Rattle.signed_digits.specs.Form.{OddDigit}
use Rattle.signed_digits.specs.Bytes.{byte_digit, string_of}
use Rattle.signed_digits.proofs.Width.{UpTo, value_bound_lem}
use Rattle.digit_strings.specs.Admission.{largest_digit, string_value, DigitString}
use Rattle.digit_strings.proofs.Digits.{digit_is}

module _ (w : ℕ) (s : List ℕ) (given : DigitString w s) where
  -- no digit is larger than the largest of the width
  pub string_sizes : UpTo (largest_digit w) (string_of s)
  string_sizes i = rw (get_or-map byte_digit s i 0) (go (dec_lt i (length s)))
    where
      size : (b : ℕ) → (b ≡ 0) ⊎ OddDigit w (byte_digit b) → nat_abs (byte_digit b) ≤ largest_digit w
      size b (inl z) = rw z (omega arith)
      size b (inr o) = omega (arith, o.small)

      go : Dec (i < length s) → nat_abs (byte_digit (get_or s i 0)) ≤ largest_digit w
      go (yes l) = size (get_or s i 0) ((digit_is w (get_or s i 0)).0 (given.digits i l)).1
      go (no l) = rw (get_or-eq_default s 0 {n = i} (omega arith)) (omega arith)

  -- n digits come to at most the largest times 2 ^ n - 1
  pub string_bound : nat_abs (string_value s) + largest_digit w ≤ largest_digit w * 2 ^ length s
  string_bound = rw (length-map s byte_digit) at (value_bound_lem (largest_digit w) (string_of s) string_sizes)

  -- so the value has at most w - 1 bits more than the string has digits
  pub string_bits : nat_abs (string_value s) ≤ 2 ^ (length s + (w - 1))
  string_bits =
      let p : ℕ = 2 ^ length s in
      let e : 2 ^ (length s + (w - 1)) ≡ p * 2 ^ (w - 1) = pow-add 2 (length s) (w - 1) in
      let l : largest_digit w * p ≤ 2 ^ (w - 1) * p = mul-le-mul_right p (omega arith) in
      omega (arith, string_bound)
