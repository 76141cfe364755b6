-- The digits of a width go into bytes and come back. Assumes nothing.
use mathlib.Core.Path.{◌≡◌, refl, ap, ◌∙◌}
use mathlib.Core.Logic.{◌≢◌, inr}
use mathlib.Core.Bool.{true}
use mathlib.Core.List.{List, [], ◌∷◌}
use Prim.Native.Nat.{ℕ, suc, ◌-◌, ◌<◌, ◌≤◌}
use borrow.Author.Tests.{lt-ltb, le-ltb}
use native.Mathlib.Omega.{arith}
use lib.IntN.{ℤ, pos, negsuc, nat_abs, ℤ_discrete}
use lib.ListN.{length, get_or-map}
use Rattle.rules.specs.Limits.{string_digits, largest_width}
use Rattle.signed_digits.specs.Strings.{value, digit_at}
use Rattle.signed_digits.specs.Form.{OddDigit}
use Rattle.signed_digits.specs.Naf.{naf}
use Rattle.signed_digits.specs.Bytes.{digit_byte, digit_bytes, byte_digit, string_of}
use Rattle.signed_digits.proofs.Exists.{naf_form, naf_value}
use Rattle.digit_strings.specs.Admission.{is_digit, string_value, DigitString}
use Rattle.digit_strings.specs.Places.{place_byte}
use Rattle.digit_strings.proofs.Digits.{digit_is, zero_digit, bound_fits}

pub back : (d : ℤ) → nat_abs d ≤ 127 → (digit_byte d < 256) × (byte_digit (digit_byte d) ≡ d)
back (pos n) h = (omega arith, rw (lt-ltb n 128 (omega arith)))
back (negsuc n) h = let e : 255 - (255 - n) ≡ n = omega arith in (omega arith, rw (le-ltb (255 - n) 128 (omega arith), e))

module _ (w : ℕ) (h : w ≤ largest_width) where
  -- 0, or an odd digit of the width
  abbrev Digit : ℤ → Type 0
  Digit d = d ≢ pos 0 → OddDigit w d

  digit_byte_lem : (d : ℤ) → Digit d → (byte_digit (digit_byte d) ≡ d) × (is_digit w (digit_byte d) ≡ true)
  digit_byte_lem d o = go (ℤ_discrete d (pos 0))
    where
      go : Dec (d ≡ pos 0) → (byte_digit (digit_byte d) ≡ d) × (is_digit w (digit_byte d) ≡ true)
      go (yes z) = rw z (refl, zero_digit w)
      go (no n) =
          let b = back d (omega (arith, o n, bound_fits w h)) in
          (b.1, (digit_is w (digit_byte d)).1 (b.0, inr (rw b.1 (o n))))

  -- a string of such digits, in bytes: it comes back, and is a digit string
  pub string_bytes : (ds : List ℤ) → ((i : ℕ) → Digit (digit_at ds i)) → string_of (digit_bytes ds) ≡ ds
  string_bytes [] digit = refl
  string_bytes (d ∷ ds) digit = rw ((digit_byte_lem d (digit 0)).0, string_bytes ds (λ i. digit (suc i)))

  pub digits_bytes : (ds : List ℤ) → ((i : ℕ) → Digit (digit_at ds i)) → length (digit_bytes ds) ≤ string_digits → DigitString w (digit_bytes ds)
  digits_bytes ds digit l = record { within = l; digits = λ i _. rw (get_or-map digit_byte ds i (pos 0)) (digit_byte_lem (digit_at ds i) (digit i)).1 }

  -- the non-adjacent form of an integer, in bytes: a digit string, and the integer is its value
  module _ (z : ℤ) (least : 2 ≤ w) where
    digit : (i : ℕ) → Digit (digit_at (naf w z) i)
    digit = (naf_form w z least).digit

    pub naf_digits : length (digit_bytes (naf w z)) ≤ string_digits → DigitString w (digit_bytes (naf w z))
    naf_digits = digits_bytes (naf w z) digit

    pub naf_back : string_of (digit_bytes (naf w z)) ≡ naf w z
    naf_back = string_bytes (naf w z) digit

    -- digit by digit
    pub place_back : (i : ℕ) → byte_digit (place_byte (naf w z) i) ≡ digit_at (naf w z) i
    unfolding place_byte
    place_back i = (digit_byte_lem (digit_at (naf w z) i) (digit i)).0

    pub naf_bytes_value : string_value (digit_bytes (naf w z)) ≡ z
    naf_bytes_value = ap value naf_back ∙ naf_value w z least
