-- Which digit strings a call takes (docs/RULES.md, "Digit strings"), over the width of the digits: the one definition of refusals 5 and 4, in that order.
use Rattle.rules.specs.declared.Refusal.{Refusal}
use Rattle.std.specs.Prelude.{ℕ, suc, ◌-◌, ◌%◌, ◌^◌, ◌<◌, ◌≤◌, ◌≡◌, Bool, true, false, cond, ◌&&◌, ◌||◌, List, [], ◌∷◌, ltb, leb, eqb, ℤ, nat_abs, length, get_or, Result, Ok, Err}
use Rattle.rules.specs.Limits.{string_digits}
use Rattle.rules.specs.Outcome.{and_then}
use Rattle.rules.specs.declared.Refusal.TheVariants.{NotADigit, StringTooLong}
use Rattle.signed_digits.specs.Strings.{value}
use Rattle.signed_digits.specs.Bytes.{byte_digit, string_of}

-- the largest digit of a width: sizes are below 2 ^ (w - 1)
abbrev pub largest_digit : ℕ → ℕ
largest_digit w = 2 ^ (w - 1) - 1

-- a byte that is 0, or an odd digit of at most this size
unfoldable pub digit_up_to : ℕ → ℕ → Bool
digit_up_to size b = ltb b 256 && (eqb b 0 || (eqb (nat_abs (byte_digit b) % 2) 1 && leb (nat_abs (byte_digit b)) size))

-- the digits of a width
abbrev pub is_digit : ℕ → ℕ → Bool
is_digit w b = digit_up_to (largest_digit w) b

-- the lowest place whose byte does not pass a test; the length if there is none
unfoldable pub first_failing : (ℕ → Bool) → List ℕ → ℕ
first_failing test [] = 0
first_failing test (b ∷ bs) = cond (test b) (suc (first_failing test bs)) 0

abbrev pub first_bad : ℕ → List ℕ → ℕ
first_bad w digits = first_failing (is_digit w) digits

-- 5 where the string is longer than the limit, then 4 at the lowest byte that is no digit
unfoldable pub string_verdict : ℕ → List ℕ → Result Unit Refusal
string_verdict w digits =
    and_then (cond (ltb string_digits (length digits)) (Err StringTooLong) (Ok tt))
    (cond (ltb (first_bad w digits) (length digits)) (Err (NotADigit (first_bad w digits))) (Ok tt))

-- a digit string within the limit, every byte of it a digit
pub record DigitString (w : ℕ) (bytes : List ℕ) : Type 0 where
  pub within : length bytes ≤ string_digits
  pub digits : (i : ℕ) → i < length bytes → is_digit w (get_or bytes i 0) ≡ true

-- the lowest place whose byte is no digit
pub record LowestBad (w : ℕ) (bytes : List ℕ) (p : ℕ) : Type 0 where
  pub within : p < length bytes
  pub bad : is_digit w (get_or bytes p 0) ≡ false
  pub lowest : (i : ℕ) → i < p → is_digit w (get_or bytes i 0) ≡ true

-- the value of a string of digit bytes, whatever their width
abbrev pub string_value : List ℕ → ℤ
string_value digits = value (string_of digits)
