-- Which numbers a call takes (docs/RULES.md, "Numbers"): the one definition of refusals 1, 13 and 2, in that order.
use Rattle.rules.specs.declared.Refusal.{Refusal}
use Rattle.std.specs.Prelude.{◌≡◌, ◌≢◌, Bool, ◌&&◌, cond, List, ℕ, ◌-◌, ◌<◌, ◌≤◌, ltb, eqb, length, get_or, Result, Ok, Err}
use Rattle.rules.specs.Limits.{number_bytes}
use Rattle.rules.specs.Outcome.{and_then}
use Rattle.rules.specs.declared.Refusal.TheVariants.{NumberTooLong, NumberIsZero, HighestByteIsZero}
use Rattle.integers.specs.Positional.{bytes_value, Unpadded}

-- the highest byte is zero; the empty number has none
pub record Padded (number : List ℕ) : Type 0 where
  pub some : 0 < length number
  pub highest_zero : get_or number (length number - 1) 0 ≡ 0

unfoldable pub is_padded : List ℕ → Bool
is_padded number = ltb 0 (length number) && eqb (get_or number (length number - 1) 0) 0

-- 1: the number is longer than the limit; then 13: it is padded
unfoldable pub number_verdict : List ℕ → Result Unit Refusal
number_verdict number = cond (ltb number_bytes (length number)) (Err NumberTooLong) (cond (is_padded number) (Err HighestByteIsZero) (Ok tt))

-- then, in calls that take no zero, 2
unfoldable pub positive_verdict : List ℕ → Result Unit Refusal
positive_verdict number = and_then (number_verdict number) (cond (eqb (bytes_value number) 0) (Err NumberIsZero) (Ok tt))

-- a number that every call takes
pub record Admitted (number : List ℕ) : Type 0 where
  pub short : length number ≤ number_bytes
  pub top : Unpadded number

-- one that is also not zero
pub record Positive (number : List ℕ) : Type 0 where
  pub admitted : Admitted number
  pub nonzero : bytes_value number ≢ 0
