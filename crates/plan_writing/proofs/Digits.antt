-- The steps of a digit that is a byte. Assumes nothing.
use mathlib.Core.Path.{◌≡◌, refl}
use mathlib.Core.Logic.{◌≢◌}
use Prim.Native.Nat.{ℕ, zero, suc, ◌+◌, ◌/◌, ◌<◌}
use borrow.Author.Tests.{lt-ltb, le-ltb}
use native.Mathlib.Decide.{dec_lt}
use native.Mathlib.Omega.{arith}
use lib.IntN.{nat_abs}
use Rattle.signed_digits.specs.Bytes.{byte_digit}
use Rattle.methods.specs.PartialPlan.{PartialPlan, double, followed}
use Rattle.methods.specs.OddMultiples.{odd_position}
use Rattle.methods.specs.DigitSteps.{at_digit}
use Rattle.methods.specs.Forecast.{is_plus, is_minus}
use Rattle.plan_writing.specs.Writing.{step_with}

-- a byte that is not 0 takes a step beside the doubling
pub step_more : (b : ℕ) → b ≢ 0 → is_plus (byte_digit b) + is_minus (byte_digit b) ≡ 1
step_more zero n = absurd (n refl)
step_more (suc b) n =
    elim (dec_lt (suc b) 128) [
      | yes l ↦ rw (lt-ltb (suc b) 128 l)
      | no l ↦ rw (le-ltb (suc b) 128 (omega arith))
    ]

-- which that is: its highest bit is the operation
pub step_beside : (digit : ℕ) (b : PartialPlan) → digit < 256 → digit ≢ 0 → followed (double b) (step_with (digit / 128) (double b).latest (odd_position (nat_abs (byte_digit digit)))) ≡ at_digit (byte_digit digit) b
step_beside zero b h n = absurd (n refl)
step_beside (suc digit) b h n =
    elim (dec_lt (suc digit) 128) [
      | yes l ↦ let sign : suc digit / 128 ≡ 0 = omega arith in rw (lt-ltb (suc digit) 128 l, sign)
      | no l ↦ let sign : suc digit / 128 ≡ 1 = omega arith in rw (le-ltb (suc digit) 128 (omega arith), sign)
    ]
