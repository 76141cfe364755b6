-- `decimal::part_of` meets its contract: the number of the digits passed. Assumes nothing.
use mathlib.Core.Path.{◌≡◌, refl}
use lib.ListN.{length}
use native.Mathlib.Nat.{pow-suc}
use native.Mathlib.Numerals.{add-one}
use native.Mathlib.Omega.{arith}
use Rattle.decimal.specs.Decimal.{decimal_value}
use Rattle.decimal.proofs.Digits.{each_digit, digit_more, power_room, power_limit}
use Rattle.decimal.proofs.part_of.Goals as goal

pub loop-digit-init : goal.loop-digit-init
unfolding decimal_value
loop-digit-init c = (refl, refl, omega arith)

pub overflow_mul-value : goal.overflow_mul-value
overflow_mul-value c = omega (arith, power_room c.loop-digit.digit-index _ c.loop-digit-test.true c.requires.digits_bound)

pub overflow_sub-digit : goal.overflow_sub-digit
overflow_sub-digit c = (each_digit c.args.digits.now c.requires.digits_value c.loop-digit.digit-index c.loop-digit-test.true).0

pub overflow_add-value : goal.overflow_add-value
overflow_add-value c =
    omega (arith, each_digit c.args.digits.now c.requires.digits_value c.loop-digit.digit-index c.loop-digit-test.true, power_room c.loop-digit.digit-index _ c.loop-digit-test.true c.requires.digits_bound)

pub overflow_mul-power : goal.overflow_mul-power
overflow_mul-power c = omega (arith, power_room c.loop-digit.digit-index _ c.loop-digit-test.true c.requires.digits_bound)

pub loop-digit-preserved : goal.loop-digit-preserved
loop-digit-preserved c =
    let digits = c.args.digits.now in
    let i = c.loop-digit.digit-index in
    let digit = each_digit digits c.requires.digits_value i c.loop-digit-test.true in
    let more = digit_more digits i c.loop-digit-test.true in
    (omega (arith, more), rw (add-one, pow-suc, ← c.loop-digit.invariant.1), omega (arith, digit))

pub returns-clause-power : goal.returns-clause-power
returns-clause-power c =
    let whole : c.loop-digit.digit-index ≡ length c.args.digits.now = omega arith in
    let power = rw whole at c.loop-digit.invariant.1 in
    (power, omega (arith, power_limit (length c.args.digits.now) c.requires.digits_bound))
