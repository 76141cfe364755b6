-- `wide_digits::write` meets its contract: the digits below the place are written. Assumes nothing.
use mathlib.Core.Path.{refl}
use Prim.Native.Nat.{◌≤◌, ◌*◌, ◌^◌, ◌%◌, ◌/◌}
use native.Mathlib.Omega.{arith}
use lib.Count.{count_trailing_zeros}
use lib.Pow.{pow_pos, pow_mono}
use Rattle.integers.specs.Positional.{bytes_value}
use Rattle.wide_digits.specs.Internal.{blank_places}
use Rattle.wide_digits.proofs.Scan.{Taken, scanned_none, scanned_blank, digit_taken, scanned_all}
use borrow.Author.Rules.{rules}
use Rattle.wide_digits.proofs.write.Goals.{Else-left-eq0}
use Rattle.wide_digits.proofs.write.Goals as goal

half_fits : (c : Else-left-eq0) → (1 ≤ c.power_of_two-half.result) × (c.power_of_two-half.result ≤ 128)
half_fits c = rw c.power_of_two-half.ensures (pow_pos _, pow_mono {j = 7} (omega arith))

-- the digit past the trailing zeros
taken : (c : Else-left-eq0)
    → Taken c.bits-width.result c.bits-width.ensures.range.0 c.bits-width.ensures.range.1 c.args.sign (bytes_value c.args.bytes.now) c.args.bits c.requires.bytes_bound c.loop-place.place c.loop-place.out
    (count_trailing_zeros 64 c.left_at-left.result) c.power_of_two-half.result (c.left_at-left.result / 2 ^ count_trailing_zeros 64 c.left_at-left.result % (2 * c.power_of_two-half.result))
taken c =
    digit_taken c.bits-width.result c.bits-width.ensures.range.0 c.bits-width.ensures.range.1 c.args.sign (bytes_value c.args.bytes.now) c.args.bits c.requires.bytes_bound c.loop-place.place c.loop-place.carry c.loop-place.length c.loop-place.out c.loop-place.invariant.3 (omega arith) c.left_at-left.result c.power_of_two-half.result c.left_at-left.ensures c.if-left-eq0.false c.power_of_two-half.ensures

pub loop-place-init : goal.loop-place-init
loop-place-init c =
    (search rules, search rules, refl, scanned_none c.bits-width.result c.args.sign (bytes_value c.args.bytes.now) c.args.out.now c.requires.blank)

pub loop-place-preserved-then-left-eq0 : goal.loop-place-preserved-then-left-eq0
loop-place-preserved-then-left-eq0 c =
    (search rules, search rules, search rules, scanned_blank c.bits-width.result c.bits-width.ensures.range.0 c.bits-width.ensures.range.1 c.args.sign (bytes_value c.args.bytes.now) c.loop-place.place c.loop-place.carry c.loop-place.length c.loop-place.out c.loop-place.invariant.3 blank_places (omega arith) (rw c.left_at-left.ensures at c.if-left-eq0.true))

pub digit_byte-requires : goal.digit_byte-requires
digit_byte-requires c = record {
  le_half = half_fits (goal.at.digit_byte-requires c).Else-left-eq0;
  remainder_value = (taken (goal.at.digit_byte-requires c).Else-left-eq0).odd;
  remainder_bound = (taken (goal.at.digit_byte-requires c).Else-left-eq0).below;
}

pub bounds-out-place : goal.bounds-out-place
bounds-out-place c = omega (arith, (taken (goal.at.bounds-out-place c).Else-left-eq0).within)

pub loop-place-preserved : goal.loop-place-preserved
loop-place-preserved c =
    let t = taken (goal.at.loop-place-preserved c).Else-left-eq0 in
    (omega (arith, t.within), t.scanned.small, search rules, rw c.digit_byte.ensures t.scanned)

pub returns-clause-form : goal.returns-clause-form
returns-clause-form c =
    rw (← c.bits-width.ensures.value)
    (scanned_all c.bits-width.result c.bits-width.ensures.range.0 c.bits-width.ensures.range.1 c.args.sign (bytes_value c.args.bytes.now) c.args.bits c.requires.bytes_bound c.loop-place.place c.loop-place.carry c.loop-place.length c.loop-place.out c.loop-place.invariant.3 (search rules) (omega arith))
