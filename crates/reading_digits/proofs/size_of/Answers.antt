-- `reading_digits::size_of` meets its contract: after k turns the k low bytes stand. Assumes nothing.
use mathlib.Core.Path.{◌≡◌, refl, ◌∙◌}
use Prim.Native.Nat.{ℕ, ◌-◌, ◌+◌, ◌*◌, ◌/◌, ◌%◌}
use native.Mathlib.Omega.{arith}
use lib.ListN.{length, set, length-set}
use Rattle.rules.specs.Limits.{string_digits}
use Rattle.integers.specs.Signed.{sign_of}
use Rattle.digit_strings.specs.Admission.{largest_digit, string_value}
use Rattle.reading_digits.specs.Sums.{SizesUpTo}
use Rattle.reading_digits.proofs.Raised.{sizes_up_to, none_above, part_sizes, part_byte}
use Rattle.reading_digits.proofs.Size.{Subtracted, subtracted_none, subtracted_step, carry_left, subtracted_all}
use borrow.Author.Rules.{rules}
use Rattle.reading_digits.proofs.size_of.Goals.{After-byte_of-byte-2, After-from-largest}
use Rattle.reading_digits.proofs.size_of.Goals as goal

sizes : (c : After-from-largest) → SizesUpTo c.from-largest.result c.args.digits.now
sizes c =
    rw (c.from-largest.ensures ∙ c.largest_digit.ensures.value) (sizes_up_to c.args.width c.largest_digit.ensures.range.1 c.args.digits.now c.requires.digit_string)

-- the digits above the last whole byte, and the carry
last : (c : After-byte_of-byte-2)
    → let whole : ℕ = (length c.args.digits.now) / 8 in
    Subtracted (largest_digit c.args.width) c.args.digits.now (sign_of (string_value c.args.digits.now))
    (set c.loop-k.size whole (c.byte_of-byte-2.result % 256)) (length c.args.digits.now) (whole + 1) (c.byte_of-byte-2.result / 256)
last c =
    let args = c.args in
    let whole : ℕ = (length args.digits.now) / 8 in
    let k : c.loop-k.k ≡ whole = omega arith in
    let e : 8 * whole + ((length args.digits.now) - 8 * whole) ≡ (length args.digits.now) = omega arith in
    let value = part_byte c.from-largest.result args.digits.now (8 * whole) (length args.digits.now) (omega arith) (omega arith) args.sign c.loop-k.carry c.byte_of-byte-2.result c.byte_of-byte-2.ensures.value in
    let all = subtracted_step c.from-largest.result args.digits.now args.sign c.loop-k.size whole c.loop-k.carry (rw k at c.loop-k.invariant.2) ((length args.digits.now) - 8 * whole) c.byte_of-byte-2.result (search rules) (search rules) value in
    rw (c.requires.sign_value, e, (c.from-largest.ensures ∙ c.largest_digit.ensures.value)) at all

pub loop-k-init : goal.loop-k-init
loop-k-init c =
    let args = c.args in
    (search rules, refl, subtracted_none c.from-largest.result args.digits.now args.sign (string_digits / 8 + 8))

pub byte_of-byte-requires-clause-sizes_up_to : goal.byte_of-byte-requires-clause-sizes_up_to
byte_of-byte-requires-clause-sizes_up_to c =
    part_sizes c.from-largest.result c.args.digits.now (8 * c.loop-k.k) (8 * c.loop-k.k + 8) (omega arith) (omega arith) (sizes (goal.at.byte_of-byte-requires-clause-sizes_up_to c).After-from-largest)

pub loop-k-preserved : goal.loop-k-preserved
loop-k-preserved c =
    let args = c.args in
    let k : ℕ = c.loop-k.k in
    let e : 8 * (k + 1) ≡ 8 * k + 8 = omega arith in
    let eight : 8 * k + 8 - 8 * k ≡ 8 = omega arith in
    let value = part_byte c.from-largest.result args.digits.now (8 * k) (8 * k + 8) (omega arith) (omega arith) args.sign c.loop-k.carry c.byte_of-byte.result c.byte_of-byte.ensures.value in (
      omega (arith, c.byte_of-byte.ensures.small),
      search rules,
      rw e (subtracted_step c.from-largest.result args.digits.now args.sign c.loop-k.size k c.loop-k.carry c.loop-k.invariant.2 8 c.byte_of-byte.result (omega arith) (search rules) (rw eight at value)),
    )

pub byte_of-byte-requires-2-clause-sizes_up_to : goal.byte_of-byte-requires-2-clause-sizes_up_to
byte_of-byte-requires-2-clause-sizes_up_to c =
    part_sizes c.from-largest.result c.args.digits.now (8 * ((length c.args.digits.now) / 8)) (length c.args.digits.now) (omega arith) (omega arith) (sizes (goal.at.byte_of-byte-requires-2-clause-sizes_up_to c).After-from-largest)

pub overflow_sub-size : goal.overflow_sub-size
overflow_sub-size c =
    omega (arith, carry_left c.args.width c.largest_digit.ensures.range.1 c.args.digits.now (length c.args.digits.now) c.requires.digit_string (omega arith) (none_above c.args.digits.now) _ _ _ (last (goal.at.overflow_sub-size c).After-byte_of-byte-2))

pub returns : goal.returns
returns c =
    subtracted_all c.args.width c.largest_digit.ensures.range.1 c.args.digits.now (length c.args.digits.now) c.requires.digit_string (omega arith) (none_above c.args.digits.now) _ _ _ (last (goal.at.returns c).After-byte_of-byte-2) (simp length-set (search rules))
