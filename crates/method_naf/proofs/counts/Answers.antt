-- `method_naf::counts` meets its contract. Assumes nothing.
use mathlib.Core.Path.{◌≡◌, sym}
use mathlib.Core.List.{List}
use Prim.Native.Nat.{ℕ, ◌-◌, ◌<◌}
use native.Mathlib.Omega.{arith}
use lib.IntN.{ℤ, pos}
use lib.ListN.{length}
use Rattle.integers.specs.Positional.{bytes_value}
use Rattle.signed_digits.specs.Naf.{canonical}
use Rattle.signed_digits.proofs.Left.{some_digits}
use Rattle.recoding_digits.proofs.Triple.{digit_count}
use Rattle.methods.proofs.WideNaf.{wide_plus}
use Rattle.methods.proofs.NonAdjacentForm.{naf_counts}
use Rattle.method_naf.proofs.Signs.{plus_digits_lem, minus_digits_lem}
use Rattle.method_naf.proofs.counts.Goals as goal

pub overflow_sub-result : goal.overflow_sub-result
overflow_sub-result c =
    let e : ℕ = bytes_value c.args.number.now in
    let digits = rw c.number.ensures.value at c.tally_of-digits.ensures in
    let nonzero = c.number.ensures.positive.nonzero in
    let above : 0 < e = omega (arith, nonzero) in
    omega (arith, digits.2, digit_count e above, some_digits 2 (omega arith) e above)

pub overflow_sub-result-2 : goal.overflow_sub-result-2
overflow_sub-result-2 c =
    let e : ℕ = bytes_value c.args.number.now in
    let digits = rw c.number.ensures.value at c.tally_of-digits.ensures in
    omega (arith, digits.0, plus_digits_lem e, wide_plus e 2 (omega (arith, c.number.ensures.positive.nonzero)) (omega arith))

pub returns : goal.returns
returns c =
    let e : ℕ = bytes_value c.args.number.now in
    let ds : List ℤ = canonical (pos e) in
    let digits = rw c.number.ensures.value at c.tally_of-digits.ensures in
    let nonzero = c.number.ensures.positive.nonzero in
    let above : 0 < e = omega (arith, nonzero) in
    let below : c.tally_of-digits.result.length - 2 ≡ length ds - 1 = omega (arith, digits.2, digit_count e above) in
    rw (below, digits.0, digits.1, ← plus_digits_lem e, ← minus_digits_lem e) (sym (naf_counts e above))
