-- `reading_digits::byte_of` meets its contract. Assumes nothing.
use mathlib.Core.Path.{◌≡◌}
use borrow.Author.Tests.{eq-eqb, ne_eqb}
use Prim.Native.Nat.{◌-◌, ◌*◌, ◌%◌, ◌^◌, ◌≤◌}
use native.Mathlib.Omega.{arith}
use lib.ListN.{length}
use lib.Pow.{pow_pos, pow_mono}
use Rattle.reading_digits.specs.Sums.{raised_zeros, by_sign}
use Rattle.reading_digits.proofs.Raised.{zeros_made, zeros_byte, raised_few}
use Rattle.reading_digits.proofs.byte_of.Goals.{After-raised_sum-sum}
use Rattle.reading_digits.proofs.byte_of.Goals as goal

-- the power of two fits
power : (c : After-raised_sum-sum) → (1 ≤ 2 ^ (length c.args.digits.now)) × (2 ^ (length c.args.digits.now) ≤ 256)
power c = (pow_pos (length c.args.digits.now), pow_mono {i = (length c.args.digits.now)} {j = 8} c.requires.digits_len_bound)

-- the zeros, and the sum, which is at most twice as much
zeros : (c : After-raised_sum-sum)
    → (c.args.largest * (1 * 2 ^ (length c.args.digits.now) % 2 ^ 64 - 1) ≡ raised_zeros c.args.largest (length c.args.digits.now))
    × (raised_zeros c.args.largest (length c.args.digits.now) ≤ 127 * 255)
    × (c.raised_sum-sum.result ≤ 2 * raised_zeros c.args.largest (length c.args.digits.now))
zeros c =
    let args = c.args in (
      zeros_made args.largest (length args.digits.now) c.requires.digits_len_bound,
      zeros_byte args.largest (length args.digits.now) c.requires.largest_lt_carry_zero c.requires.digits_len_bound,
      rw c.raised_sum-sum.ensures (raised_few args.largest args.digits.now 0 (length args.digits.now) c.requires.sizes_up_to),
    )

pub overflow_add-result-then-sign-eq0 : goal.overflow_add-result-then-sign-eq0
overflow_add-result-then-sign-eq0 c = omega (arith, zeros (goal.at.overflow_add-result-then-sign-eq0 c).After-raised_sum-sum)

pub overflow_sub-result-else-sign-eq0 : goal.overflow_sub-result-else-sign-eq0
overflow_sub-result-else-sign-eq0 c = omega (arith, zeros (goal.at.overflow_sub-result-else-sign-eq0 c).After-raised_sum-sum)

pub returns-then-sign-eq0 : goal.returns-then-sign-eq0
unfolding by_sign
returns-then-sign-eq0 c =
    let h = zeros (goal.at.returns-then-sign-eq0 c).After-raised_sum-sum in
    record {
      small = omega arith;
      value = rw (eq-eqb c.args.sign 0 c.if-sign-eq0.true) (omega (arith, c.raised_sum-sum.ensures));
    }

pub returns-else-sign-eq0 : goal.returns-else-sign-eq0
unfolding by_sign
returns-else-sign-eq0 c =
    let h = zeros (goal.at.returns-else-sign-eq0 c).After-raised_sum-sum in
    record {
      small = omega arith;
      value = rw (ne_eqb c.args.sign 0 c.if-sign-eq0.false) (omega (arith, c.raised_sum-sum.ensures));
    }
