-- `cleaning_digits::highest` meets its contract: `length` is the highest so far. Assumes nothing.
use mathlib.Core.Path.{◌≡◌}
use Prim.Native.Nat.{◌+◌, ◌*◌}
use native.Mathlib.Numerals.{add-one}
use Rattle.signed_digits.specs.Naf.{rest}
use Rattle.cleaning_digits.specs.Sums.{raised_at, sum_at}
use Rattle.cleaning_digits.proofs.Length.{highest_none, highest_more}
use borrow.Author.Rules.{rules}
use Rattle.cleaning_digits.proofs.highest.Goals as goal

pub loop-i-init : goal.loop-i-init
loop-i-init c =
    let args = c.args in
    (search rules, search rules, highest_none args.digits.now args.from)

pub loop-i-preserved : goal.loop-i-preserved
unfolding sum_at
loop-i-preserved c =
    let args = c.args in
    let s = args.digits.now in
    let a : c.raised_at.result ≡ raised_at s (c.loop-i.i + 1) = c.raised_at.ensures.value.0 in
    let r : c.rest_of-sum.result ≡ rest 2 (c.loop-i.sum + 2 * c.raised_at.result) = c.rest_of-sum.ensures.0 in
    let high = rw (← c.loop-i.invariant.1) at (highest_more s args.from c.loop-i.i c.loop-i.length c.loop-i.invariant.2 (search rules)) in
    (search rules, rw (r, c.loop-i.invariant.1, a, add-one c.loop-i.i), rw c.top-length.ensures high)
