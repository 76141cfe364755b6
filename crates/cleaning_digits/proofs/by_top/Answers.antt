-- `cleaning_digits::by_top` meets its contract: the sum at i lies from `low` to `high`. Assumes nothing.
use mathlib.Core.Path.{◌≡◌}
use Prim.Native.Nat.{◌+◌, ◌*◌}
use native.Mathlib.Numerals.{add-one}
use native.Mathlib.Omega.{arith}
use Rattle.signed_digits.specs.Naf.{rest}
use Rattle.cleaning_digits.specs.Sums.{raised_at, sum_at}
use Rattle.cleaning_digits.proofs.Places.{rest_grows, sum_small}
use Rattle.cleaning_digits.proofs.Length.{count_is}
use borrow.Author.Rules.{rules}
use Rattle.cleaning_digits.proofs.by_top.Goals as goal

pub loop-low-init : goal.loop-low-init
loop-low-init c =
    let b = sum_small c.args.digits.now c.raised_at-low.ensures.digit_string c.args.from in
    (search rules, search rules, search rules, omega (arith, b, c.raised_at-low.ensures.value), omega (arith, b, c.raised_at-low.ensures.value))

pub loop-low-preserved : goal.loop-low-preserved
unfolding sum_at
loop-low-preserved c =
    let s = c.args.digits.now in
    let a : c.raised_at-above.result ≡ raised_at s (c.loop-low.i + 1) = c.raised_at-above.ensures.value.0 in
    let e : sum_at s (c.loop-low.i + 1) ≡ rest 2 (sum_at s c.loop-low.i + 2 * c.raised_at-above.result) = rw (a, add-one c.loop-low.i) in
    let low : c.rest_of-low.result ≡ rest 2 (c.loop-low.low + 2 * c.raised_at-above.result) = c.rest_of-low.ensures.0 in
    let high : c.rest_of-high.result ≡ rest 2 (c.loop-low.high + 2 * c.raised_at-above.result) = c.rest_of-high.ensures.0 in (
      search rules,
      search rules,
      search rules,
      rw (low, e) (rest_grows (c.loop-low.low + 2 * c.raised_at-above.result) (sum_at s c.loop-low.i + 2 * c.raised_at-above.result) (search rules)),
      rw (high, e) (rest_grows (sum_at s c.loop-low.i + 2 * c.raised_at-above.result) (c.loop-low.high + 2 * c.raised_at-above.result) (search rules)),
    )

pub returns-in_default : goal.returns-in_default
returns-in_default c =
    count_is c.args.digits.now c.raised_at-low.ensures.digit_string c.args.n c.loop-low.i c.highest.result c.requires.significant c.highest.ensures (λ _. omega arith)
