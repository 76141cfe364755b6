-- `reading_digits::raised_sum` meets its contract: the sum is that of the digits passed. Assumes nothing.
use mathlib.Core.Path.{◌≡◌, refl, sym}
use mathlib.Core.List.{List}
use Prim.Native.Nat.{ℕ, suc, ◌-◌, ◌+◌, ◌*◌}
use native.Mathlib.Omega.{arith}
use lib.ListN.{length, length-append}
use Rattle.reading_digits.specs.Sums.{raised_sum}
use Rattle.reading_digits.proofs.Backward.{front_whole, front_less}
use Rattle.reading_digits.proofs.Raised.{zeros_byte, raised_none, raised_from_end, raised_few}
use borrow.Author.Rules.{rules}
use Rattle.reading_digits.proofs.raised_sum.Goals as goal

pub loop-digit-init : goal.loop-digit-init
loop-digit-init c =
    let digits = c.args.digits.now in
    let none : length digits - length digits ≡ 0 = omega arith in
    let whole : c.into_iter-digit-iterator.result.iter.rest.now ≡ digits = rw (c.into_iter-digit-iterator.ensures.into_iter_gives, c.rev-digit-items.ensures.source, c.iter.ensures.rest) refl in
    (search rules, search rules, search rules, rw whole (front_whole digits), rw (whole, none) (sym (raised_none c.args.largest digits (length digits))))

pub loop-digit-preserved : goal.loop-digit-preserved
loop-digit-preserved c =
    let largest : ℕ = c.args.largest in
    let digits = c.args.digits.now in
    let left : List ℕ = c.next.new.self.iter.rest.now in
    let p = front_less digits left c.in-Some.digit.now (rw c.in-Some.ensures.steps at c.loop-digit.invariant.3) in
    let size : length (c.loop-digit.digit-iterator.iter.rest.now) ≡ suc (length left) = rw c.in-Some.ensures.steps (omega (arith, length-append {A = ℕ})) in
    let e : c.loop-digit.sum * 2 + c.raised_digit.result ≡ raised_sum largest digits (length left) (length digits - length left) =
    rw (c.raised_digit.ensures, ← p.element) (raised_from_end largest digits (length left) c.loop-digit.sum p.within (rw size at c.loop-digit.invariant.4)) in
    let few = raised_few largest digits (length left) (length digits - length left) c.requires.sizes_up_to in
    (search rules, search rules, omega (arith, e, few, zeros_byte largest (length digits - length left) c.requires.largest_lt_carry_zero (omega arith)), p.left, e)
