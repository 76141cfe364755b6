-- `reading_digits::sign_of` meets its contract: the value is what the digits passed come to, raised by the largest. Assumes nothing.
use mathlib.Core.Path.{◌≡◌, refl, ◌∙◌}
use Prim.Native.Nat.{ℕ, suc, ◌+◌, ◌*◌}
use native.Mathlib.Omega.{arith}
use lib.ListN.{length, length-append}
use Rattle.reading_digits.proofs.Backward.{Passed, front_whole, front_less}
use Rattle.reading_digits.proofs.Raised.{none_above}
use Rattle.reading_digits.proofs.Sign.{Comes, none_passed, one_passed, kept, decides_0, decides_1, ends_0, ends_1}
use borrow.Author.Rules.{rules}
use Rattle.reading_digits.proofs.sign_of.Goals.{After-raised_digit}
use Rattle.reading_digits.proofs.sign_of.Goals as goal

-- what is left, without this digit
rest : (c : After-raised_digit) → Passed c.args.digits.now c.next.new.self.iter.rest.now c.in-Some.digit.now
rest c = front_less c.args.digits.now c.next.new.self.iter.rest.now c.in-Some.digit.now (rw c.in-Some.ensures.steps at c.loop-digit.invariant.4)

size : (c : After-raised_digit) → length c.loop-digit.digit-iterator.iter.rest.now ≡ suc (length c.next.new.self.iter.rest.now)
size c = rw c.in-Some.ensures.steps (omega (arith, length-append {A = ℕ}))

-- one digit more
passed : (c : After-raised_digit)
    → Comes c.from-largest.result c.args.digits.now (length c.args.digits.now) (length c.next.new.self.iter.rest.now) (3 * c.from-largest.result)
    (2 * c.loop-digit.value + c.raised_digit.result)
passed c =
    rw c.raised_digit.ensures (rw (rest c).element at (one_passed c.from-largest.result c.args.digits.now (length c.args.digits.now) (length c.next.new.self.iter.rest.now) c.loop-digit.value (omega arith) (omega (arith, size c)) (rw (size c) at c.loop-digit.invariant.5)))

pub loop-digit-init : goal.loop-digit-init
loop-digit-init c =
    let digits = c.args.digits.now in
    let whole : c.into_iter-digit-iterator.result.iter.rest.now ≡ digits = rw (c.into_iter-digit-iterator.ensures.into_iter_gives, c.rev-digit-items.ensures.source, c.iter.ensures.rest) refl in
    (search rules, search rules, rw whole (omega arith), omega arith, rw whole (front_whole digits), rw whole (none_passed c.from-largest.result digits (length digits)))

pub returns-then-next-twice : goal.returns-then-next-twice
returns-then-next-twice c =
    let e = c.from-largest.ensures ∙ c.largest_digit.ensures.value in
    decides_1 c.args.width c.args.digits.now (length c.args.digits.now) c.requires c.largest_digit.ensures.range (omega arith) (none_above c.args.digits.now) _ _ (omega (arith, size (goal.at.returns-then-next-twice c).After-raised_digit)) (rw e at (passed (goal.at.returns-then-next-twice c).After-raised_digit)) (rw e at c.if-next-twice.true)

pub returns-then-twice-value : goal.returns-then-twice-value
returns-then-twice-value c =
    let e = c.from-largest.ensures ∙ c.largest_digit.ensures.value in
    decides_0 c.args.width c.args.digits.now (length c.args.digits.now) c.requires c.largest_digit.ensures.range (omega arith) (none_above c.args.digits.now) _ _ (omega (arith, size (goal.at.returns-then-twice-value c).After-raised_digit)) (rw e at (passed (goal.at.returns-then-twice-value c).After-raised_digit)) (search rules)

pub loop-digit-preserved : goal.loop-digit-preserved
loop-digit-preserved c =
    let args = c.args in
    let at = (goal.at.loop-digit-preserved c).After-raised_digit in
    (search rules, search rules, omega (arith, size at), search rules, (rest at).left, kept c.from-largest.result args.digits.now (length args.digits.now) _ _ (search rules) (passed at))

pub returns-then-value-largest : goal.returns-then-value-largest
returns-then-value-largest c =
    let e = c.in-None.ensures.steps.0 in
    ends_1 c.args.width c.args.digits.now (length c.args.digits.now) c.requires c.largest_digit.ensures.range (omega arith) (none_above c.args.digits.now) c.loop-digit.value (rw ((c.from-largest.ensures ∙ c.largest_digit.ensures.value), e) at c.loop-digit.invariant.5) (search rules)

pub returns-else-value-largest : goal.returns-else-value-largest
returns-else-value-largest c =
    let e = c.in-None.ensures.steps.0 in
    ends_0 c.args.width c.args.digits.now (length c.args.digits.now) c.requires c.largest_digit.ensures.range (omega arith) (none_above c.args.digits.now) c.loop-digit.value (rw ((c.from-largest.ensures ∙ c.largest_digit.ensures.value), e) at c.loop-digit.invariant.5) (search rules)
