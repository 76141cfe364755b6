-- `step_words::position_before` meets its contract: the digits passed, and their number. Assumes nothing.
use mathlib.Core.Bool.{false}
use mathlib.Core.Path.{◌≡◌, refl, sym}
use Prim.Native.Nat.{◌+◌}
use native.Mathlib.Omega.{arith}
use borrow.Author.Tests.{lt-ltb}
use lib.ListN.{get_or}
use Rattle.decimal.specs.Decimal.{is_digit, leading, decimal_value}
use Rattle.decimal.proofs.Digits.{digit_range, digit_passed, none_passed, all_passed, digit_more}
use Rattle.step_words.proofs.Positions.{position_ends, ends_otherwise, ends_nowhere, too_large}
use Rattle.step_words.specs.Word.{position_digits}
use Rattle.std.proofs.lemmas.Bool.Decides.{nat_tests}
use borrow.Author.Rules.{rules}
use Rattle.step_words.proofs.position_before.Goals as goal

pub loop-digits-init : goal.loop-digits-init
unfolding decimal_value
loop-digits-init c = (omega arith, refl, search rules)

pub returns-then-byte-end : goal.returns-then-byte-end
unfolding is_digit
returns-then-byte-end c =
    let text = c.args.text.now in
    let i = c.loop-digits.digits in
    let no_digit : is_digit (get_or text i 0) ≡ false = rw c.if-byte-end.true (simp (lt-ltb c.args.end 48 c.requires.1)) in
    let last : leading text ≡ i = omega (arith, none_passed text i c.loop-digits-test.true no_digit) in
    let ends : i ≡ position_digits text c.args.end = position_ends text c.args.end i last c.if-byte-end.true (omega arith) in
    rw c.then_some.ensures (grind (arith, nat_tests))

pub returns-then-not-is_digit : goal.returns-then-not-is_digit
returns-then-not-is_digit c =
    let text = c.args.text.now in
    let i = c.loop-digits.digits in
    let last : leading text ≡ i = omega (arith, none_passed text i c.loop-digits-test.true (sym c.if-not-is_digit.ensures)) in
    sym (ends_otherwise text c.args.end i last c.if-byte-end.false)

pub overflow_sub-byte : goal.overflow_sub-byte
overflow_sub-byte c = (digit_range _ (sym c.if-not-is_digit.ensures)).0

pub returns-then-value-ge-POSITIONS : goal.returns-then-value-ge-POSITIONS
returns-then-value-ge-POSITIONS c =
    let text = c.args.text.now in
    let i = c.loop-digits.digits in
    let more = digit_passed text i c.loop-digits-test.true (sym c.if-not-is_digit.ensures) in
    sym (too_large text c.args.end (i + 1) (omega (arith, more)) (omega (arith, digit_more text i c.loop-digits-test.true)))

pub loop-digits-preserved : goal.loop-digits-preserved
loop-digits-preserved c =
    let text = c.args.text.now in
    let i = c.loop-digits.digits in
    let more = digit_passed text i c.loop-digits-test.true (sym c.if-not-is_digit.ensures) in
    (omega (arith, more), omega (arith, digit_more text i c.loop-digits-test.true), search rules)

pub returns : goal.returns
returns c =
    let text = c.args.text.now in
    let i = c.loop-digits.digits in
    let last : leading text ≡ i = omega (arith, all_passed text i c.loop-digits-test.false) in
    sym (ends_nowhere text c.args.end i last c.loop-digits-test.false c.requires.0)
