-- `decimal::write` meets its contract: the bytes hold the number of the digits passed. Assumes nothing.
use mathlib.Core.Path.{refl, ap, ◌∙◌}
use Prim.Native.Nat.{ℕ}
use Rattle.integers.specs.Positional.{low_bytes}
use Rattle.decimal.specs.Decimal.{decimal_value}
use native.Mathlib.Omega.{arith}
use Rattle.decimal.proofs.Digits.{leading_parts}
use Rattle.decimal.proofs.Carry.{start, next_part, finish}
use borrow.Author.Rules.{rules}
use Rattle.decimal.proofs.write.Goals as goal

pub loop-digits-init : goal.loop-digits-init
loop-digits-init c =
    let zeros = c.fill.ensures.after (λ y e. e) in
    rw (c.into_iter-digits-iterator.ensures.into_iter_gives, c.chunks-digits-items.ensures.rest, c.chunks-digits-items.ensures.size) (refl, refl, start c.args.text.now c.fill.new.self _ c.requires.text_value zeros)

pub part_of-part-requires : goal.part_of-part-requires
part_of-part-requires c =
    let steps = c.in-Some.ensures.steps in
    let u = c.loop-digits.invariant.2 in
    record { digits_value = (leading_parts c.in-Some.digits.now c.next.new.self.rest.now (rw steps.1.0 at u.digits)).0; digits_bound = omega (arith, steps) }

pub loop-digits-preserved : goal.loop-digits-preserved
loop-digits-preserved c =
    let steps = c.in-Some.ensures.steps in
    let part = c.part_of-part.ensures in
    (search rules, search rules, next_part c.in-Some.digits.now c.next.new.self.rest.now c.loop-digits.invariant.2 steps.1.0 part.value.0 part.power.0 c.append.ensures)

pub returns : goal.returns
returns c = finish _ _ _ c.loop-digits.invariant.2 (omega (arith, c.in-None.ensures.steps)) ∙ ap (λ (n : ℕ). low_bytes n (decimal_value c.args.text.now)) (omega arith)
