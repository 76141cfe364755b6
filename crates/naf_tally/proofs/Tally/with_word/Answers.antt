-- `naf_tally::Tally::with_word` meets its contract. Assumes nothing.
use mathlib.Core.Path.{◌≡◌, refl}
use Prim.Native.Nat.{◌+◌, ◌*◌, ◌^◌, ◌<◌}
use native.Mathlib.Omega.{arith}
use Rattle.naf_tally.proofs.Tallied.{next_carry, next_small, tallied_word}
use borrow.Author.Rules.{rules}
use Rattle.naf_tally.proofs.Tally.with_word.Goals as goal

pub returns : goal.returns
returns c =
    let t = c.args.self in
    let word = c.args.word in
    let plus = c.only_in.ensures in
    let minus = c.only_in-2.ensures in
    let top = c.with_word.ensures in
    let product : c.carrying_mul-triple.result.0 + 2 ^ 64 * c.carrying_mul-triple.result.1 ≡ 3 * word + t.carry = omega (arith, c.carrying_mul-triple.ensures) in
    let fits : word < 2 ^ 64 = search rules in
    let triple-fits : c.carrying_mul-triple.result.0 < 2 ^ 64 = search rules in (
      refl,
      record {
        plus = omega (arith, plus.1);
        minus = omega (arith, minus.1);
        under = omega (arith, top.0);
        carry = omega (arith, next_small word t.carry c.carrying_mul-triple.result.0 c.carrying_mul-triple.result.1 fits triple-fits product (search rules));
      },
      next_carry word t.carry c.carrying_mul-triple.result.0 c.carrying_mul-triple.result.1 fits triple-fits product,
      λ e left h. tallied_word word t.carry c.carrying_mul-triple.result.0 c.carrying_mul-triple.result.1 fits triple-fits product e left t _ refl refl refl (omega (arith, plus.0)) (omega (arith, minus.0)) top.1 h,
    )
