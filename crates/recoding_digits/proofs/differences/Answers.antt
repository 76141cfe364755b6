-- `recoding_digits::differences` meets its contract. Assumes nothing.
use native.Mathlib.Omega.{arith}
use Rattle.recoding_digits.proofs.SpreadBits.{fits, below, differences_are}
use Rattle.recoding_digits.proofs.differences.Goals as goal

pub overflow_add-result : goal.overflow_add-result
overflow_add-result c = omega (arith, fits c.args.more c.args.less)

pub overflow_sub-result : goal.overflow_sub-result
overflow_sub-result c = omega (arith, below c.args.more c.args.less)

pub returns : goal.returns
returns c =
    let args = c.args in
    rw (c.spread.ensures, c.spread-2.ensures) (differences_are args.more args.less)
