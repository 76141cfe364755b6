-- `cleaning_digits::count` meets its contract. Assumes nothing.
use native.Mathlib.Omega.{arith}
use Rattle.cleaning_digits.specs.Sums.{sum_at}
use Rattle.cleaning_digits.proofs.Length.{count_is}
use borrow.Author.Rules.{rules}
use Rattle.cleaning_digits.proofs.count.Goals as goal

pub highest-requires : goal.highest-requires
unfolding sum_at
highest-requires c = search rules

pub returns : goal.returns
returns c =
    count_is c.args.digits.now c.bytes.ensures.digit_string c.significant-n.result 0 c.highest.result (rw c.bytes.ensures.value at c.significant-n.ensures) c.highest.ensures (λ h. absurd (omega arith))
