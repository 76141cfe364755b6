-- `wide_digits::left_at` meets its contract. Assumes nothing.
use Rattle.wide_digits.specs.Internal.{left_at}
use Rattle.wide_digits.proofs.Load.{loaded}
use Rattle.wide_digits.proofs.left_at.Goals as goal

pub returns : goal.returns
unfolding left_at
returns c =
    let args = c.args in
    rw (c.whole_word_at.ensures, loaded args.bytes.now args.place (λ i. (c.type_inv.bytes i).fits))
