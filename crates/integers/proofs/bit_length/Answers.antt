-- `integers::bit_length` meets its contract. Assumes nothing.
use mathlib.Core.Path.{sym}
use lib.ListN.{length}
use Rattle.integers.proofs.Positional.{zero_if_empty, all_significant}
use Rattle.integers.proofs.Bits.{zero_length, length_by_top}
use borrow.Author.Rules.{rules}
use Rattle.integers.proofs.bit_length.Goals as goal

pub returns-then-n-eq0 : goal.returns-then-n-eq0
returns-then-n-eq0 c = let number = c.args.number.now in sym (zero_length number (zero_if_empty number c.if-n-eq0.true))

pub returns : goal.returns
returns c =
    let number = c.args.number.now in
    rw c.byte_at.ensures.0 (length_by_top number (length number) (λ i. (c.type_inv.number i).fits) (all_significant number c.requires.unpadded) (search rules))
