-- `integers::bits_at` meets its contract. Assumes nothing.
use Rattle.integers.proofs.Bits.{bits_of_bytes}
use borrow.Author.Rules.{rules}
use Rattle.integers.proofs.bits_at.Goals as goal

pub returns : goal.returns
returns c =
    let args = c.args in
    rw (c.byte_at.ensures.0, c.byte_at-2.ensures.0, c.power_of_two.ensures)
    (bits_of_bytes args.number.now args.place args.count (λ i. (c.type_inv.number i).fits) (search rules))
