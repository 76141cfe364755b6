-- `integers::bit_at` meets its contract. Assumes nothing.
use Rattle.integers.proofs.Bits.{bit_of_byte}
use Rattle.integers.proofs.bit_at.Goals as goal

pub returns : goal.returns
returns c =
    let args = c.args in
    rw c.byte_at.ensures.0 (bit_of_byte args.number.now args.place (λ i. (c.type_inv.number i).fits))
