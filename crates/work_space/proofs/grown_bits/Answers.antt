-- `work_space::grown_bits` meets its contract. Assumes nothing.
use Rattle.work_space.proofs.Bits.{is_grown}
use borrow.Author.Rules.{rules}
use Rattle.work_space.proofs.grown_bits.Goals as goal

pub returns : goal.returns
returns c =
    let args = c.args in
    rw c.size_word-word.ensures (is_grown args.space.now args.i args.bits (λ n. (c.type_inv.space n).fits) (search rules))
