-- `integers::ones` meets its contract: the ones of the words below k are counted. Assumes nothing.
use Rattle.std.proofs.Common.{◌≤◌, arith}
use lib.Count.{ones, ones-le}
use Rattle.integers.proofs.Counting.{ones_word}
use Rattle.integers.proofs.ones.Goals as goal

pub loop-k-preserved : goal.loop-k-preserved
loop-k-preserved c =
    let number = c.args.number.now in
    let few : ones c.whole_word_at.result ≤ 64 = ones-le 64 c.whole_word_at.result (omega arith) in
    let more = rw (← c.whole_word_at.ensures) at (ones_word number c.loop-k.k (λ i. (c.type_inv.number i).fits)) in
    (omega arith, omega (arith, c.loop-k.invariant.1, more))
