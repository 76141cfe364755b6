-- `words::half_word` meets its contract. Assumes nothing.
use Rattle.std.proofs.Common.{arith}
use Rattle.words.proofs.Halves.{turned_half}
use Rattle.words.proofs.half_word.Goals as goal

pub returns : goal.returns
returns c =
    let args = c.args in
    rw c.rotate_right-turned.ensures (turned_half args.word args.next (omega arith))
