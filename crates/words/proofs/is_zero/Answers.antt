-- `words::is_zero` meets its contract: whether the words below an index hold nothing. Assumes nothing.
use Rattle.std.proofs.Common.{refl}
use Rattle.integers.specs.Positional.{positional}
use Rattle.words.proofs.Halves.{zero_more}
use Rattle.words.proofs.is_zero.Goals as goal

pub loop-word-init : goal.loop-word-init
unfolding positional
loop-word-init c = refl

pub loop-word-preserved : goal.loop-word-preserved
loop-word-preserved c = rw c.loop-word.invariant (zero_more c.args.words.now c.loop-word.word-index)
