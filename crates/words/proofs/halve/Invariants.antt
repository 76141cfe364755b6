-- `words::halve` meets its contract: the words below k are those of half the number. Assumes nothing.
use Rattle.std.proofs.Common.{◌≡◌, length}
use Rattle.rules.specs.Limits.{number_words}
use Rattle.words.proofs.Halves.{Halved}
use Rattle.words.proofs.halve.Given as goal

abbrev pub invariant-loop-k : goal.invariant-loop-k
invariant-loop-k l = (length l.words ≡ length l.initial.words) × Halved number_words l.initial.words l.k l.words
