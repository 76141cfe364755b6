-- `words::is_zero` meets its contract: whether the words below k hold nothing. Assumes nothing.
use Rattle.std.proofs.Common.{◌≡◌, eqb, take}
use Rattle.integers.specs.Positional.{words_value}
use Rattle.words.proofs.is_zero.Given as goal

abbrev pub invariant-loop-word : goal.invariant-loop-word
invariant-loop-word l = l.none ≡ eqb (words_value (take l.word-index l.words)) 0
