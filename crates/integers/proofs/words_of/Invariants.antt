-- `integers::words_of` meets its contract: after k turns the first k words stand. Assumes nothing.
use Rattle.std.proofs.Common.{◌≡◌, ◌++◌, length, drop}
use Rattle.rules.specs.Limits.{number_words}
use Rattle.integers.specs.Tabulate.{tabulate}
use Rattle.integers.proofs.Words.{word_at}
use Rattle.integers.proofs.words_of.Given as goal

abbrev pub invariant-loop-k : goal.invariant-loop-k
invariant-loop-k l = (length l.word-items ≡ number_words) × (l.word-items ≡ tabulate (word_at l.number) l.k ++ drop l.k l.initial.word-items)
