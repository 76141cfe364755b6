-- `records::load_size` meets its contract: after k turns the first k words stand. Assumes nothing.
use mathlib.Core.Path.{◌≡◌}
use mathlib.Core.List.{◌++◌}
use lib.ListN.{length, drop}
use Rattle.rules.specs.Limits.{value_bytes, value_words}
use Rattle.integers.specs.Tabulate.{tabulate}
use Rattle.integers.proofs.Words.{part, word_at}
use Rattle.records.proofs.load_size.Given as goal

abbrev pub invariant-loop-k : goal.invariant-loop-k
invariant-loop-k l =
    (length l.word-items ≡ value_words) × (l.word-items ≡ tabulate (word_at (part l.at value_bytes l.space)) l.k ++ drop l.k l.initial.word-items)
