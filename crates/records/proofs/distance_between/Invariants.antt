-- `records::distance_between` meets its contract: the k low words of the absolute value are found. Assumes nothing.
use mathlib.Core.Path.{◌≡◌}
use lib.ListN.{length}
use Rattle.rules.specs.Limits.{value_words}
use Rattle.records.proofs.Sizes.{Absolute}
use Rattle.records.proofs.distance_between.Given as goal

abbrev pub invariant-loop-k : goal.invariant-loop-k
invariant-loop-k l = (length l.word-items ≡ value_words) × Absolute l.below l.k l.given l.word-items l.borrow
