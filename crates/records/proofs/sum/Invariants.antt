-- `records::sum` meets its contract: the k low words are added. Assumes nothing.
use mathlib.Core.Path.{◌≡◌}
use lib.ListN.{length}
use Rattle.rules.specs.Limits.{value_words}
use Rattle.words.proofs.Carry.{Carried}
use Rattle.records.proofs.Sizes.{size_words}
use Rattle.records.proofs.sum.Given as goal

abbrev pub invariant-loop-k : goal.invariant-loop-k
invariant-loop-k l = (length l.word-items ≡ value_words) × Carried l.k (size_words l.space l.a) (size_words l.space l.b) l.word-items l.carry
