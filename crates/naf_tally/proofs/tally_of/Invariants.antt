-- `naf_tally::tally_of` meets its contract: the words below an index are in the tally. Assumes nothing.
use Rattle.std.proofs.Common.{◌≡◌, ◌*◌, drop}
use Rattle.integers.specs.Positional.{words_value}
use Rattle.naf_tally.specs.Tally.{Within, Tallied}
use Rattle.naf_tally.proofs.tally_of.Given as goal

abbrev pub invariant-loop-word : goal.invariant-loop-word
invariant-loop-word l = (l.below.places ≡ 64 * l.word-index) × Within l.below × Tallied (words_value l.word-items) (words_value (drop l.word-index l.word-items)) l.below
