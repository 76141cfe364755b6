-- `triples::saved` meets its contract. Assumes nothing.
use Rattle.std.proofs.Common.{◌∙◌}
use Rattle.triples.proofs.Digits.{saved_is}
use Rattle.triples.proofs.saved.Goals as goal

pub returns : goal.returns
returns c = λ e whole count. c.from.ensures ∙ saved_is e _ _ count (c.bits_down.ensures ∙ rw whole)
