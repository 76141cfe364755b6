-- `triples::Tripled::count` meets its contract. Assumes nothing.
use Rattle.std.proofs.Common.{◌*◌, ap, ◌∙◌}
use Rattle.triples.proofs.Tripled.count.Goals as goal

pub count-requires : goal.count-requires
count-requires c = c.triple.ensures.value ∙ ap (λ e. 3 * e) c.requires

pub returns : goal.returns
returns c = rw c.requires c.count.ensures
