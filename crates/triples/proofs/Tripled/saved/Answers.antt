-- `triples::Tripled::saved` meets its contract. Assumes nothing.
use Rattle.triples.proofs.Tripled.saved.Goals as goal

pub returns : goal.returns
returns c = λ count. c.saved.ensures c.args.self.now c.triple.ensures.value count
