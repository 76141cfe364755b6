-- `word_digits::indices` meets its contract. Assumes nothing.
use Rattle.word_digits.proofs.Lookup.{indices_are}
use Rattle.word_digits.proofs.indices.Goals as goal

pub returns : goal.returns
returns c = indices_are c.args.more c.args.less
