-- `recoding_digits::spread` meets its contract. Assumes nothing.
use Rattle.recoding_digits.proofs.SpreadBits.{spread_is}
use Rattle.recoding_digits.proofs.spread.Goals as goal

pub returns : goal.returns
returns c = spread_is c.args.word
