-- `integers::word_at` meets its contract. Assumes nothing.
use lib.ListN.{length, drop, drop_of_length-le}
use Rattle.integers.specs.Positional.{positional}
use Rattle.integers.proofs.word_at.Goals as goal

pub returns-then-bytes-from : goal.returns-then-bytes-from
unfolding positional
returns-then-bytes-from c = rw (drop_of_length-le c.args.bytes.now {i = c.args.from} c.if-bytes-from.true)
