-- `records::size_word` meets its contract. Assumes nothing.
use Rattle.std.proofs.Common.{◌∙◌, rules}
use Rattle.records.proofs.Sizes.{whole_word, top_word}
use Rattle.records.proofs.size_word.Goals as goal

pub returns-then-k : goal.returns-then-k
returns-then-k c =
    let args = c.args in
    c.whole_word_at.ensures ∙ whole_word args.space.now args.at args.k (search rules)

pub returns-else-k : goal.returns-else-k
returns-else-k c =
    let args = c.args in
    c.from.ensures ∙ top_word args.space.now args.at c.requires.value_bytes_in_bounds args.k (search rules)
