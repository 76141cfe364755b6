-- `records::load_size` meets its contract: after k turns the first k words stand. Assumes nothing.
use mathlib.Core.Path.{◌≡◌}
use mathlib.Core.List.{append-nil}
use lib.ListN.{replicate}
use Rattle.rules.specs.Limits.{value_bytes, value_words}
use Rattle.integers.specs.Tabulate.{tabulate}
use Rattle.integers.proofs.Tabulate.{tabulate_more}
use Rattle.integers.proofs.Words.{part, word_at}
use Rattle.records.proofs.Sizes.{size_words, words_are}
use borrow.Author.Rules.{rules}
use Rattle.records.proofs.load_size.Goals as goal

pub loop-k-init : goal.loop-k-init
unfolding tabulate
loop-k-init c = search rules

pub loop-k-preserved : goal.loop-k-preserved
loop-k-preserved c =
    let args = c.args in
    let f = word_at (part args.at value_bytes args.space.now) in
    (search rules, rw (c.size_word.ensures, c.loop-k.invariant.1) (tabulate_more f (replicate value_words 0) c.loop-k.k (search rules)))

pub returns : goal.returns
unfolding size_words
returns c =
    let args = c.args in
    let e : c.loop-k.k ≡ value_words = search rules in
    rw (c.loop-k.invariant.1, e, append-nil) (words_are args.space.now args.at c.requires)
