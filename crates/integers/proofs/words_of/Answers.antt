-- `integers::words_of` meets its contract: after k turns the first k words stand. Assumes nothing.
use Rattle.std.proofs.Common.{◌≡◌, ℕ, List, replicate, ap, ◌∙◌, append-nil, arith, rules}
use Rattle.rules.specs.Limits.{number_words}
use Rattle.integers.specs.Positional.{words_value}
use Rattle.integers.specs.Tabulate.{tabulate}
use Rattle.integers.proofs.Tabulate.{tabulate_more}
use Rattle.integers.proofs.Words.{word_at, words_value_lem}
use Rattle.integers.proofs.words_of.Goals as goal

pub loop-k-init : goal.loop-k-init
unfolding tabulate
loop-k-init c = search rules

pub loop-k-preserved : goal.loop-k-preserved
loop-k-preserved c =
    let number = c.args.number.now in
    let zeros : List ℕ = replicate number_words 0 in
    (search rules, rw (c.word_at.ensures, c.loop-k.invariant.1) (tabulate_more (word_at number) zeros c.loop-k.k (search rules)))

pub returns : goal.returns
returns c =
    let number = c.args.number.now in
    let e : c.loop-k.k ≡ number_words = omega arith in
    let f : c.loop-k.word-items ≡ tabulate (word_at number) number_words = (rw e at c.loop-k.invariant.1) ∙ append-nil (tabulate (word_at number) number_words) in
    ap words_value f ∙ words_value_lem number number_words
