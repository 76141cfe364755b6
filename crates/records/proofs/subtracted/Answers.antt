-- `records::subtracted` meets its contract: the k low words are subtracted. Assumes nothing.
use mathlib.Core.Path.{◌≡◌}
use Prim.Native.Nat.{◌<◌}
use lib.ListN.{replicate}
use Rattle.rules.specs.Limits.{value_words}
use Rattle.words.proofs.Carry.{carried_none, difference_stored, carried_all}
use Rattle.records.proofs.Sizes.{size_words, length_words, word_at_lem, words_are}
use borrow.Author.Rules.{rules}
use Rattle.records.proofs.subtracted.Goals as goal

pub loop-k-init : goal.loop-k-init
loop-k-init c =
    let args = c.args in
    let space = args.space.now in
    (search rules, carried_none (replicate value_words 0) (size_words space args.b) (size_words space args.a))

pub loop-k-preserved : goal.loop-k-preserved
loop-k-preserved c =
    let args = c.args in
    let space = args.space.now in
    let here : c.loop-k.k < value_words = search rules in
    let first = word_at_lem space args.a c.loop-k.k here in
    let second = word_at_lem space args.b c.loop-k.k here in (
      search rules,
      difference_stored c.loop-k.k (size_words space args.a) (size_words space args.b) c.loop-k.word-items c.borrowing_sub.result.0 c.loop-k.borrow c.borrowing_sub.result.1 (search rules) c.loop-k.invariant.1
          (rw (first, second, ← c.size_word.ensures, ← c.size_word-in-loop-k.ensures) c.borrowing_sub.ensures),
    )

pub returns : goal.returns
returns c =
    let args = c.args in
    let space = args.space.now in
    let e : c.loop-k.k ≡ value_words = search rules in
    let total = carried_all value_words c.loop-k.word-items (size_words space args.b) (size_words space args.a) c.loop-k.borrow c.loop-k.invariant.0 (length_words space args.b) (length_words space args.a) (rw e at c.loop-k.invariant.1) in
    rw (words_are space args.a c.requires.value_bytes_in_bounds, words_are space args.b c.requires.value_bytes_in_bounds_2) at total
