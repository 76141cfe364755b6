-- `records::sum` meets its contract: the k low words are added. Assumes nothing.
use mathlib.Core.Path.{◌≡◌}
use Prim.Native.Nat.{◌<◌, ◌^◌}
use lib.ListN.{replicate}
use Rattle.rules.specs.Limits.{value_words, value_bound}
use Rattle.integers.specs.Positional.{bytes_value, words_value}
use Rattle.integers.proofs.Positional.{Below}
use Rattle.words.proofs.Carry.{carried_none, sum_stored, carried_all}
use Rattle.records.specs.Recording.{size_bytes}
use Rattle.records.proofs.Limits.{bound_twice}
use Rattle.records.proofs.Records.{size_below}
use Rattle.records.proofs.Sizes.{size_words, length_words, word_at_lem, words_are, no_carry}
use borrow.Author.Rules.{rules}
use Rattle.records.proofs.sum.Goals as goal

pub loop-k-init : goal.loop-k-init
loop-k-init c =
    let args = c.args in
    let space = args.space.now in
    (search rules, carried_none (size_words space args.a) (size_words space args.b) (replicate value_words 0))

pub loop-k-preserved : goal.loop-k-preserved
loop-k-preserved c =
    let args = c.args in
    let space = args.space.now in
    let here : c.loop-k.k < value_words = search rules in
    let first = word_at_lem space args.a c.loop-k.k here in
    let second = word_at_lem space args.b c.loop-k.k here in (
      search rules,
      sum_stored c.loop-k.k (size_words space args.a) (size_words space args.b) c.loop-k.word-items c.add_with_carry.result.0 c.loop-k.carry c.add_with_carry.result.1 (search rules) c.loop-k.invariant.1
          (rw (first, second, ← c.size_word.ensures, ← c.size_word-in-loop-k.ensures) c.add_with_carry.ensures),
    )

pub returns : goal.returns
returns c =
    let args = c.args in
    let space = args.space.now in
    let bytes : Below 256 space = λ i. (c.type_inv.space i).fits in
    let e : c.loop-k.k ≡ value_words = search rules in
    let total = carried_all value_words (size_words space args.a) (size_words space args.b) c.loop-k.word-items c.loop-k.carry (length_words space args.a) (length_words space args.b) c.loop-k.invariant.0 (rw e at c.loop-k.invariant.1) in
    no_carry (bytes_value (size_bytes space args.a)) (bytes_value (size_bytes space args.b)) (words_value c.loop-k.word-items) ((2 ^ 64) ^ value_words) value_bound c.loop-k.carry
    (size_below space args.a bytes) (size_below space args.b bytes) bound_twice (rw (words_are space args.a c.requires.value_bytes_in_bounds, words_are space args.b c.requires.value_bytes_in_bounds_2) at total)
