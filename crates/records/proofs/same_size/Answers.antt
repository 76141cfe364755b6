-- `records::same_size` meets its contract: the k low words are compared. Assumes nothing.
use mathlib.Core.Path.{◌≡◌, refl, ap, ◌∙◌}
use mathlib.Core.Bool.{Bool, ◌&&◌}
use lib.Dec.{eqb}
use Rattle.rules.specs.Limits.{value_words}
use Rattle.integers.specs.Positional.{positional}
use Rattle.integers.proofs.Positional.{Below}
use Rattle.records.proofs.Sizes.{none_differ, same_more, same_all}
use borrow.Author.Rules.{rules}
use Rattle.records.proofs.same_size.Goals as goal

pub loop-k-init : goal.loop-k-init
unfolding positional
loop-k-init c = refl

pub loop-k-preserved : goal.loop-k-preserved
loop-k-preserved c =
    let args = c.args in
    let bytes : Below 256 args.space.now = λ i. (c.type_inv.space i).fits in
    let more = same_more args.space.now args.a args.b bytes c.loop-k.k (search rules) in
    let x = c.size_word.result in
    let y = c.size_word-in-loop-k.result in
    none_differ c.loop-k.differing x y ∙ ap (λ (t : Bool). t && eqb x y) c.loop-k.invariant ∙ rw (c.size_word.ensures, c.size_word-in-loop-k.ensures) more

pub returns : goal.returns
returns c =
    let args = c.args in
    let e : c.loop-k.k ≡ value_words = search rules in
    c.loop-k.invariant ∙ rw e (same_all args.space.now args.a args.b c.requires.value_bytes_in_bounds c.requires.value_bytes_in_bounds_2)
