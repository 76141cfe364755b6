-- `chain_values::is_small` meets its contract. Assumes nothing.
use Prim.Native.Nat.{◌-◌, ◌^◌}
use lib.ListN.{get_or}
use mir.Syntax.{w64}
use mir.Val.{Fits}
use Rattle.rules.specs.Limits.{value_words}
use Rattle.integers.proofs.Positional.{Below}
use Rattle.chain_values.proofs.Limits.{bound_top}
use Rattle.chain_values.proofs.Sizes.{top_small}
use borrow.Author.Rules.{rules}
use Rattle.chain_values.proofs.is_small.Goals as goal

pub returns : goal.returns
returns c =
    let words = c.args.words in
    let fits : Below (2 ^ 64) words = λ i. let f : Fits w64 (get_or words i 0) = search rules in f.fits in
    rw bound_top (top_small words (value_words - 1) (search rules) fits)
