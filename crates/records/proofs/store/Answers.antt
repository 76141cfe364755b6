-- `records::store` meets its contract. Assumes nothing.
use mathlib.Core.Path.{◌∙◌}
use native.Mathlib.Omega.{arith}
use lib.ListN.{length-set}
use Rattle.integers.specs.Positional.{low_bytes, words_value}
use Rattle.rules.specs.Limits.{value_bytes}
use Rattle.records.proofs.Records.{record_placed}
use Rattle.records.proofs.store.Goals as goal

pub store_size-requires : goal.store_size-requires
store_size-requires c = simp length-set (omega arith)

pub shape_of-space : goal.shape_of-space
shape_of-space c = c.store_size.auto.space ∙ simp length-set

pub returns : goal.returns
returns c =
    let args = c.args in
    c.store_size.ensures ∙ record_placed args.space.now args.at c.requires args.sign (low_bytes value_bytes (words_value args.words))
