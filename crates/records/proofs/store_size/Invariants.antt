-- `records::store_size` meets its contract: after k turns the bytes of the first k words stand. Assumes nothing.
use mathlib.Core.Path.{◌≡◌}
use Prim.Native.Nat.{◌*◌}
use lib.ListN.{length}
use Rattle.integers.specs.Positional.{words_value}
use Rattle.records.proofs.Sizes.{low_placed}
use Rattle.records.proofs.store_size.Given as goal

abbrev pub invariant-loop-k : goal.invariant-loop-k
invariant-loop-k l =
    (length l.space ≡ length l.initial.space) × (l.space ≡ low_placed l.initial.space l.at (8 * l.k) (words_value l.words))
