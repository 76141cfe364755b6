-- `recoding_words_digits::write_raised` meets its contract: after k turns the digits of the k low words stand. Assumes nothing.
use mathlib.Core.Path.{◌≡◌}
use mathlib.Core.List.{◌++◌}
use Prim.Native.Nat.{◌*◌}
use lib.ListN.{length, drop}
use Rattle.integers.specs.Positional.{words_value}
use Rattle.integers.specs.Tabulate.{tabulate}
use Rattle.recoding_digits.specs.Internal.{difference}
use Rattle.recoding_words_digits.proofs.write_raised.Given as goal

abbrev pub invariant-loop-k : goal.invariant-loop-k
invariant-loop-k l =
    (length l.out ≡ length l.initial.out) × (l.out ≡ tabulate (difference (3 * words_value l.words) (words_value l.words)) (64 * l.k) ++ drop (64 * l.k) l.initial.out)
