-- `word_digits::write_word` meets its contract: after j turns the digits of the j low bytes stand. Assumes nothing.
use mathlib.Core.Path.{◌≡◌}
use mathlib.Core.List.{◌++◌}
use Prim.Native.Nat.{◌*◌}
use lib.ListN.{length, drop}
use Rattle.integers.specs.Tabulate.{tabulate}
use Rattle.recoding_digits.specs.Internal.{difference}
use Rattle.word_digits.proofs.write_word.Given as goal

abbrev pub invariant-loop-j : goal.invariant-loop-j
invariant-loop-j l =
    (length l.out ≡ length l.initial.out) × (l.out ≡ tabulate (difference l.more l.less) (8 * l.j) ++ drop (8 * l.j) l.initial.out)
