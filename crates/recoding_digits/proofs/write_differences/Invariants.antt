-- `recoding_digits::write_differences` meets its contract. Assumes nothing.
use mathlib.Core.Path.{◌≡◌}
use mathlib.Core.List.{◌++◌}
use lib.ListN.{drop}
use Rattle.integers.specs.Tabulate.{tabulate}
use Rattle.recoding_digits.specs.Internal.{difference}
use Rattle.recoding_digits.proofs.write_differences.Given as goal

abbrev pub invariant-loop-j : goal.invariant-loop-j
invariant-loop-j l = l.out ≡ tabulate (difference l.more l.less) l.j ++ drop l.j l.initial.out
