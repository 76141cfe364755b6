-- `records::same_size` meets its contract: the k low words are compared. Assumes nothing.
use mathlib.Core.Path.{◌≡◌}
use lib.Dec.{eqb}
use Rattle.records.proofs.Sizes.{same_to}
use Rattle.records.proofs.same_size.Given as goal

abbrev pub invariant-loop-k : goal.invariant-loop-k
invariant-loop-k l = (eqb l.differing 0 ≡ same_to l.space l.a l.b l.k)
