-- `integers::ones` meets its contract: the ones of the words below k are counted. Assumes nothing.
use Rattle.std.proofs.Common.{◌≡◌, ◌≤◌, ◌+◌, ◌*◌, drop}
use lib.Count.{ones}
use Rattle.integers.specs.Positional.{bytes_value}
use Rattle.integers.proofs.ones.Given as goal

abbrev pub invariant-loop-k : goal.invariant-loop-k
invariant-loop-k l = (l.total ≤ 64 * l.k) × (l.total + ones (bytes_value (drop (8 * l.k) l.number)) ≡ ones (bytes_value l.number))
