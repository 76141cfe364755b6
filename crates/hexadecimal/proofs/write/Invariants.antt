-- `hexadecimal::write` meets its contract: the bytes below k are written, and the others stay. Assumes nothing.
use mathlib.Core.Path.{◌≡◌}
use mathlib.Core.List.{◌++◌}
use lib.ListN.{length, drop}
use Rattle.integers.specs.Tabulate.{tabulate}
use Rattle.hexadecimal.specs.Hex.{byte_at}
use Rattle.hexadecimal.proofs.write.Given as goal

abbrev pub invariant-loop-k : goal.invariant-loop-k
invariant-loop-k l = (length l.bytes ≡ length l.initial.bytes) × (l.bytes ≡ tabulate (byte_at l.text) l.k ++ drop l.k l.initial.bytes)
