-- `recoding_digits::carry_above` meets its contract. Assumes nothing.
use mathlib.Core.Path.{◌≡◌}
use Prim.Native.Nat.{◌≤◌}
use Rattle.integers.specs.Positional.{bytes_value}
use Rattle.recoding_digits.specs.Internal.{triple_carry}
use Rattle.recoding_digits.proofs.carry_above.Given as goal

abbrev pub invariant-loop-byte : goal.invariant-loop-byte
invariant-loop-byte l = (l.carry ≤ 2) × (l.carry ≡ triple_carry (bytes_value l.low) l.byte-index)
