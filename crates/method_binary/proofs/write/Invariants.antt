-- `method_binary::write` meets its contract: the steps of the bits from i on are written. Assumes nothing.
use mathlib.Core.Path.{◌≡◌}
use Prim.Native.Nat.{◌≤◌, ◌+◌}
use lib.ListN.{length}
use Rattle.integers.specs.Positional.{bytes_value}
use Rattle.integers.specs.Bits.{bit, bit_length}
use Rattle.methods.specs.Binary.{at_bit, binary_steps}
use Rattle.plan_writing.proofs.Underway.{Underway}
use Rattle.method_binary.proofs.write.Given as goal

abbrev pub invariant-loop-i : goal.invariant-loop-i
invariant-loop-i l = (l.i + 1 ≤ bit_length (bytes_value l.number)) × (length l.out ≡ length l.initial.out) × Underway l.initial.out l.out l.c (λ i b. at_bit (bit (bytes_value l.number) i) b) l.i (binary_steps (bytes_value l.number))
