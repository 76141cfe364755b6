-- `wide_digits::write` meets its contract: the digits below the place are written. Assumes nothing.
use mathlib.Core.Path.{◌≡◌}
use Prim.Native.Nat.{◌≤◌, ◌+◌, ◌-◌}
use lib.ListN.{length}
use Rattle.integers.specs.Positional.{bytes_value}
use Rattle.wide_digits.specs.Internal.{load_bits}
use Rattle.wide_digits.proofs.Scan.{Scanned}
use Rattle.wide_digits.proofs.write.Given as goal

abbrev pub invariant-loop-place : goal.invariant-loop-place
invariant-loop-place l =
    (l.place ≤ l.bits + load_bits) × (l.carry ≤ 1) × (length l.out ≡ length l.initial.out) × Scanned l.width l.sign (bytes_value l.bytes) l.place l.carry l.length l.out

abbrev pub decreases-loop-place : goal.decreases-loop-place
decreases-loop-place l = l.bits + load_bits - l.place
