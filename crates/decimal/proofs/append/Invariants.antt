-- `decimal::append` meets its contract: the bytes passed are written, and what they leave out is carried. Assumes nothing.
use mathlib.Core.Path.{◌≡◌}
use mathlib.Core.List.{◌++◌}
use Prim.Native.Nat.{◌<◌, ◌/◌, ◌^◌}
use lib.ListN.{length, drop}
use Rattle.integers.specs.Positional.{low_bytes}
use Rattle.decimal.proofs.Carry.{total}
use Rattle.decimal.proofs.append.Given as goal

abbrev pub invariant-loop-byte : goal.invariant-loop-byte
invariant-loop-byte l =
    (length l.bytes ≡ length l.initial.bytes) × (l.carry < l.factor) × (l.carry ≡ total l.initial.bytes l.factor l.addend l.byte-index / 256 ^ l.byte-index) × (l.bytes ≡ low_bytes l.byte-index (total l.initial.bytes l.factor l.addend l.byte-index) ++ drop l.byte-index l.initial.bytes)
