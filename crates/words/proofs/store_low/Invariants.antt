-- `words::store_low` meets its contract: after i turns the i low bytes stand. Assumes nothing.
use Rattle.std.proofs.Common.{◌≡◌, ◌/◌, ◌^◌, length}
use Rattle.integers.specs.Positional.{low_bytes}
use Rattle.integers.proofs.Blocks.{placed}
use Rattle.words.proofs.store_low.Given as goal

abbrev pub invariant-loop-i : goal.invariant-loop-i
invariant-loop-i l =
    (length l.bytes ≡ length l.initial.bytes) × (l.rest ≡ l.word / 256 ^ l.i) × (l.bytes ≡ placed l.initial.bytes l.at l.i (low_bytes l.i l.word))
