-- `integers::word_of` meets its contract: the word is the value of the bytes that the iterator has given. Assumes nothing.
use Rattle.std.proofs.Common.{◌≡◌, ◌++◌, length, drop}
use Rattle.integers.specs.Positional.{bytes_value}
use Rattle.integers.proofs.word_of.Given as goal

abbrev pub invariant-loop-byte : goal.invariant-loop-byte
invariant-loop-byte l =
    let left = l.byte-iterator.iter.rest.now in
    (left ++ drop (length left) l.bytes ≡ l.bytes) × (l.word ≡ bytes_value (drop (length left) l.bytes))
