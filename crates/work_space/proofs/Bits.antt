-- The bits of a size that is recorded. Assumes nothing.
use mathlib.Core.Path.{ap, ◌∙◌}
use mathlib.Core.List.{List}
use Prim.Native.Nat.{ℕ, ◌+◌, ◌*◌, ◌/◌, ◌%◌, ◌^◌, ◌≤◌}
use lib.ListN.{length}
use Rattle.rules.specs.Limits.{value_bytes, record_bytes}
use Rattle.integers.specs.Bits.{bit}
use Rattle.integers.proofs.Positional.{Below}
use Rattle.integers.proofs.Words.{part, word_at, bit_of_word}
use Rattle.records.proofs.Recording.{has_record}
use Rattle.records.proofs.Records.{size_bytes_lem, record_read}
use Rattle.work_space.specs.Bits.{IsGrown}

-- the bit stands in a word of the size
pub is_grown : (here : List ℕ) (i bits : ℕ) → Below 256 here → record_bytes * i + record_bytes ≤ length here
    → IsGrown i bits here (bits + word_at (part (record_bytes * i + 1) value_bytes here) (bits / 64) / 2 ^ (bits % 64) % 2)
is_grown here i bits bytes fits lent values h w =
    let size : List ℕ = part (record_bytes * i + 1) value_bytes here in
    let read = (record_read here (record_bytes * i) fits _ (has_record lent here values w i h)).1 in
    ap (λ (b : ℕ). bits + b) (bit_of_word size bits (size_bytes_lem here (record_bytes * i + 1) bytes) ∙ ap (λ (n : ℕ). bit n bits) read)
