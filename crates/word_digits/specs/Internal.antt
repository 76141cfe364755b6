-- What the private functions of recoding by words compute. No promise speaks of these.
use Rattle.std.specs.Prelude.{List, [], ◌∷◌, ℕ, ◌+◌, ◌*◌, ◌/◌, ◌%◌, ◌^◌, ◌≤◌, get_or}
use Rattle.std.specs.Int.Bits.{bit_and, bit_xor}
use Rattle.integers.specs.Bits.{bit}

-- of any two neighbouring bits at least one is 0
abbrev pub Apart : ℕ → Type 0
Apart x = (i : ℕ) → bit x i + bit x (i + 1) ≤ 1

-- the number that four digits are looked up by, which are the differences of the four bits of m and l: the places of those that are not 0, and twice the places of -1
abbrev pub index_of : ℕ → ℕ → ℕ
index_of m l = bit_xor m l + 2 * bit_and (bit_xor m l) l

-- the same for four bits of each byte of two words
unfoldable pub index_byte : ℕ → ℕ → ℕ → ℕ
index_byte more less j = index_of (more / 2 ^ (8 * j) % 16) (less / 2 ^ (8 * j) % 16)

-- the bytes of four digits at their number; 0 where no four canonical digits have it
unfoldable pub four_digits : List ℕ
four_digits =
    0 ∷ 0x1 ∷ 0x100 ∷ 0xFF ∷ 0x10000 ∷ 0x10001 ∷ 0xFF00 ∷ 0x100FF ∷ 0x1000000 ∷ 0x1000001 ∷ 0x1000100 ∷ 0x10000FF ∷ 0xFF0000 ∷ 0xFF0001 ∷ 0x100FF00 ∷ 0xFF00FF ∷ 0 ∷ 0 ∷ 0 ∷ 0 ∷ 0 ∷ 0 ∷ 0 ∷ 0 ∷ 0xFF000000 ∷ 0xFF000001 ∷ 0xFF000100 ∷ 0xFF0000FF ∷ 0 ∷ 0 ∷ 0xFF00FF00 ∷ 0 ∷ []

-- the entries of a table for byte j of two words, the second above the first
abbrev pub entries : List ℕ → ℕ → ℕ → ℕ → ℕ
entries fours low high j = get_or fours (low / 2 ^ (8 * j) % 32) 0 + 0x100000000 * get_or fours (high / 2 ^ (8 * j) % 32) 0
