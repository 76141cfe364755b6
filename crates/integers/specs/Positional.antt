-- Natural numbers in a buffer, least significant first.
use Rattle.std.specs.Prelude.{◌≡◌, ◌≢◌, List, [], ◌∷◌, ℕ, zero, suc, ◌+◌, ◌-◌, ◌*◌, ◌/◌, ◌%◌, ◌^◌, ◌<◌, ◌≤◌, length, get_or, drop}
use Rattle.lists.specs.Top.{TopOtherThan}

-- the sum of each element times the base to the power of its place
unfoldable pub positional : ℕ → List ℕ → ℕ
positional base [] = 0
positional base (d ∷ ds) = d + base * positional base ds

-- the value of a number (docs/RULES.md, 1.2): no bytes mean zero
abbrev pub bytes_value : List ℕ → ℕ
bytes_value bytes = positional 256 bytes

-- the same of words of eight bytes
abbrev pub words_value : List ℕ → ℕ
words_value words = positional (2 ^ 64) words

-- the highest byte is not zero; no bytes have none
abbrev pub Unpadded : List ℕ → Type 0
Unpadded bytes = TopOtherThan 0 bytes

-- the bytes of a number with no high zero byte, at most f of them; n itself is enough
unfoldable pub bytes_up_to : ℕ → ℕ → List ℕ
bytes_up_to zero n = []
bytes_up_to (suc f) zero = []
bytes_up_to (suc f) (suc n) = suc n % 256 ∷ bytes_up_to f (suc n / 256)

unfoldable pub bytes_of : ℕ → List ℕ
bytes_of n = bytes_up_to n n

-- the bytes below n have the whole value, and n is as small as can be
pub record Significant (number : List ℕ) (n : ℕ) : Type 0 where
  pub within : n ≤ length number
  pub whole : bytes_value (drop n number) ≡ 0
  pub top : 0 < n → get_or number (n - 1) 0 ≢ 0

-- the n low bytes of a number
unfoldable pub low_bytes : ℕ → ℕ → List ℕ
low_bytes zero v = []
low_bytes (suc n) v = v % 256 ∷ low_bytes n (v / 256)
