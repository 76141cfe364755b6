-- What the private functions of recode compute. No promise speaks of these.
use Rattle.std.specs.Prelude.{ℕ, ◌+◌, ◌*◌, ◌/◌, ◌%◌, ◌^◌}
use Rattle.integers.specs.Bits.{bit}

-- what three times the k low bytes of e carry into byte k
unfoldable pub triple_carry : ℕ → ℕ → ℕ
triple_carry e k = 3 * (e % 256 ^ k) / 256 ^ k

-- the digit byte that is the difference of two bits
unfoldable pub difference : ℕ → ℕ → ℕ → ℕ
difference more less j = (bit more j + 255 * bit less j) % 256
