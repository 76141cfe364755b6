-- Bits, and how many a number has.
use Rattle.std.specs.Prelude.{ℕ, zero, suc, ◌/◌, ◌%◌, ◌^◌}

-- the bit of v at place i
unfoldable pub bit : ℕ → ℕ → ℕ
bit v i = v / 2 ^ i % 2

-- how many bits n has, at most f of them; n itself is enough
unfoldable pub length_up_to : ℕ → ℕ → ℕ
length_up_to zero n = 0
length_up_to (suc f) zero = 0
length_up_to (suc f) (suc n) = suc (length_up_to f (suc n / 2))

-- the bit length: 0 for 0. The top bit of n stands at place bit_length n - 1
unfoldable pub bit_length : ℕ → ℕ
bit_length n = length_up_to n n
