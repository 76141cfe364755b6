-- What the private functions of the scan compute.
use Rattle.std.specs.Prelude.{cond, ℕ, ◌+◌, ◌*◌, ◌-◌, ◌/◌, ◌%◌, ◌^◌, ltb, ℤ, pos, neg_ℤ}
use Rattle.rules.specs.Limits.{largest_width}

-- the bits of what is left at a place that one load tells: eight bytes, less up to seven bits below the place
abbrev pub load_bits : ℕ
load_bits = 57

-- where this many of them are zeros, they are passed: above fewer, all bits of a digit are in the load
abbrev pub blank_places : ℕ
blank_places = load_bits - largest_width

-- those bits of n from a place on, and the carry
unfoldable pub left_at : ℕ → ℕ → ℕ → ℕ
left_at n place carry = n / 2 ^ place % 2 ^ load_bits + carry

-- of the numbers that differ from r by a multiple of 2 half, the one nearest to zero
unfoldable pub nearest : ℕ → ℕ → ℤ
nearest half r = cond (ltb r half) (pos r) (neg_ℤ (pos (2 * half - r)))
