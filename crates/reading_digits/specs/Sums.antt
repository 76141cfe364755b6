-- What the sums of raised digits come to, over the largest digit of their width. No promise speaks of these.
use Rattle.std.specs.Prelude.{ℕ, ◌+◌, ◌-◌, ◌*◌, ◌%◌, ◌^◌, ◌<◌, ◌≤◌, cond, List, map, eqb, length, get_or, take, drop}
use Rattle.integers.specs.Positional.{positional}

-- each digit raised by the largest, so that none is below zero: at width 2 minus 1 is 0, 0 is 1, and 1 is 2
abbrev pub raised_digits : ℕ → List ℕ → List ℕ
raised_digits largest digits = map (λ byte. (byte + largest) % 256) digits

-- no byte stands for a digit of a larger size
abbrev pub SizesUpTo : ℕ → List ℕ → Type 0
SizesUpTo largest digits = (i : ℕ) → i < length digits → (get_or digits i 0 + largest) % 256 ≤ 2 * largest

-- what the n digits from a place on come to, so raised, the lowest of them at place 0
unfoldable pub raised_sum : ℕ → List ℕ → ℕ → ℕ → ℕ
raised_sum largest digits from n = positional 2 (take n (drop from (raised_digits largest digits)))

-- the same of n zeros
unfoldable pub raised_zeros : ℕ → ℕ → ℕ
raised_zeros largest n = largest * (2 ^ n - 1)

-- the first of two for the sign 0, else the second
unfoldable pub by_sign : ℕ → ℕ → ℕ → ℕ
by_sign sign x y = cond (eqb sign 0) x y

-- a carry is raised by this, which is above every digit, so that none is below zero
abbrev pub carry_zero : ℕ
carry_zero = 128
