-- Method 3, sliding windows of at most d bits, over the table of odd multiples.
use Rattle.std.specs.Prelude.{ℕ, zero, suc, ◌-◌, ◌/◌, ◌%◌, ◌^◌, cond, List, ltb, leb, eqb}
use Rattle.chains.specs.Steps.{Step}
use Rattle.methods.specs.PartialPlan.{PartialPlan, double, doubled, add_at}
use Rattle.methods.specs.OddMultiples.{odd_table, odd_position, table_length}
use Rattle.integers.specs.Bits.{bit, bit_length}

-- the longest window of at most l bits that begins at place n, where a 1 stands, and ends in 1
unfoldable pub longest : ℕ → ℕ → ℕ → ℕ
longest e n zero = 0
longest e n (suc l) = cond (leb l n) (cond (eqb (bit e (n - l)) 1) (suc l) (longest e n l)) (longest e n l)

-- the value of the window of l bits that begins at place n
abbrev pub window_value : ℕ → ℕ → ℕ → ℕ
window_value e n l = e / 2 ^ (suc n - l) % 2 ^ l

-- Scan the bits below place i, at most f windows and zeros of them; i itself is enough. At a 1, a window: double once per bit of it, then
-- add(latest, its position). At a 0: double.
unfoldable pub slide : ℕ → ℕ → ℕ → ℕ → PartialPlan → PartialPlan
slide e d zero i b = b
slide e d (suc f) zero b = b
slide e d (suc f) (suc n) b =
    cond (eqb (bit e n) 1)
    (slide e d f (suc n - longest e n d) (add_at (odd_position (window_value e n (longest e n d))) (doubled (longest e n d) b)))
    (slide e d f n (double b))

-- scan from the top bit, at place n: the first window only sets latest to its value's position
abbrev pub scan_from : ℕ → ℕ → ℕ → List Step
scan_from e d n =
    (slide e d n (suc n - longest e n d)
    (record { steps = odd_table (table_length d); latest = odd_position (window_value e n (longest e n d)) })).steps

-- if the number is odd and below 2^d, the table stops at it (no steps for 1); otherwise the scan
unfoldable pub sliding_window_steps : ℕ → ℕ → List Step
sliding_window_steps e d =
    cond (ltb e (2 ^ d))
    (cond (eqb (e % 2) 1) (odd_table (odd_position e)) (scan_from e d (bit_length e - 1)))
    (scan_from e d (bit_length e - 1))
