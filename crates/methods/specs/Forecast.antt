-- What gives a method's counts without its steps (docs/RULES.md, "Calls"). That they are the counts of the steps is shown in proofs/.
use Rattle.std.specs.Prelude.{ℕ, zero, suc, ◌+◌, ◌*◌, ◌-◌, ◌%◌, ◌^◌, cond, List, [], ◌∷◌, ltb, eqb, ℤ, pos, negsuc}
use Rattle.rules.specs.declared.Counts.{Counts}
use Rattle.integers.specs.Bits.{bit, bit_length}
use Rattle.chains.specs.Counts.{counts}
use Rattle.methods.specs.FixedWindows.{window, top_window}
use Rattle.methods.specs.Tables.{table_counts}
use Rattle.methods.specs.OddMultiples.{odd_position, table_length}
use Rattle.methods.specs.SlidingWindows.{longest}

-- ---- method 2

-- how many of the windows 0 to n - 1 are not zero
unfoldable pub nonzero_windows : ℕ → ℕ → ℕ → ℕ
nonzero_windows e d zero = 0
nonzero_windows e d (suc i) = nonzero_windows e d i + cond (eqb (window e d i) 0) 0 1

-- of `fixed_window_steps`: multiples alone; or the table, d doublings for each lower window, and an addition for each that is not zero
abbrev pub fixed_window_counts : ℕ → ℕ → Counts
fixed_window_counts e d =
    cond (ltb e (2 ^ d)) (table_counts (e - 1))
    (counts ((table_counts (2 ^ d - 2)).doublings + d * top_window e d) ((table_counts (2 ^ d - 2)).additions + nonzero_windows e d (top_window e d)) 0)

-- ---- method 3: the table, a doubling for each bit below the first window, an addition for each later window

-- how many windows the scan of the bits below place i meets; the recursion and the fuel f are those of `slide`
unfoldable pub later_windows : ℕ → ℕ → ℕ → ℕ → ℕ
later_windows e d zero i = 0
later_windows e d (suc f) zero = 0
later_windows e d (suc f) (suc n) =
    cond (eqb (bit e n) 1)
    (suc (later_windows e d f (suc n - longest e n d)))
    (later_windows e d f n)

-- of `scan_from`: suc n - longest e n d bits stand below the first window
abbrev pub scan_counts : ℕ → ℕ → ℕ → Counts
scan_counts e d n =
    counts ((table_counts (table_length d)).doublings + (suc n - longest e n d))
    ((table_counts (table_length d)).additions + later_windows e d n (suc n - longest e n d)) 0

-- of `sliding_window_steps`, case by case
unfoldable pub sliding_window_counts : ℕ → ℕ → Counts
sliding_window_counts e d =
    cond (ltb e (2 ^ d))
    (cond (eqb (e % 2) 1) (table_counts (odd_position e)) (scan_counts e d (bit_length e - 1)))
    (scan_counts e d (bit_length e - 1))

-- ---- methods 4 to 6: the digits above zero and those below

abbrev pub is_plus : ℤ → ℕ
is_plus (pos zero) = 0
is_plus (pos (suc n)) = 1
is_plus (negsuc n) = 0

abbrev pub is_minus : ℤ → ℕ
is_minus (pos n) = 0
is_minus (negsuc n) = 1

unfoldable pub plus_digits : List ℤ → ℕ
plus_digits [] = 0
plus_digits (d ∷ ds) = is_plus d + plus_digits ds

unfoldable pub minus_digits : List ℤ → ℕ
minus_digits [] = 0
minus_digits (d ∷ ds) = is_minus d + minus_digits ds
