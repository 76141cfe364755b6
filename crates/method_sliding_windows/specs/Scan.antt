-- Method 3 as a scan takes it: the zeros from a place down and the window below them at once.
use Rattle.std.specs.Prelude.{◌≡◌, ℕ, suc, ◌+◌, ◌*◌, ◌-◌, ◌/◌, ◌%◌, ◌^◌, ◌≤◌, cond, eqb, Option, Some, None}
use Rattle.integers.specs.Bits.{bit_length}
use Rattle.methods.specs.PartialPlan.{PartialPlan, doubled, add_at}
use Rattle.methods.specs.Forecast.{later_windows}
use Rattle.methods.specs.OddMultiples.{odd_position, table_length}
use Rattle.methods.specs.SlidingWindows.{longest, window_value, slide}
use Rattle.method_sliding_windows.specs.declared.Window.{Window}
use Rattle.method_sliding_windows.specs.declared.Taken.{Taken}
use Rattle.method_sliding_windows.specs.declared.Start.{Start}

-- the window that begins at place n, where a 1 stands
abbrev pub window_at : ℕ → ℕ → ℕ → Window
window_at e n d = record { bits = longest e n d; value = window_value e n (longest e n d) }

-- the 64 bits of e from place n down
abbrev pub bits_down : ℕ → ℕ → ℕ
bits_down e n = 2 ^ 64 * e / 2 ^ (n + 1) % 2 ^ 64

-- of 64 bits, the zeros down to the top 1, and the window that begins there
abbrev pub first_in : ℕ → ℕ → Window
first_in x d = record { bits = 64 - bit_length x + longest x (bit_length x - 1) d; value = window_value x (bit_length x - 1) (longest x (bit_length x - 1) d) }

-- a window, as the scan takes it
abbrev pub whole_window : Window → Taken
whole_window w = record { bits = w.bits; value = Some w.value }

-- for a window, add(latest, the position of its value); for zeros alone, nothing more
abbrev pub at_value : Option ℕ → PartialPlan → PartialPlan
at_value None b = b
at_value (Some v) b = add_at (odd_position v) b

abbrev pub windows_in : Option ℕ → ℕ
windows_in None = 0
windows_in (Some v) = 1

-- double once per bit, then that
abbrev pub at_sliding_window : Taken → PartialPlan → PartialPlan
at_sliding_window t b = at_value t.value (doubled t.bits b)

-- what may be taken of the bits below place i: the method goes on with those that are left
pub record Turn (e d i : ℕ) (t : Taken) : Type 0 where
  pub some : 1 ≤ t.bits
  pub within : t.bits ≤ i
  pub steps : (b : PartialPlan) → slide e d i i b ≡ slide e d (i - t.bits) (i - t.bits) (at_sliding_window t b)
  pub windows : later_windows e d i i ≡ windows_in t.value + later_windows e d (i - t.bits) (i - t.bits)

-- the steps of the table before the scan: with nothing below the first window, the number is odd and below 2^d, and the table stops at it
abbrev pub table_steps : ℕ → ℕ → ℕ → ℕ
table_steps below position d = cond (eqb below 0) position (table_length d)

-- after the first window, at place n
abbrev pub start_from : ℕ → ℕ → Window → Start
start_from n d w = record {
  below = suc n - w.bits;
  position = odd_position w.value;
  table = table_steps (suc n - w.bits) (odd_position w.value) d;
}

unfoldable pub start_of : ℕ → ℕ → Start
start_of e d = start_from (bit_length e - 1) d (window_at e (bit_length e - 1) d)
