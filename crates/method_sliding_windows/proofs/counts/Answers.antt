-- `method_sliding_windows::counts` meets its contract. Assumes nothing.
use Prim.Native.Nat.{◌+◌, ◌*◌, ◌-◌, ◌^◌, ◌≤◌}
use native.Mathlib.Omega.{arith}
use Rattle.rules.specs.Limits.{number_bytes}
use Rattle.integers.specs.Positional.{bytes_value, words_value}
use Rattle.integers.proofs.Bits.{some_bits}
use Rattle.methods.specs.Widths.{sliding_window_bits}
use Rattle.method_sliding_windows.proofs.Scan.{InWords, in_words, counted, few}
use borrow.Author.Rules.{rules}
use Rattle.method_sliding_windows.proofs.counts.Goals.{After-bit_length, After-later_windows-windows}
use Rattle.method_sliding_windows.proofs.counts.Goals as goal

number : (c : After-bit_length) → InWords c.args.number.now c.words-words.result (c.bit_length.result - 1)
number c =
    in_words c.args.number.now c.words-words.result c.bit_length.result c.words-words.ensures.small c.words-words.ensures.positive c.words-words.ensures.value (rw c.bytes.ensures.value at c.bit_length.ensures)

-- few steps are counted
bound : (c : After-later_windows-windows) → (c.table_counts-table.result.doublings + c.start_of-start.result.below) + (c.table_counts-table.result.additions + c.later_windows-windows.result) ≤ 2 ^ sliding_window_bits + 2 * (8 * number_bytes)
bound c =
    few (words_value c.words-words.result) c.args.width (number (goal.at.After-later_windows-windows c).After-bit_length).some (search rules) c.start_of-start.result c.start_of-start.ensures c.table_counts-table.result c.later_windows-windows.result
    c.table_counts-table.ensures c.later_windows-windows.ensures (8 * number_bytes) (number (goal.at.After-later_windows-windows c).After-bit_length).few (search rules)

pub overflow_sub-bit_length : goal.overflow_sub-bit_length
overflow_sub-bit_length c = omega (arith, rw c.bytes.ensures.value at c.bit_length.ensures, some_bits (bytes_value c.args.number.now) (search rules))

pub start_of-start-requires : goal.start_of-start-requires
start_of-start-requires c =
    let h = number (goal.at.start_of-start-requires c).After-bit_length in
    record {
      words_nonzero = omega (arith, h.some);
      n_value = h.top;
      n_bound = omega (arith, h.top, h.few);
    }

pub overflow_add-result : goal.overflow_add-result
overflow_add-result c = omega (arith, bound (goal.at.overflow_add-result c).After-later_windows-windows)

pub overflow_add-result-2 : goal.overflow_add-result-2
overflow_add-result-2 c = omega (arith, bound (goal.at.overflow_add-result-2 c).After-later_windows-windows)

pub returns : goal.returns
returns c =
    rw (← (number (goal.at.returns c).After-bit_length).same)
    (counted (words_value c.words-words.result) c.args.width (number (goal.at.returns c).After-bit_length).some (search rules) c.start_of-start.result c.start_of-start.ensures c.table_counts-table.result c.later_windows-windows.result
    c.table_counts-table.ensures c.later_windows-windows.ensures)
