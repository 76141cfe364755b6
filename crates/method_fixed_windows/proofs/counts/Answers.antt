-- `method_fixed_windows::counts` meets its contract. Assumes nothing.
use mathlib.Core.Path.{◌≡◌, ap}
use Prim.Native.Nat.{ℕ, ◌+◌, ◌≤◌, ◌^◌}
use native.Mathlib.Nat.{mul-le-mul_right}
use native.Mathlib.Omega.{arith}
use lib.Pow.{pow_mono}
use borrow.Author.Tests.{lt-ltb, le-ltb}
use Rattle.rules.specs.declared.Counts.{Counts}
use Rattle.integers.specs.Positional.{bytes_value}
use Rattle.chains.specs.Counts.{total}
use Rattle.methods.specs.Widths.{fixed_window_bits}
use Rattle.methods.specs.Tables.{table_counts}
use Rattle.methods.proofs.Tables.{table_total}
use Rattle.methods.proofs.FixedWindows.{one_window, more_windows, fixed_counts}
use borrow.Author.Rules.{rules}
use Rattle.method_fixed_windows.proofs.counts.Goals as goal

-- few steps are counted
few : (t : Counts) (n : ℕ) → t ≡ table_counts n → t.doublings + t.additions ≤ n
few t n e = omega (arith, ap total e, table_total n)

pub small_value-requires : goal.small_value-requires
small_value-requires c =
    let args = c.args in
    rw c.bytes-bytes.ensures.value (omega (arith, one_window (bytes_value args.number.now) args.width (search rules) (search rules), pow_mono {i = args.width} {j = 8} (search rules)))

pub returns-then-top-eq0 : goal.returns-then-top-eq0
returns-then-top-eq0 c =
    let args = c.args in
    let e : ℕ = bytes_value args.number.now in
    rw (c.table_counts.ensures, c.small_value.ensures, c.bytes-bytes.ensures.value, fixed_counts e args.width, lt-ltb e (2 ^ args.width) (one_window e args.width (search rules) (search rules)))

pub overflow_add-result : goal.overflow_add-result
overflow_add-result c =
    let size = c.table_length.ensures in
    let bound = rw (← c.bits.ensures.value) at c.top_window-top.ensures.1 in
    omega (arith, bound, few _ _ c.table_counts-table.ensures, pow_mono {i = c.args.width} {j = fixed_window_bits} (search rules))

pub overflow_add-result-2 : goal.overflow_add-result-2
overflow_add-result-2 c =
    let width : ℕ = c.args.width in
    let top : ℕ = c.top_window-top.result in
    omega (arith, few _ _ c.table_counts-table.ensures, c.table_length.ensures, pow_mono {i = width} {j = fixed_window_bits} (search rules), mul-le-mul_right {m = 1} {n = width} top (search rules))

pub returns : goal.returns
returns c =
    let args = c.args in
    let e : ℕ = bytes_value args.number.now in
    let more : 2 ^ args.width ≤ e = more_windows e args.width (search rules) (omega (arith, c.top_window-top.ensures.0)) in
    rw (c.nonzero_windows.ensures.0, c.bits.ensures.value, c.bytes-bytes.ensures.value, c.table_counts-table.ensures, c.table_length.ensures, c.top_window-top.ensures.0, fixed_counts e args.width, le-ltb e (2 ^ args.width) more)
