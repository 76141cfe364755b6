-- `method_fixed_windows::write` meets its contract. Assumes nothing.
use mathlib.Core.Path.{ap}
use Prim.Native.Nat.{ℕ, ◌-◌}
use native.Mathlib.Omega.{arith}
use lib.ListN.{length}
use lib.Pow.{pow_mono}
use Rattle.integers.specs.Positional.{bytes_value}
use Rattle.chains.proofs.Bytes.{length_plan}
use Rattle.methods.specs.FixedWindows.{multiples}
use Rattle.methods.proofs.FixedWindows.{length_multiples, one_window, fixed_one, fixed_more}
use Rattle.plan_writing.proofs.Multiples.{all_multiples}
use borrow.Author.Rules.{rules}
use Rattle.method_fixed_windows.proofs.write.Goals as goal

pub write_windows-requires : goal.write_windows-requires
write_windows-requires c =
    let args = c.args in
    rw c.bytes-bytes.ensures.value (record {
      top_value = search rules;
      number_nonzero = search rules;
      top_bound = search rules;
      width_in_bounds = omega (arith, ap length (fixed_more (bytes_value args.number.now) args.width (search rules) (search rules)));
    })

pub small_value-requires : goal.small_value-requires
small_value-requires c =
    let args = c.args in
    rw c.bytes-bytes.ensures.value (omega (arith, one_window (bytes_value args.number.now) args.width (search rules) (search rules), pow_mono {i = args.width} {j = 8} (search rules)))

pub write_table-requires : goal.write_table-requires
write_table-requires c =
    let args = c.args in
    let e : ℕ = bytes_value args.number.now in
    omega (arith, c.small_value.ensures, ap bytes_value c.bytes-bytes.ensures.value, ap length (fixed_one e args.width (search rules) (search rules)), length_multiples (e - 1))

pub returns-then-top-gt0 : goal.returns-then-top-gt0
returns-then-top-gt0 c =
    let args = c.args in
    rw (fixed_more (bytes_value args.number.now) args.width (search rules) (search rules)) (rw c.bytes-bytes.ensures.value at c.write_windows.ensures)

pub returns-else-top-gt0 : goal.returns-else-top-gt0
returns-else-top-gt0 c =
    let args = c.args in
    let e : ℕ = bytes_value args.number.now in
    rw (fixed_one e args.width (search rules) (search rules), length_plan (multiples (e - 1)))
    (rw (c.small_value.ensures, c.bytes-bytes.ensures.value, all_multiples (e - 1)) at c.write_table.ensures.bytes)
