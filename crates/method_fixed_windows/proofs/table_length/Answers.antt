-- `method_fixed_windows::table_length` meets its contract. Assumes nothing.
use native.Mathlib.Omega.{arith}
use lib.Pow.{pow_mono}
use Rattle.method_fixed_windows.proofs.table_length.Goals as goal

pub overflow_sub-result : goal.overflow_sub-result
overflow_sub-result c = omega (arith, c.power_of_two.ensures, pow_mono {i = 1} {j = c.bits.result} c.bits.ensures.range.0)
