-- `method_sliding_windows::window_in` meets its contract. Assumes nothing.
use native.Mathlib.Omega.{arith}
use lib.Count.{leading_le}
use Rattle.method_sliding_windows.proofs.Windows.{zeros_few, trailing_few, first_read}
use borrow.Author.Rules.{rules}
use Rattle.method_sliding_windows.proofs.window_in.Goals as goal

pub overflow_cast-zeros : goal.overflow_cast-zeros
overflow_cast-zeros c = omega (arith, leading_le 64 c.args.bits)

pub overflow_sub-window : goal.overflow_sub-window
overflow_sub-window c = omega (arith, leading_le 64 c.args.bits)

pub overflow_sub-window-2 : goal.overflow_sub-window-2
overflow_sub-window-2 c = omega (arith, zeros_few c.args.bits c.bits-width.result (search rules) (omega arith) (search rules) (search rules))

pub overflow_cast-trailing : goal.overflow_cast-trailing
overflow_cast-trailing c = omega (arith, trailing_few c.args.bits c.bits-width.result (search rules) (omega arith) (search rules) (search rules))

pub overflow_add-taken : goal.overflow_add-taken
overflow_add-taken c = omega (arith, leading_le 64 c.args.bits)

pub overflow_sub-taken : goal.overflow_sub-taken
overflow_sub-taken c = omega (arith, trailing_few c.args.bits c.bits-width.result (search rules) (omega arith) (search rules) (search rules))

pub overflow_shr-value : goal.overflow_shr-value
overflow_shr-value c = omega (arith, trailing_few c.args.bits c.bits-width.result (search rules) (omega arith) (search rules) (search rules))

pub returns : goal.returns
returns c = rw (← c.bits-width.ensures.value) (first_read c.args.bits c.bits-width.result (search rules) (omega arith) (search rules) (search rules))
