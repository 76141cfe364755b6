-- `hexadecimal::digit_at` meets its contract. Assumes nothing.
use native.Mathlib.Omega.{arith}
use Rattle.hexadecimal.proofs.Value.{digit_here}
use Rattle.hexadecimal.proofs.digit_at.Goals as goal

pub overflow_mul-result : goal.overflow_mul-result
overflow_mul-result c =
    let here = digit_here c.args.text.now c.args.place c.requires.text_value c.requires.place_in_bounds in
    omega arith

pub overflow_add-result : goal.overflow_add-result
overflow_add-result c =
    let here = digit_here c.args.text.now c.args.place c.requires.text_value c.requires.place_in_bounds in
    omega arith

pub returns : goal.returns
returns c =
    let here = digit_here c.args.text.now c.args.place c.requires.text_value c.requires.place_in_bounds in
    (here.0, omega arith)
