-- `method_fixed_windows::top_window` meets its contract. Assumes nothing.
use native.Mathlib.Omega.{arith}
use Rattle.std.proofs.lemmas.Grind.{common_steps}
use Rattle.rules.specs.Limits.{number_bytes}
use Rattle.integers.proofs.Bits.{bytes_length}
use Rattle.method_fixed_windows.proofs.top_window.Goals as goal

pub returns : goal.returns
returns c =
    let n = rw c.bytes.ensures.value at c.bit_length.ensures in
    let few = bytes_length c.args.number.now number_bytes c.bytes.ensures.small c.bytes.ensures.positive.admitted.short in
    (rw (n, c.bits.ensures.value), grind (arith, common_steps))
