-- `cleaning_digits::raised_at` meets its contract. Assumes nothing.
use mathlib.Core.Path.{◌≡◌}
use Prim.Native.Nat.{◌+◌, ◌%◌}
use native.Mathlib.Omega.{arith}
use Rattle.cleaning_digits.specs.Sums.{raised_at}
use Rattle.cleaning_digits.proofs.Places.{raised_small}
use Rattle.cleaning_digits.proofs.raised_at.Goals as goal

pub returns : goal.returns
unfolding raised_at
returns c =
    let given = c.bytes.ensures.digit_string in
    let e : (c.byte_at.result + 1) % 256 ≡ raised_at c.args.digits.now c.args.i = rw (c.byte_at.ensures.0, c.bytes.ensures.value) in
    record { value = (e, omega (arith, e, raised_small c.args.digits.now given c.args.i)); digit_string = given }
