-- `recoding_digits::write_differences` meets its contract. Assumes nothing.
use mathlib.Core.Path.{◌≡◌, refl}
use Prim.Native.Nat.{◌*◌, ◌/◌, ◌%◌, ◌^◌}
use native.Mathlib.Omega.{arith}
use Rattle.integers.specs.Tabulate.{tabulate}
use Rattle.integers.proofs.Tabulate.{tabulate_more}
use Rattle.recoding_digits.specs.Internal.{difference}
use Rattle.recoding_digits.proofs.SpreadBits.{difference_stored}
use Rattle.recoding_digits.proofs.write_differences.Goals as goal

pub loop-j-init : goal.loop-j-init
unfolding tabulate
loop-j-init c = refl

pub loop-j-preserved : goal.loop-j-preserved
loop-j-preserved c =
    let args = c.args in
    let e : c.differences-bytes.result / 2 ^ (8 * c.loop-j.j) % 256 ≡ difference args.more args.less c.loop-j.j = rw c.differences-bytes.ensures (difference_stored args.more args.less c.loop-j.j (omega arith)) in
    rw (c.loop-j.invariant, e) (tabulate_more (difference args.more args.less) args.out.now c.loop-j.j (omega arith))
