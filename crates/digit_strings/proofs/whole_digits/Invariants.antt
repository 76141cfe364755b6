-- `digit_strings::whole_digits` meets its contract: the bytes below i are digits. Assumes nothing.
use Prim.Native.Nat.{◌-◌, ◌≤◌}
use lib.ListN.{length}
use Rattle.digit_strings.specs.Admission.{digit_up_to}
use Rattle.digit_strings.specs.Internal.{PassFor}
use Rattle.digit_strings.proofs.whole_digits.Given as goal

abbrev pub invariant-loop-i : goal.invariant-loop-i
invariant-loop-i l = PassFor (digit_up_to l.largest) l.digits 0 l.i × (l.i ≤ length l.digits)

abbrev pub decreases-loop-i : goal.decreases-loop-i
decreases-loop-i l = length l.digits - l.i
