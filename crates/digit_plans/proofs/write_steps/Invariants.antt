-- `digit_plans::write_steps` meets its contract: the steps of the digits from i on are written. Assumes nothing.
use mathlib.Core.Path.{◌≡◌}
use Prim.Native.Nat.{◌+◌, ◌≤◌}
use lib.ListN.{length}
use Rattle.signed_digits.specs.Bytes.{string_of}
use Rattle.methods.specs.DigitSteps.{digit_steps}
use Rattle.plan_writing.proofs.Underway.{Underway}
use Rattle.digit_plans.proofs.Digits.{at_place}
use Rattle.digit_plans.proofs.write_steps.Given as goal

abbrev pub invariant-loop-i : goal.invariant-loop-i
invariant-loop-i l =
    Underway l.initial.out l.out l.c (at_place (string_of l.digits)) l.i (digit_steps 0 (string_of l.digits)) × (l.i + 1 ≤ length l.digits) × (length l.out ≡ length l.initial.out)
