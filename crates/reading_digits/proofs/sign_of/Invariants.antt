-- `reading_digits::sign_of` meets its contract: the value is what the digits passed come to, raised by the largest. Assumes nothing.
use Prim.Native.Nat.{◌*◌, ◌≤◌}
use lib.ListN.{length}
use Rattle.reading_digits.proofs.Backward.{Front}
use Rattle.reading_digits.proofs.Sign.{Comes}
use Rattle.reading_digits.proofs.sign_of.Given as goal

abbrev pub invariant-loop-digit : goal.invariant-loop-digit
invariant-loop-digit l =
    let left = length l.digit-iterator.iter.rest.now in
    (goal.iterator-loop-digit).can_next l.digit-iterator × (goal.iterator-loop-digit).is_finite l.digit-iterator
    × (left ≤ length l.digits) × (l.value ≤ 2 * l.largest) × Front l.digits l.digit-iterator.iter.rest.now × Comes l.largest l.digits (length l.digits) left l.largest l.value
