-- `reading_digits::raised_sum` meets its contract: the sum is that of the digits passed. Assumes nothing.
use mathlib.Core.Path.{◌≡◌}
use Prim.Native.Nat.{◌≤◌, ◌-◌, ◌*◌}
use lib.ListN.{length}
use Rattle.reading_digits.specs.Sums.{raised_sum}
use Rattle.reading_digits.proofs.Backward.{Front}
use Rattle.reading_digits.proofs.raised_sum.Given as goal

abbrev pub invariant-loop-digit : goal.invariant-loop-digit
invariant-loop-digit l =
    let left = length l.digit-iterator.iter.rest.now in
    (goal.iterator-loop-digit).can_next l.digit-iterator × (goal.iterator-loop-digit).is_finite l.digit-iterator
    × (l.sum ≤ 2 * (127 * 255)) × Front l.digits l.digit-iterator.iter.rest.now × (l.sum ≡ raised_sum l.largest l.digits left (length l.digits - left))
