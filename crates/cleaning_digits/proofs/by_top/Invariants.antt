-- `cleaning_digits::by_top` meets its contract: the sum at i lies from `low` to `high`. Assumes nothing.
use Prim.Native.Nat.{◌≤◌, ◌-◌}
use Rattle.cleaning_digits.specs.Sums.{sum_at}
use Rattle.cleaning_digits.proofs.by_top.Given as goal

abbrev pub invariant-loop-low : goal.invariant-loop-low
invariant-loop-low l = (l.i ≤ l.n) × (l.low ≤ 4) × (l.high ≤ 4) × (l.low ≤ sum_at l.digits l.i) × (sum_at l.digits l.i ≤ l.high)

abbrev pub decreases-loop-low : goal.decreases-loop-low
decreases-loop-low l = l.n - l.i
