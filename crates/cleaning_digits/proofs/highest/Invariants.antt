-- `cleaning_digits::highest` meets its contract: `length` is the highest so far. Assumes nothing.
use mathlib.Core.Path.{◌≡◌}
use Prim.Native.Nat.{◌≤◌}
use Rattle.cleaning_digits.specs.Sums.{sum_at, Highest}
use Rattle.cleaning_digits.proofs.highest.Given as goal

abbrev pub invariant-loop-i : goal.invariant-loop-i
invariant-loop-i l = (l.sum ≤ 4) × (l.sum ≡ sum_at l.digits l.i) × Highest l.digits l.from l.i l.length
