-- `method_fixed_windows::nonzero_windows` meets its contract: the windows below i are counted. Assumes nothing.
use mathlib.Core.Path.{◌≡◌}
use Prim.Native.Nat.{◌≤◌}
use Rattle.integers.specs.Positional.{bytes_value}
use Rattle.methods.specs.Forecast.{nonzero_windows}
use Rattle.method_fixed_windows.proofs.nonzero_windows.Given as goal

abbrev pub invariant-loop-i : goal.invariant-loop-i
invariant-loop-i l = (l.i ≤ l.n) × (l.total ≤ l.i) × (l.total ≡ nonzero_windows (bytes_value l.number) l.width l.i)
