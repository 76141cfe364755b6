-- `method_sliding_windows::later_windows` meets its contract: the windows from place i on are counted. Assumes nothing.
use mathlib.Core.Path.{◌≡◌}
use Prim.Native.Nat.{◌+◌, ◌≤◌}
use Rattle.integers.specs.Positional.{words_value}
use Rattle.methods.specs.Forecast.{later_windows}
use Rattle.method_sliding_windows.proofs.later_windows.Given as goal

abbrev pub invariant-loop-i : goal.invariant-loop-i
invariant-loop-i l =
    (l.i ≤ l.below) × (l.windows + l.i ≤ l.below) × (l.windows + later_windows (words_value l.words) l.width l.i l.i ≡ later_windows (words_value l.words) l.width l.below l.below)

abbrev pub decreases-loop-i : goal.decreases-loop-i
decreases-loop-i l = l.i
