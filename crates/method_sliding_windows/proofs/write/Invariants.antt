-- `method_sliding_windows::write` meets its contract: from the first window on, the scan below place i gives the rest. Assumes nothing.
use mathlib.Core.Path.{◌≡◌}
use mathlib.Core.List.{List}
use Prim.Native.Nat.{ℕ}
use lib.ListN.{length}
use Rattle.integers.specs.Positional.{words_value}
use Rattle.methods.specs.PartialPlan.{PartialPlan}
use Rattle.methods.specs.SlidingWindows.{slide}
use Rattle.plan_writing.specs.Writing.{Writing}
use Rattle.method_sliding_windows.proofs.Scan.{Sliding}
use Rattle.method_sliding_windows.proofs.write.Given as goal

abbrev pub invariant-loop-i : goal.invariant-loop-i
invariant-loop-i l =
    (length l.out ≡ length l.initial.out) × ((lent : List ℕ) (b : PartialPlan) → Writing lent l.initial.out l.initial.c b → Sliding lent l.out l.c (words_value l.words) l.width l.i (slide (words_value l.words) l.width l.initial.i l.initial.i b).steps)

abbrev pub decreases-loop-i : goal.decreases-loop-i
decreases-loop-i l = l.i
