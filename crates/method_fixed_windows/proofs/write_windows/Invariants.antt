-- `method_fixed_windows::write_windows` meets its contract: the table and the steps of the windows from i on are written. Assumes nothing.
use mathlib.Core.Path.{◌≡◌}
use mathlib.Core.List.{List}
use Prim.Native.Nat.{ℕ, ◌≤◌, ◌-◌, ◌^◌}
use lib.ListN.{length}
use Rattle.integers.specs.Positional.{bytes_value}
use Rattle.methods.specs.PartialPlan.{PartialPlan}
use Rattle.methods.specs.FixedWindows.{window, at_fixed_window, window_steps}
use Rattle.methods.proofs.FixedWindows.{multiplied}
use Rattle.plan_writing.specs.Writing.{Writing}
use Rattle.plan_writing.proofs.Underway.{Underway}
use Rattle.method_fixed_windows.proofs.write_windows.Given as goal

-- the steps of window i
abbrev pub window_at : List ℕ → ℕ → ℕ → PartialPlan → PartialPlan
window_at number width i b = at_fixed_window width (window (bytes_value number) width i) b

-- the table, and the latest at the value of the top window
abbrev pub tabled : List ℕ → ℕ → ℕ → PartialPlan
tabled number width top = multiplied (2 ^ width - 2) (window (bytes_value number) width top - 1)

abbrev pub invariant-loop-i : goal.invariant-loop-i
invariant-loop-i l =
    (l.i ≤ l.top) × (length l.out ≡ length l.initial.out) × ((lent : List ℕ) → Writing lent l.initial.out l.initial.c (tabled l.number l.width l.top) → Underway lent l.out l.c (window_at l.number l.width) l.i (window_steps (bytes_value l.number) l.width))
