-- `method_wide_naf::write` meets its contract: after the table, the steps of the digits from i on are written. Assumes nothing.
use mathlib.Core.Path.{◌≡◌}
use mathlib.Core.List.{List}
use Prim.Native.Nat.{ℕ, ◌+◌, ◌≤◌}
use lib.IntN.{pos}
use lib.ListN.{length}
use Rattle.integers.specs.Positional.{bytes_value}
use Rattle.signed_digits.specs.Naf.{naf}
use Rattle.methods.specs.DigitSteps.{at_top}
use Rattle.methods.specs.WideNaf.{wide_table, wide_naf_steps}
use Rattle.plan_writing.specs.Writing.{Writing}
use Rattle.plan_writing.proofs.Underway.{Underway}
use Rattle.method_wide_naf.proofs.Form.{at_place}
use Rattle.method_wide_naf.proofs.write.Given as goal

abbrev pub invariant-loop-i : goal.invariant-loop-i
invariant-loop-i l =
    (length l.out ≡ length l.initial.out) × (l.i + 1 ≤ l.length) × ((lent : List ℕ) → Writing lent l.initial.out l.initial.c (at_top (wide_table (bytes_value l.number) l.fn.width) (naf l.fn.width (pos (bytes_value l.number)))) → Underway lent l.out l.c (at_place (bytes_value l.number) l.fn.width) l.i (wide_naf_steps (bytes_value l.number) l.fn.width))
