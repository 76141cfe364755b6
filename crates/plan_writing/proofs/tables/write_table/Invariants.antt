-- `plan_writing::tables::write_table` meets its contract: i steps are written. Assumes nothing.
use mathlib.Core.Path.{◌≡◌}
use Prim.Native.Nat.{◌≤◌}
use lib.ListN.{length}
use Rattle.methods.specs.Tables.{second_of}
use Rattle.methods.proofs.Tables.{tabled}
use Rattle.plan_writing.specs.Writing.{Writing}
use Rattle.plan_writing.proofs.tables.write_table.Given as goal

abbrev pub invariant-loop-i : goal.invariant-loop-i
invariant-loop-i l = (l.i ≤ l.n) × (length l.out ≡ length l.initial.out) × (l.c.steps ≡ l.i) × Writing l.initial.out l.out l.c (tabled (second_of l.later) l.i l.i)
