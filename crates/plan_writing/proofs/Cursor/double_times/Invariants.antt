-- `plan_writing::Cursor::double_times` meets its contract: this many doublings are written. Assumes nothing.
use mathlib.Core.Path.{◌≡◌}
use mathlib.Core.List.{List}
use Prim.Native.Nat.{ℕ, ◌≤◌, ◌+◌}
use lib.ListN.{length}
use Rattle.methods.specs.PartialPlan.{PartialPlan, doubled}
use Rattle.plan_writing.specs.Writing.{Writing}
use Rattle.plan_writing.proofs.Cursor.double_times.Given as goal

abbrev pub invariant-loop : goal.invariant-loop
invariant-loop l = (l.counter ≤ l.n) × (length l.out ≡ length l.initial.out) × (l.last.steps ≡ l.initial.last.steps + l.counter) × ((lent : List ℕ) (b : PartialPlan) → Writing lent l.initial.out l.initial.last b → Writing lent l.out l.last (doubled l.counter b))
