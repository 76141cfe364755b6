-- A plan that is being written: what stands in the buffer, and where the cursor is, for a plan in the making.
use Rattle.std.specs.Prelude.{◌≡◌, List, ◌++◌, ℕ, ◌*◌, length, drop}
use Rattle.rules.specs.Limits.{step_bytes}
use Rattle.chains.specs.Steps.{Step, plan_bytes_of}
use Rattle.methods.specs.PartialPlan.{PartialPlan}
use Rattle.plan_writing.specs.declared.Cursor.{Cursor}

-- the steps so far stand at the start of what was lent, and the bytes above are as they were
pub record Writing (lent : List ℕ) (now : List ℕ) (c : Cursor) (b : PartialPlan) : Type 0 where
  pub steps : c.steps ≡ length b.steps
  pub latest : c.latest ≡ b.latest
  pub bytes : now ≡ plan_bytes_of b.steps ++ drop (step_bytes * length b.steps) lent

abbrev pub step_with : ℕ → ℕ → ℕ → Step
step_with operation j k = record { operation = operation; first = j; second = k }
