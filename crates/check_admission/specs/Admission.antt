-- Check, before the steps (docs/RULES.md, "Calls"): refusals 1, 13, 2, 7 and 8, in this order.
use Rattle.rules.specs.declared.Refusal.{Refusal}
use Rattle.std.specs.Prelude.{ℕ, ◌+◌, ◌*◌, ◌/◌, ◌%◌, Bool, not, ◌||◌, cond, List, ltb, eqb, Result, Ok, Err}
use Rattle.rules.specs.Limits.{step_bytes, plan_steps, record_bytes}
use Rattle.rules.specs.Outcome.{and_then}
use Rattle.rules.specs.declared.Refusal.TheVariants.{PlanLength, WorkSpaceTooShort}
use Rattle.numbers.specs.Admission.{positive_verdict}

-- the room that the records of a plan of this many bytes take: record 0 and one for each step
abbrev pub room_for : ℕ → ℕ
room_for planLength = record_bytes * (planLength / step_bytes + 1)

-- the plan's bytes are no whole number of steps, or too many
abbrev pub is_wrong_length : ℕ → Bool
is_wrong_length planLength = not (eqb (planLength % step_bytes) 0) || ltb (step_bytes * plan_steps) planLength

unfoldable pub admission : List ℕ → ℕ → ℕ → Result Unit Refusal
admission number planLength room =
    and_then (positive_verdict number)
    (cond (is_wrong_length planLength) (Err PlanLength)
    (cond (ltb room (room_for planLength)) (Err WorkSpaceTooShort) (Ok tt)))
