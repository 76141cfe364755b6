-- Plan and forecast (docs/RULES.md, "Calls"): from number, method and width. Refusals in the order 1, 13, 2, 3, and 6 for plan.
use Rattle.methods.specs.declared.Method.{Method}
use Rattle.rules.specs.declared.Refusal.{Refusal}
use Rattle.std.specs.Prelude.{ℕ, List, [], length, Result, Ok, Err}
use Rattle.rules.specs.Memory.{written, leaves}
use Rattle.rules.specs.Outcome.{and_then}
use Rattle.rules.specs.declared.Counts.{Counts}
use Rattle.integers.specs.Positional.{bytes_value}
use Rattle.chains.specs.Steps.{Step, plan_bytes_of}
use Rattle.chains.specs.Counts.{counts_of}
use Rattle.methods.specs.Method.{steps_by}
use Rattle.requests.specs.Request.{verdict_of, request}

-- the steps that it gives for e; none if it is refused
abbrev pub chosen_steps : Result Method Refusal → ℕ → List Step
chosen_steps (Ok m) e = steps_by m e
chosen_steps (Err r) e = []

-- the steps of the plan
abbrev pub steps_for : List ℕ → ℕ → ℕ → List Step
steps_for number method width = chosen_steps (request number method width) (bytes_value number)

-- the forecast: the counts of those steps
abbrev pub forecast_answer : List ℕ → ℕ → ℕ → Result Counts Refusal
forecast_answer number method width = and_then (verdict_of (request number method width)) (Ok (counts_of (steps_for number method width)))

-- how many bytes of plan are written, or why none
abbrev pub plan_written : List ℕ → ℕ → ℕ → ℕ → Result ℕ Refusal
plan_written number method width room = written (verdict_of (request number method width)) (plan_bytes_of (steps_for number method width)) room

-- the plan's answer: the counts in place of the length
abbrev pub with_counts : Counts → Result ℕ Refusal → Result Counts Refusal
with_counts c (Ok n) = Ok c
with_counts c (Err r) = Err r

abbrev pub plan_answer : List ℕ → ℕ → ℕ → ℕ → Result Counts Refusal
plan_answer number method width room = with_counts (counts_of (steps_for number method width)) (plan_written number method width room)

-- the buffer afterwards
abbrev pub plan_buffer : List ℕ → ℕ → ℕ → List ℕ → List ℕ
plan_buffer number method width out = leaves (plan_written number method width (length out)) (plan_bytes_of (steps_for number method width)) out
