-- Check (docs/RULES.md, "Calls"): a plan for a number, with a lent work space. Refusals in the order 1, 13, 2, 7, 8, then the steps from the first, each
-- tested for 9 before 10 or 11, then 12.
use Rattle.rules.specs.declared.Accepted.{Accepted}
use Rattle.rules.specs.declared.Refusal.{Refusal}
use Rattle.std.specs.Prelude.{ℕ, cond, List, [], ◌∷◌, ◌++◌, ℤ, pos, length, Result, Ok, Err}
use Rattle.rules.specs.Outcome.{and_then, unless_failed}
use Rattle.rules.specs.declared.Refusal.TheVariants.{WrongEnd}
use Rattle.integers.specs.Positional.{bytes_value}
use Rattle.integers.specs.Signed.{is_same}
use Rattle.check_admission.specs.Admission.{admission}
use Rattle.chains.specs.Steps.{Step, steps_of}
use Rattle.chains.specs.Values.{at, start, step_value}
use Rattle.chains.specs.Counts.{counts_of}
use Rattle.chains.specs.Largest.{largest_bits}
use Rattle.step_values.specs.Verdicts.{step_verdict}
use Rattle.records.specs.Recording.{recorded}

-- ---- all steps: the first refusal, or none; with the values recorded by then
pub record Judged : Type 0 where
  pub verdict : Result Unit Refusal
  pub values : List ℤ

abbrev pub unless : Result Unit Refusal → List ℤ → Judged → Judged
unless (Ok tt) values later = later
unless (Err r) values later = record { verdict = Err r; values = values }

unfoldable pub judge : List ℤ → List Step → Judged
judge values [] = record { verdict = (Ok tt); values = values }
judge values (s ∷ steps) = unless (step_verdict values s) values (judge (values ++ (step_value values s ∷ [])) steps)

unfoldable pub judged : List ℕ → Judged
judged plan = judge start (steps_of plan)

-- then 12: the value after all r steps is not the number
abbrev pub end_verdict : List ℕ → ℤ → ℕ → Result Unit Refusal
end_verdict number end r = cond (is_same end (pos (bytes_value number))) (Ok tt) (Err (WrongEnd r))

unfoldable pub steps_verdict : List ℕ → List ℕ → Result Unit Refusal
steps_verdict number plan =
    let r = length (steps_of plan) in
    and_then (judged plan).verdict (end_verdict number (at (judged plan).values r) r)

-- what an accepted plan is answered with: its counts, and the bits of its largest size
abbrev pub accepted_of : List Step → Accepted
accepted_of steps = record { counts = counts_of steps; largest_bits = largest_bits steps }

-- ---- the answer, and the work space: untouched at 1, 13, 2, 7 and 8; else the records of the values by then, and the bytes past these stay
abbrev pub check_answer : List ℕ → List ℕ → ℕ → Result Accepted Refusal
check_answer number plan room =
    and_then (and_then (admission number (length plan) room) (steps_verdict number plan)) (Ok (accepted_of (steps_of plan)))

abbrev pub check_space : List ℕ → List ℕ → List ℕ → List ℕ
check_space number plan space = unless_failed (λ r. space) (admission number (length plan) (length space)) (recorded (judged plan).values space)
