-- Our own plans are all accepted, with the forecast's counts (docs/RULES.md, 4.12) and the bits that the method gives (5.11), and have no hidden doubling
-- (3.8). Assumes nothing.
use Rattle.std.specs.Prelude.{Ok}
use mathlib.Core.Path.{◌≡◌, refl}
use mathlib.Core.List.{List}
use Prim.Native.Nat.{ℕ, ◌≤◌}
use native.Mathlib.Omega.{arith}
use lib.ListN.{length}
use Rattle.rules.specs.Limits.{plan_steps}
use Rattle.rules.specs.Outcome.{answered, count_values, checked_values, counted_outcome, checked_outcome}
use Rattle.integers.specs.Positional.{bytes_value}
use Rattle.integers.proofs.Positional.{Below}
use Rattle.numbers.specs.Admission.{Positive}
use Rattle.chains.specs.Steps.{Step, steps_of, plan_bytes_of}
use Rattle.chains.specs.Counts.{counts_of, NoHiddenDoubling}
use Rattle.chains.specs.Largest.{largest_bits}
use Rattle.chains.proofs.Counts.{position_counts, unhidden_counts}
use Rattle.chains.proofs.Bytes.{length_plan, steps_of_plan}
use Rattle.methods.specs.declared.Method.{Method}
use Rattle.methods.specs.Method.{method_of, steps_by}
use Rattle.methods.specs.Largest.{largest_bits_by}
use Rattle.methods.proofs.Laws.{Fit, plannable}
use Rattle.methods.proofs.Every.{is_allowed, every_fit, every_unhidden, every_largest}
use Rattle.planning.specs.Plan.{forecast_answer, plan_answer}
use Rattle.planning.proofs.Promises.{forecast_answers, plan_answers}
use Rattle.check_admission.specs.Admission.{room_for}
use Rattle.checking.specs.Check.{check_answer}
use Rattle.checking.proofs.Promises.{accepts}

module _ (number : List ℕ) (bytes : Below 256 number) (positive : Positive number) (method width : ℕ) (m : Method) (asked : method_of method width ≡ Ok m) where
  -- the steps, and the plan that is written
  abbrev pub steps : List Step
  steps = steps_by m (bytes_value number)

  abbrev pub plan : List ℕ
  plan = plan_bytes_of steps

  fit : Fit steps (bytes_value number)
  fit = every_fit m (bytes_value number) (is_allowed method width asked) (plannable number bytes positive)

  -- a plan has at most as many steps as the limit
  pub few_steps : length steps ≤ plan_steps
  few_steps = fit.few

  -- the forecast, and the plan where it has room, answer the counts of those steps
  pub forecast_counts : counted_outcome (forecast_answer number method width) ≡ answered (count_values (counts_of steps))
  forecast_counts = (forecast_answers number method width (count_values (counts_of steps))).1 (m, positive, asked, refl)

  pub plan_counts : (room : ℕ) → length plan ≤ room → counted_outcome (plan_answer number method width room) ≡ answered (count_values (counts_of steps))
  plan_counts room h = (plan_answers number method width room (count_values (counts_of steps))).1 (m, positive, asked, h, refl)

  -- the plan read back is those steps
  read_steps : steps_of plan ≡ steps
  read_steps = steps_of_plan steps (λ n h. let s = fit.made.sound.formed n h in record { first = omega (arith, s.first, few_steps); second = omega (arith, s.second, few_steps) })

  -- given work space enough, check accepts it with the same counts, and with the bits that the method gives
  pub accepted : (room : ℕ) → room_for (length plan) ≤ room
      → checked_outcome (check_answer number plan room) ≡ answered (checked_values (record { counts = counts_of steps; largest_bits = largest_bits_by m (bytes_value number) }))
  accepted room h =
      let e = length_plan steps in
      let bits : largest_bits steps ≡ largest_bits_by m (bytes_value number) = every_largest m (bytes_value number) (is_allowed method width asked) (plannable number bytes positive).some in
      (accepts number plan room (checked_values (record { counts = counts_of steps; largest_bits = largest_bits_by m (bytes_value number) }))).1 (
        record { positive = positive; whole = omega arith; few = omega (arith, few_steps); fits = h },
        rw read_steps fit.made.sound,
        rw read_steps fit.made.end,
        rw (read_steps, bits),
      )

  unhidden : NoHiddenDoubling steps
  unhidden = every_unhidden m (bytes_value number) (is_allowed method width asked) (plannable number bytes positive).some

  -- no step of the plan is a hidden doubling
  pub no_hidden_doubling : NoHiddenDoubling (steps_of plan)
  no_hidden_doubling = rw read_steps unhidden

  -- so positions would give the counts that forecast, plan and check answer
  pub counts_by_positions : counts_of steps ≡ position_counts steps
  counts_by_positions = unhidden_counts steps unhidden
