-- What docs/RULES.md promises of plan and forecast, as theorems about the definitions that their statements cite. Assumes nothing.
use Rattle.std.specs.Prelude.{Result, Ok, Err}
use mathlib.Core.Path.{◌≡◌, refl, sym, ◌∙◌}
use mathlib.Core.Logic.{◌↔◌}
use mathlib.Core.List.{List, ◌++◌}
use Prim.Native.Nat.{ℕ, ◌<◌, ◌≤◌}
use lib.ListN.{length, drop}
use Rattle.rules.specs.Limits.{number_bytes}
use Rattle.rules.specs.Outcome.{Outcome, refused, answered, refusal, outcome_of, counted_outcome, count_values}
use Rattle.rules.specs.declared.Refusal.{Refusal}
use Rattle.rules.specs.declared.Refusal.TheVariants.{NumberTooLong, NumberIsZero, MethodOrWidth, HighestByteIsZero}
use Rattle.rules.proofs.Fitted.{too_small, fits, by_room}
use Rattle.rules.proofs.Memory as memory
use Rattle.integers.specs.Positional.{bytes_value}
use Rattle.numbers.specs.Admission.{Padded, Admitted, Positive}
use Rattle.numbers.proofs.Tests.{too_long, padded, refused as number_refused, is_zero}
use Rattle.chains.specs.Steps.{plan_bytes_of}
use Rattle.chains.specs.Counts.{counts_of}
use Rattle.methods.specs.declared.Method.{Method}
use Rattle.methods.specs.Method.{method_of, steps_by}
use Rattle.methods.proofs.Every.{refused_3}
use Rattle.planning.specs.Plan.{steps_for, forecast_answer, plan_written, with_counts, plan_answer, plan_buffer}
use Rattle.requests.specs.Request.{verdict_of, request}
use Rattle.requests.proofs.Requests.{Requests, stopped, chosen, requests_only, requests_one, granted}

-- the plan for a number by a method, and its three counts
abbrev pub plan_by : List ℕ → Method → List ℕ
plan_by number m = plan_bytes_of (steps_by m (bytes_value number))

abbrev pub counts_by : List ℕ → Method → List ℕ
counts_by number m = count_values (counts_of (steps_by m (bytes_value number)))

module _ (number : List ℕ) (method width : ℕ) where
  -- the refusals that both calls give, each with what it is given for
  pub data Refuses : Outcome → Type 0 where
    one : number_bytes < length number → Refuses (refused 1 0)
    thirteen : length number ≤ number_bytes → Padded number → Refuses (refused 13 0)
    two : Admitted number → bytes_value number ≡ 0 → Refuses (refused 2 0)
    three : Positive number → method_of method width ≡ Err MethodOrWidth → Refuses (refused 3 0)

  refuses_only : {o : Outcome} → Refuses o → (r : Refusal) × (request number method width ≡ Err r) × (refusal r ≡ o)
  refuses_only (one h) = (NumberTooLong, requests_only number method width (stopped (number_refused (too_long h))), refl)
  refuses_only (thirteen h p) = (HighestByteIsZero, requests_only number method width (stopped (number_refused (padded h p))), refl)
  refuses_only (two a z) = (NumberIsZero, requests_only number method width (stopped (is_zero a z)), refl)
  refuses_only (three p e) = (MethodOrWidth, requests_only number method width (chosen p e), refl)

  refuses_one : {r : Refusal} → Requests number method width (Err r) → Refuses (refusal r)
  refuses_one (stopped (number_refused (too_long h))) = one h
  refuses_one (stopped (number_refused (padded h p))) = thirteen h p
  refuses_one (stopped (is_zero a z)) = two a z
  refuses_one (chosen p e) = let q = refused_3 method width e in rw q (three p (rw q at e))

  -- ---- forecast: each refusal exactly when the rules say, and no other

  -- its outcome, in the rules' numbers
  abbrev pub forecasts : Outcome
  forecasts = counted_outcome (forecast_answer number method width)

  pub data ForecastGiven : Outcome → Type 0 where
    refuses : {o : Outcome} → Refuses o → ForecastGiven o
    counts : {vs : List ℕ} {m : Method} → Positive number → method_of method width ≡ Ok m → vs ≡ counts_by number m
        → ForecastGiven (answered vs)

  forecast_given_only : {o : Outcome} → ForecastGiven o → forecasts ≡ o
  forecast_given_only (refuses t) = let r = refuses_only t in rw r.1 r.2
  forecast_given_only (counts p c e) = rw (requests_only number method width (chosen p c), e)

  pub forecast_no_other : ForecastGiven forecasts
  forecast_no_other = go (request number method width) refl
    where
      go : (c : Result Method Refusal) → request number method width ≡ c → ForecastGiven forecasts
      go (Err r) e = rw e (refuses (refuses_one (rw e at (requests_one number method width))))
      go (Ok m) e = let g = granted number method width e in rw e (counts g.0 g.1 refl)

  forecast_given : {o : Outcome} → forecasts ≡ o → ForecastGiven o
  forecast_given e = rw e at forecast_no_other

  -- 1, place 0: the number is longer than the limit
  pub forecast_refuses_1 : forecasts ≡ refused 1 0 ↔ number_bytes < length number
  forecast_refuses_1 = (λ e. elim (forecast_given e) [ refuses (one h) ↦ h ], λ h. forecast_given_only (refuses (one h)))

  -- 13, place 0: its highest byte is zero
  pub forecast_refuses_13 : forecasts ≡ refused 13 0 ↔ (length number ≤ number_bytes) × Padded number
  forecast_refuses_13 = (λ e. elim (forecast_given e) [ refuses (thirteen h p) ↦ (h, p) ], λ h. forecast_given_only (refuses (thirteen h.0 h.1)))

  -- 2, place 0: the number is zero
  pub forecast_refuses_2 : forecasts ≡ refused 2 0 ↔ Admitted number × (bytes_value number ≡ 0)
  forecast_refuses_2 = (λ e. elim (forecast_given e) [ refuses (two a z) ↦ (a, z) ], λ h. forecast_given_only (refuses (two h.0 h.1)))

  -- 3, place 0: no such method, or a width that it does not allow
  pub forecast_refuses_3 : forecasts ≡ refused 3 0 ↔ Positive number × (method_of method width ≡ Err MethodOrWidth)
  forecast_refuses_3 = (λ e. elim (forecast_given e) [ refuses (three p c) ↦ (p, c) ], λ h. forecast_given_only (refuses (three h.0 h.1)))

  -- otherwise the counts of the method's steps are answered
  pub forecast_answers : (vs : List ℕ)
      → forecasts ≡ answered vs ↔ ((m : Method) × Positive number × (method_of method width ≡ Ok m) × (vs ≡ counts_by number m))
  forecast_answers vs = (λ e. elim (forecast_given e) [ counts {m = m} p c v ↦ (m, p, c, v) | refuses x ↦ elim x [ ] ], λ h. forecast_given_only (counts h.1 h.2 h.3))

  -- ---- plan, lent this many bytes: the same refusals, then room

  module _ (room : ℕ) where
    -- its outcome, in the rules' numbers
    abbrev pub plans : Outcome
    plans = counted_outcome (plan_answer number method width room)

    pub data PlanGiven : Outcome → Type 0 where
      refuses : {o : Outcome} → Refuses o → PlanGiven o
      six : {p : ℕ} {m : Method} → Positive number → method_of method width ≡ Ok m → room < length (plan_by number m)
          → p ≡ length (plan_by number m) → PlanGiven (refused 6 p)
      counts : {vs : List ℕ} {m : Method} → Positive number → method_of method width ≡ Ok m → length (plan_by number m) ≤ room
          → vs ≡ counts_by number m → PlanGiven (answered vs)

    plan_given_only : {o : Outcome} → PlanGiven o → plans ≡ o
    plan_given_only (refuses t) = let r = refuses_only t in rw r.1 r.2
    plan_given_only (six p c l e) = rw (requests_only number method width (chosen p c), too_small _ room l, e)
    plan_given_only (counts p c l e) = rw (requests_only number method width (chosen p c), fits _ room l, e)

    pub plan_no_other : PlanGiven plans
    plan_no_other = go (request number method width) refl
      where
        go : (c : Result Method Refusal) → request number method width ≡ c → PlanGiven plans
        go (Err r) e = rw e (refuses (refuses_one (rw e at (requests_one number method width))))
        go (Ok m) e =
            let g = granted number method width e in
            let answer : Result ℕ Refusal → Outcome = λ w. counted_outcome (with_counts (counts_of (steps_by m (bytes_value number))) w) in
            rw e (by_room (plan_by number m) room (λ w. PlanGiven (answer w)) (λ l. six g.0 g.1 l refl) (λ l. counts g.0 g.1 l refl))

    plan_given : {o : Outcome} → plans ≡ o → PlanGiven o
    plan_given e = rw e at plan_no_other

    -- 1, place 0
    pub plan_refuses_1 : plans ≡ refused 1 0 ↔ number_bytes < length number
    plan_refuses_1 = (λ e. elim (plan_given e) [ refuses (one h) ↦ h ], λ h. plan_given_only (refuses (one h)))

    -- 13, place 0
    pub plan_refuses_13 : plans ≡ refused 13 0 ↔ (length number ≤ number_bytes) × Padded number
    plan_refuses_13 = (λ e. elim (plan_given e) [ refuses (thirteen h p) ↦ (h, p) ], λ h. plan_given_only (refuses (thirteen h.0 h.1)))

    -- 2, place 0
    pub plan_refuses_2 : plans ≡ refused 2 0 ↔ Admitted number × (bytes_value number ≡ 0)
    plan_refuses_2 = (λ e. elim (plan_given e) [ refuses (two a z) ↦ (a, z) ], λ h. plan_given_only (refuses (two h.0 h.1)))

    -- 3, place 0
    pub plan_refuses_3 : plans ≡ refused 3 0 ↔ Positive number × (method_of method width ≡ Err MethodOrWidth)
    plan_refuses_3 = (λ e. elim (plan_given e) [ refuses (three p c) ↦ (p, c) ], λ h. plan_given_only (refuses (three h.0 h.1)))

    -- 6, place the bytes needed: more than lent
    pub plan_refuses_6 : (p : ℕ)
        → plans ≡ refused 6 p
        ↔ ((m : Method)
        × Positive number
        × (method_of method width ≡ Ok m)
        × (room < length (plan_by number m))
        × (p ≡ length (plan_by number m)))
    plan_refuses_6 p = (λ e. elim (plan_given e) [ six {m = m} n c l q ↦ (m, n, c, l, q) | refuses x ↦ elim x [ ] ], λ h. plan_given_only (six h.1 h.2 h.3 h.4))

    -- otherwise the counts are answered
    pub plan_answers : (vs : List ℕ)
        → plans ≡ answered vs
        ↔ ((m : Method)
        × Positive number
        × (method_of method width ≡ Ok m)
        × (length (plan_by number m) ≤ room)
        × (vs ≡ counts_by number m))
    plan_answers vs = (λ e. elim (plan_given e) [ counts {m = m} n c l q ↦ (m, n, c, l, q) | refuses x ↦ elim x [ ] ], λ h. plan_given_only (counts h.1 h.2 h.3 h.4))

  -- ---- the buffer: a refusal leaves it alone; an answer puts the plan at its start and leaves what is above

  -- plan is a call that writes; its values are the counts
  abbrev values : ℕ → List ℕ
  values n = count_values (counts_of (steps_for number method width))

  plan_writes : (room : ℕ) → plans room ≡ outcome_of values (plan_written number method width room)
  plan_writes room = go (plan_written number method width room)
    where
      go : (w : Result ℕ Refusal) → counted_outcome (with_counts (counts_of (steps_for number method width)) w) ≡ outcome_of values w
      go (Ok n) = refl
      go (Err r) = refl

  pub refused_leaves : (out : List ℕ) (n p : ℕ) → plans (length out) ≡ refused n p → plan_buffer number method width out ≡ out
  refused_leaves out n p e =
      memory.refused_leaves values (verdict_of (request number method width)) (plan_bytes_of (steps_for number method width)) out n p (sym (plan_writes (length out)) ∙ e)

  pub answered_leaves : (out vs : List ℕ) → plans (length out) ≡ answered vs
      → plan_buffer number method width out ≡ plan_bytes_of (steps_for number method width) ++ drop (length (plan_bytes_of (steps_for number method width))) out
  answered_leaves out vs e =
      memory.answered_leaves values (verdict_of (request number method width)) (plan_bytes_of (steps_for number method width)) out vs (sym (plan_writes (length out)) ∙ e)
