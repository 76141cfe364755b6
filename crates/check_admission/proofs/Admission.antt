-- Refusals 1, 13, 2, 7 and 8, each by what it is given for. Assumes nothing.
use Rattle.std.specs.Prelude.{Result, Ok, Err}
use mathlib.Core.Path.{◌≡◌, refl}
use mathlib.Core.Logic.{◌↔◌, ◌≢◌, ◌⊎◌, inl, inr}
use mathlib.Core.Bool.{Bool, true, false, not, ◌||◌}
use mathlib.Core.List.{List}
use Prim.Native.Nat.{ℕ, ◌*◌, ◌%◌, ◌<◌, ◌≤◌}
use borrow.Author.Tests.{lt-ltb, le-ltb, eq-eqb, ne_eqb}
use native.Mathlib.Decide.{dec_lt, ℕ_discrete}
use native.Mathlib.Omega.{arith}
use lib.Dec.{eqb}
use Rattle.rules.specs.Limits.{step_bytes, plan_steps}
use Rattle.rules.specs.declared.Refusal.{Refusal}
use Rattle.rules.specs.declared.Refusal.TheVariants.{PlanLength, WorkSpaceTooShort}
use Rattle.numbers.specs.Admission.{positive_verdict, Positive}
use Rattle.numbers.proofs.Tests.{PositiveTest, positive, positive_only, positive_test}
use Rattle.check_admission.specs.Admission.{room_for, is_wrong_length, admission}

-- none of 1, 13, 2, 7 and 8
pub record Checkable (number : List ℕ) (planLength room : ℕ) : Type 0 where
  pub positive : Positive number
  pub whole : planLength % step_bytes ≡ 0
  pub few : planLength ≤ step_bytes * plan_steps
  pub fits : room_for planLength ≤ room

either : (t : Bool) → t || true ≡ true
either true = refl
either false = refl

module _ (number : List ℕ) (planLength room : ℕ) where
  -- what the tests before the steps come to
  pub data Admits : Result Unit Refusal → Type 0 where
    number_refused : {r : Refusal} → PositiveTest number (Err r) → Admits (Err r)
    plan_length : Positive number → (planLength % step_bytes ≢ 0) ⊎ (step_bytes * plan_steps < planLength) → Admits (Err PlanLength)
    space_too_short : Positive number → planLength % step_bytes ≡ 0 → planLength ≤ step_bytes * plan_steps → room < room_for planLength → Admits (Err WorkSpaceTooShort)
    checkable : Checkable number planLength room → Admits (Ok tt)

  pub admits_only : {v : Result Unit Refusal} → Admits v → admission number planLength room ≡ v
  unfolding admission
  admits_only (number_refused t) = rw (positive_only number t)
  admits_only (plan_length p (inl w)) = rw (positive_only number (positive p), ne_eqb _ _ w)
  admits_only (plan_length p (inr m)) = rw (positive_only number (positive p), lt-ltb _ _ m, either (not (eqb (planLength % step_bytes) 0)))
  admits_only (space_too_short p w f l) = rw (positive_only number (positive p), eq-eqb _ _ w, le-ltb _ _ f, lt-ltb _ _ l)
  admits_only (checkable c) = rw (positive_only number (positive c.positive), eq-eqb _ _ c.whole, le-ltb _ _ c.few, le-ltb _ _ c.fits)

  pub admits : Admits (admission number planLength room)
  admits = go (positive_verdict number) (positive_test number) (ℕ_discrete (planLength % step_bytes) 0) (dec_lt (step_bytes * plan_steps) planLength) (dec_lt room (room_for planLength))
    where
      be : {v : Result Unit Refusal} → Admits v → Admits (admission number planLength room)
      be a = rw (admits_only a) a

      go : (v : Result Unit Refusal) → PositiveTest number v → Dec (planLength % step_bytes ≡ 0) → Dec (step_bytes * plan_steps < planLength) → Dec (room < room_for planLength)
          → Admits (admission number planLength room)
      go (Err r) t _ _ _ = be (number_refused t)
      go (Ok tt) (positive p) (no w) _ _ = be (plan_length p (inl w))
      go (Ok tt) (positive p) (yes w) (yes m) _ = be (plan_length p (inr m))
      go (Ok tt) (positive p) (yes w) (no f) (yes l) = be (space_too_short p w (omega arith) l)
      go (Ok tt) (positive p) (yes w) (no f) (no l) = be (checkable (record { positive = p; whole = w; few = omega arith; fits = omega arith }))

  pub checkable_is : admission number planLength room ≡ Ok tt ↔ Checkable number planLength room
  checkable_is = (λ e. elim (rw e at admits) [ checkable c ↦ c ], λ c. admits_only (checkable c))

-- ---- what the code's tests say, one after the other

pub length_refused : (number : List ℕ) (planLength room : ℕ) → positive_verdict number ≡ Ok tt → is_wrong_length planLength ≡ true → admission number planLength room ≡ Err PlanLength
unfolding admission
length_refused number planLength room passed wrong = rw (passed, wrong)

pub space_refused : (number : List ℕ) (planLength room : ℕ) → positive_verdict number ≡ Ok tt → is_wrong_length planLength ≡ false → room < room_for planLength
    → admission number planLength room ≡ Err WorkSpaceTooShort
unfolding admission
space_refused number planLength room passed right short = rw (passed, right, lt-ltb room (room_for planLength) short)

pub all_passed : (number : List ℕ) (planLength room : ℕ) → positive_verdict number ≡ Ok tt → is_wrong_length planLength ≡ false → room_for planLength ≤ room
    → admission number planLength room ≡ Ok tt
unfolding admission
all_passed number planLength room passed right enough = rw (passed, right, le-ltb room (room_for planLength) enough)
