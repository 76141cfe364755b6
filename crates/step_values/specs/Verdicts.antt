-- The verdict on one step, tested for 9 before 10 or 11 (docs/RULES.md, "Refusals"), and what it leaves in the work space.
use Rattle.rules.specs.declared.Refusal.{Refusal}
use Rattle.std.specs.Prelude.{ℕ, ◌+◌, ◌*◌, ltb, eqb, leb, ℤ, nat_abs, length, get_or, Bool, ◌&&◌, cond, List, [], ◌∷◌, ◌++◌, ◌≡◌, Result, Ok, Err}
use Rattle.chains.specs.Steps.{Step, subtracting}
use Rattle.chains.specs.Values.{step_value}
use Rattle.chains.specs.Sound.{WellFormed}
use Rattle.chains.specs.Counts.{is_doubling}
use Rattle.rules.specs.Limits.{value_bound, record_bytes}
use Rattle.rules.specs.Outcome.{and_then}
use Rattle.rules.specs.declared.Refusal.TheVariants.{MalformedStep, ValueIsZero, ValueTooLarge}
use Rattle.std.specs.Int.Bits.{bit_xor}
use Rattle.records.specs.Recording.{Recording}

-- the operation is known, and both positions are below the step's own, i
unfoldable pub is_well_formed : ℕ → Step → Bool
is_well_formed i s = leb s.operation subtracting && ltb s.first i && ltb s.second i

-- 9
abbrev pub form_verdict : ℕ → Step → Result Unit Refusal
form_verdict i s = cond (is_well_formed i s) (Ok tt) (Err (MalformedStep i))

-- 10 or 11, by whether the value is zero, and whether its size is below the bound
abbrev pub value_verdict : ℕ → Bool → Bool → Result Unit Refusal
value_verdict i zero small = cond zero (Err (ValueIsZero i)) (cond small (Ok tt) (Err (ValueTooLarge i)))

-- step i = the number of values, with the values of the positions below its own
unfoldable pub step_verdict : List ℤ → Step → Result Unit Refusal
step_verdict values s =
    let i = length values in
    let z = step_value values s in
    and_then (form_verdict i s) (value_verdict i (eqb (nat_abs z) 0) (ltb (nat_abs z) value_bound))

-- a step that passes fills the next position, and any other none
abbrev pub grown : Result Unit Refusal → List ℤ → ℤ → List ℤ
grown (Ok tt) values z = values ++ (z ∷ [])
grown (Err r) values z = values

-- what a step is answered with: its refusal, or whether it is a doubling
abbrev pub step_answer : List ℤ → Step → Result Bool Refusal
step_answer values s = and_then (step_verdict values s) (Ok (is_doubling values s))

-- the answer to the step after n others, and the work space before and after it, whatever values are recorded by then
abbrev pub StepChecked : Step → ℕ → List ℕ → List ℕ → Result Bool Refusal → Type 0
StepChecked s n here next r =
    (lent : List ℕ) (values : List ℤ) → length values ≡ n + 1 → Recording lent here values
    → (r ≡ step_answer values s) × Recording lent next (grown (step_verdict values s) values (step_value values s))

-- the step after n others is well formed, the records that it names stand at a and b, and it fills record i
pub record Names (s : Step) (n a b i : ℕ) : Type 0 where
  pub formed : WellFormed (n + 1) s
  pub first : a ≡ record_bytes * s.first
  pub second : b ≡ record_bytes * s.second
  pub next : i ≡ n + 1

-- two sign bytes combined: this is the operation exactly where what is added has the sign of the first value
abbrev pub signs_at : List ℕ → ℕ → ℕ → ℕ
signs_at here a b = bit_xor (get_or here a 0) (get_or here b 0)
