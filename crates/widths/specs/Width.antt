-- Which widths a wide call takes: the one definition of its refusal 3, and of what comes after it for a digit string of that width.
use Rattle.rules.specs.declared.Refusal.{Refusal}
use Rattle.std.specs.Prelude.{ℕ, ◌≤◌, cond, ◌||◌, List, ltb, Result, Ok, Err}
use Rattle.rules.specs.Limits.{least_width, largest_width}
use Rattle.rules.specs.Outcome.{and_then}
use Rattle.rules.specs.declared.Refusal.TheVariants.{MethodOrWidth}
use Rattle.digit_strings.specs.Admission.{string_verdict}

-- a width from the least to the largest
pub record AllowedWidth (w : ℕ) : Type 0 where
  pub least : least_width ≤ w
  pub most : w ≤ largest_width

-- 3 for any other
unfoldable pub width_verdict : ℕ → Result Unit Refusal
width_verdict w = cond (ltb w least_width || ltb largest_width w) (Err MethodOrWidth) (Ok tt)

-- of a call that is handed a digit string and its width: 3 before all else, then 5 and 4
abbrev pub wide_verdict : ℕ → List ℕ → Result Unit Refusal
wide_verdict w string = and_then (width_verdict w) (string_verdict w string)
