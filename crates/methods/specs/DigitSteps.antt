-- The steps of a signed digit string over a table of odd multiples. Methods that recode a number into signed digits are cases of it.
use Rattle.std.specs.Prelude.{ℕ, zero, suc, ◌-◌, List, ℤ, pos, negsuc, nat_abs, length}
use Rattle.signed_digits.specs.Strings.{digit_at}
use Rattle.chains.specs.Steps.{Step}
use Rattle.methods.specs.PartialPlan.{PartialPlan, double, add_at, subtract_at, down_from}
use Rattle.methods.specs.OddMultiples.{odd_table, odd_position}

-- double; for a digit v above zero add(latest, position of v), for -v below zero subtract(latest, position of v)
abbrev pub at_digit : ℤ → PartialPlan → PartialPlan
at_digit (pos zero) b = double b
at_digit (pos (suc n)) b = add_at (odd_position (suc n)) (double b)
at_digit (negsuc n) b = subtract_at (odd_position (suc n)) (double b)

-- the first n steps of the table, and latest at the position of the top digit
abbrev pub at_top : ℕ → List ℤ → PartialPlan
at_top n ds = record { steps = odd_table n; latest = odd_position (nat_abs (digit_at ds (length ds - 1))) }

-- then from the digit below the top down
unfoldable pub digit_steps : ℕ → List ℤ → List Step
digit_steps n ds = (down_from (λ i b. at_digit (digit_at ds i) b) (length ds - 1) (at_top n ds)).steps
