-- Method 5, the NAF of width w. The table of odd multiples for w - 1 bits, then as method 4 over the digits of width w: double; for a digit v above zero
-- add(latest, position of v), for -v below zero subtract(latest, position of v).
use Rattle.std.specs.Prelude.{ℕ, ◌-◌, ◌%◌, ◌^◌, ◌&&◌, cond, List, ltb, eqb, pos}
use Rattle.signed_digits.specs.Naf.{naf}
use Rattle.chains.specs.Steps.{Step}
use Rattle.methods.specs.OddMultiples.{odd_position, table_length}
use Rattle.methods.specs.DigitSteps.{digit_steps}

-- how many steps of the table come first: it is cut at the number if that is odd and below 2^(w-1) (no steps for 1), and whole for any other
unfoldable pub wide_table : ℕ → ℕ → ℕ
wide_table e w = cond (eqb (e % 2) 1 && ltb e (2 ^ (w - 1))) (odd_position e) (table_length (w - 1))

unfoldable pub wide_naf_steps : ℕ → ℕ → List Step
wide_naf_steps e w = digit_steps (wide_table e w) (naf w (pos e))
