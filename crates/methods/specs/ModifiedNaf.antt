-- Method 6, modified NAF: method 4's rule on the modified form. From the digit below the top down: double; for 1 add(latest, 0); for minus 1 subtract(latest, 0).
use Rattle.std.specs.Prelude.{ℕ, List}
use Rattle.signed_digits.specs.Modified.{modified}
use Rattle.chains.specs.Steps.{Step}
use Rattle.methods.specs.DigitSteps.{digit_steps}

-- no table: the digits are 0, 1 and minus 1, the top one is 1, and 1 stands at position 0
unfoldable pub modified_naf_steps : ℕ → List Step
modified_naf_steps e = digit_steps 0 (modified e)
