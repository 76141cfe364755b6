-- Method 4, NAF. From the canonical digit below the top down: double; for 1 add(latest, 0); for minus 1 subtract(latest, 0).
use Rattle.std.specs.Prelude.{ℕ, List, pos}
use Rattle.signed_digits.specs.Naf.{canonical}
use Rattle.chains.specs.Steps.{Step}
use Rattle.methods.specs.DigitSteps.{digit_steps}

-- the steps of the canonical digits with no table: they are 0, 1 and minus 1, the top one is 1, and 1 stands at position 0
unfoldable pub naf_steps : ℕ → List Step
naf_steps e = digit_steps 0 (canonical (pos e))
