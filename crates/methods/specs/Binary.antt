-- Method 1, binary. From the bit below the top bit down: double; if the bit is 1, add(latest, 0).
use Rattle.std.specs.Prelude.{ℕ, zero, suc, ◌-◌, List}
use Rattle.chains.specs.Steps.{Step}
use Rattle.methods.specs.PartialPlan.{PartialPlan, none, double, add_at, down_from}
use Rattle.integers.specs.Bits.{bit, bit_length}

abbrev pub at_bit : ℕ → PartialPlan → PartialPlan
at_bit zero b = double b
at_bit (suc one) b = add_at 0 (double b)

unfoldable pub binary_steps : ℕ → List Step
binary_steps e = (down_from (λ i b. at_bit (bit e i) b) (bit_length e - 1) none).steps
