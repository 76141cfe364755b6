-- The largest size among the values of a plan, those below zero included, and how many bits it has.
use Rattle.std.specs.Prelude.{ℕ, max, List, [], ◌∷◌, ℤ, nat_abs}
use Rattle.integers.specs.Bits.{bit_length}
use Rattle.chains.specs.Steps.{Step}
use Rattle.chains.specs.Values.{values_of}

unfoldable pub largest : List ℤ → ℕ
largest [] = 0
largest (z ∷ values) = max (nat_abs z) (largest values)

-- over all positions, from position 0, which holds 1, to the last
unfoldable pub largest_bits : List Step → ℕ
largest_bits steps = bit_length (largest (values_of steps))
