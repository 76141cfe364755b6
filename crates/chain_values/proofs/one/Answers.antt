-- `chain_values::one` meets its contract. Assumes nothing.
use mathlib.Core.Path.{refl}
use Rattle.integers.specs.Positional.{positional}
use Rattle.chain_values.proofs.one.Goals as goal

pub returns : goal.returns
unfolding positional
returns c = refl
