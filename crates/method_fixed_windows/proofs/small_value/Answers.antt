-- `method_fixed_windows::small_value` meets its contract. Assumes nothing.
use mathlib.Core.Path.{◌∙◌}
use Rattle.integers.proofs.Positional.{positional_low}
use Rattle.method_fixed_windows.proofs.small_value.Goals as goal

pub returns : goal.returns
returns c =
    c.byte_at.ensures.0 ∙ positional_low 256 c.args.number.now (λ i. (c.type_inv.number i).fits) c.requires
