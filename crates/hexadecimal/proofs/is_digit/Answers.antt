-- `hexadecimal::is_digit` meets its contract. Assumes nothing.
use mathlib.Core.Path.{◌∙◌}
use Rattle.hexadecimal.proofs.Value.{digit_law}
use Rattle.hexadecimal.proofs.is_digit.Goals as goal

pub returns : goal.returns
returns c = c.is_ascii_hexdigit.ensures.value ∙ (digit_law c.args.byte).0
