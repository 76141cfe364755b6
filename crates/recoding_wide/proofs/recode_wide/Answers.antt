-- `recoding_wide::recode_wide` meets its contract: the buffer that the digits are written into is blank. Assumes nothing.
use Prim.Native.Nat.{◌+◌, ◌*◌}
use Rattle.rules.specs.Limits.{number_bytes}
use Rattle.wide_digits.proofs.Padded.{zeros_blank}
use Rattle.recoding_wide.proofs.recode_wide.Goals as goal

pub recoded-length-requires-clause-blank : goal.recoded-length-requires-clause-blank
recoded-length-requires-clause-blank c = zeros_blank (8 * number_bytes + 1)
