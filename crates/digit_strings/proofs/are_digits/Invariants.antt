-- `digit_strings::are_digits` meets its contract: the bytes so far are digits, if all were. Assumes nothing.
use mathlib.Core.Path.{◌≡◌}
use mathlib.Core.Bool.{true}
use Rattle.digit_strings.specs.Admission.{digit_up_to}
use Rattle.digit_strings.specs.Internal.{PassFor}
use Rattle.digit_strings.proofs.are_digits.Given as goal

abbrev pub invariant-loop-byte : goal.invariant-loop-byte
invariant-loop-byte l = l.all ≡ true → PassFor (digit_up_to l.largest) l.block 0 l.byte-index
