-- `step_words::position_before` meets its contract: the digits passed, and their number. Assumes nothing.
use mathlib.Core.Path.{◌≡◌}
use Prim.Native.Nat.{◌<◌, ◌+◌}
use lib.ListN.{take, drop}
use Rattle.decimal.specs.Decimal.{leading, decimal_value}
use Rattle.step_words.specs.Word.{position_limit}
use Rattle.step_words.proofs.position_before.Given as goal

abbrev pub invariant-loop-digits : goal.invariant-loop-digits
invariant-loop-digits l = (leading l.text ≡ l.digits + leading (drop l.digits l.text)) × (l.value ≡ decimal_value (take l.digits l.text)) × (l.value < position_limit)
