-- `decimal::part_of` meets its contract: the number of the digits passed. Assumes nothing.
use mathlib.Core.Path.{◌≡◌}
use Prim.Native.Nat.{◌<◌, ◌^◌}
use lib.ListN.{take}
use Rattle.decimal.specs.Decimal.{decimal_value}
use Rattle.decimal.proofs.part_of.Given as goal

abbrev pub invariant-loop-digit : goal.invariant-loop-digit
invariant-loop-digit l =
    (l.value ≡ decimal_value (take l.digit-index l.digits)) × (l.power ≡ 10 ^ l.digit-index) × (l.value < l.power)
