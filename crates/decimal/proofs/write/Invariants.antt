-- `decimal::write` meets its contract: the bytes hold the number of the digits passed. Assumes nothing.
use mathlib.Core.Path.{◌≡◌}
use lib.ListN.{length}
use Rattle.decimal.proofs.Carry.{Underway}
use Rattle.decimal.proofs.write.Given as goal

abbrev pub invariant-loop-digits : goal.invariant-loop-digits
invariant-loop-digits l = (l.digits-iterator.size ≡ 16) × (length l.bytes ≡ length l.initial.bytes) × Underway l.text l.bytes l.digits-iterator.rest.now
