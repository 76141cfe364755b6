-- `reading_digits::size_of` meets its contract: after k turns the k low bytes stand. Assumes nothing.
use mathlib.Core.Path.{◌≡◌}
use Prim.Native.Nat.{◌<◌, ◌*◌}
use lib.ListN.{length}
use Rattle.reading_digits.proofs.Size.{Subtracted}
use Rattle.reading_digits.proofs.size_of.Given as goal

abbrev pub invariant-loop-k : goal.invariant-loop-k
invariant-loop-k l =
    (l.carry < 256) × (length l.size ≡ length l.initial.size) × Subtracted l.largest l.digits l.sign l.size (8 * l.k) l.k l.carry
