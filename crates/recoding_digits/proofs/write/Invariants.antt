-- `recoding_digits::write` meets its contract: after k turns the digits of the k low bytes stand. Assumes nothing.
use mathlib.Core.Path.{◌≡◌}
use mathlib.Core.List.{◌++◌}
use Prim.Native.Nat.{◌*◌}
use lib.IntN.{pos}
use lib.ListN.{length, drop}
use Rattle.integers.specs.Positional.{bytes_value}
use Rattle.integers.specs.Tabulate.{tabulate}
use Rattle.signed_digits.specs.Naf.{canonical}
use Rattle.digit_strings.specs.Places.{place_byte}
use Rattle.recoding_digits.specs.Internal.{triple_carry}
use Rattle.recoding_digits.proofs.write.Given as goal

abbrev pub invariant-loop-k : goal.invariant-loop-k
invariant-loop-k l =
    (length l.out ≡ length l.initial.out) × (l.carry ≡ triple_carry (bytes_value l.number) l.k) × (l.out ≡ tabulate (place_byte (canonical (pos (bytes_value l.number)))) (8 * l.k) ++ drop (8 * l.k) l.initial.out)
