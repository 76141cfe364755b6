-- `recoding_words_digits::write` meets its contract: after k turns the digits of the k low words stand. Assumes nothing.
use mathlib.Core.Path.{◌≡◌}
use mathlib.Core.List.{◌++◌}
use Prim.Native.Nat.{◌-◌, ◌*◌}
use lib.IntN.{pos}
use lib.ListN.{length, drop}
use Rattle.integers.specs.Positional.{words_value}
use Rattle.integers.specs.Tabulate.{tabulate}
use Rattle.signed_digits.specs.Naf.{canonical}
use Rattle.digit_strings.specs.Places.{place_byte}
use Rattle.recoding_words_digits.proofs.write.Given as goal

abbrev pub invariant-loop-k : goal.invariant-loop-k
invariant-loop-k l =
    (length l.out ≡ length l.initial.out) × (l.out ≡ tabulate (place_byte (canonical (pos (words_value l.words)))) (64 * l.k - 1) ++ drop (64 * l.k - 1) l.initial.out)
