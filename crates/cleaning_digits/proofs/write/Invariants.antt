-- `cleaning_digits::write` meets its contract: after i turns the first i digits stand. Assumes nothing.
use mathlib.Core.Path.{◌≡◌}
use mathlib.Core.List.{◌++◌}
use Prim.Native.Nat.{◌≤◌}
use lib.ListN.{length, drop}
use Rattle.integers.specs.Tabulate.{tabulate}
use Rattle.signed_digits.specs.Naf.{canonical}
use Rattle.digit_strings.specs.Admission.{string_value}
use Rattle.digit_strings.specs.Places.{place_byte}
use Rattle.cleaning_digits.specs.Sums.{sum_at}
use Rattle.cleaning_digits.proofs.write.Given as goal

abbrev pub invariant-loop-i : goal.invariant-loop-i
invariant-loop-i l =
    (length l.out ≡ length l.initial.out) × (l.sum ≤ 4) × (l.out ≡ tabulate (place_byte (canonical (string_value l.digits))) l.i ++ drop l.i l.initial.out) × (l.sum ≡ sum_at l.digits l.i)
