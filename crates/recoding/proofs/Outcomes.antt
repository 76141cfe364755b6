-- What recode writes, for its own proof. Assumes nothing.
use mathlib.Core.Path.{◌≡◌}
use mathlib.Core.List.{List, ◌++◌}
use Prim.Native.Nat.{ℕ}
use lib.IntN.{pos}
use lib.ListN.{length, drop, length-map}
use Rattle.integers.specs.Positional.{bytes_value}
use Rattle.integers.specs.Tabulate.{tabulate}
use Rattle.signed_digits.specs.Naf.{canonical}
use Rattle.signed_digits.specs.Bytes.{digit_byte}
use Rattle.digit_strings.specs.Places.{place_byte}
use Rattle.digit_strings.proofs.Places.{places_written}
use Rattle.recoding.specs.Recode.{recoding_of, recoding}

-- a byte a digit
pub length_recoding : (number : List ℕ) → length (recoding number) ≡ length (canonical (pos (bytes_value number)))
unfolding recoding_of
length_recoding number = length-map (canonical (pos (bytes_value number))) digit_byte

-- the bytes of all its places are the string
pub recoding_written : (number out : List ℕ) {n : ℕ} → n ≡ length (canonical (pos (bytes_value number)))
    → tabulate (place_byte (canonical (pos (bytes_value number)))) n ++ drop n out ≡ recoding number ++ drop n out
unfolding recoding_of
recoding_written number = places_written (canonical (pos (bytes_value number)))
