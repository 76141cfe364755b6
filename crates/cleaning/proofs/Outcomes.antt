-- What clean writes, the form by its places, for its own proof. Assumes nothing.
use mathlib.Core.Path.{◌≡◌}
use mathlib.Core.List.{List, ◌++◌}
use Prim.Native.Nat.{ℕ}
use lib.ListN.{length, drop, length-map}
use Rattle.integers.specs.Tabulate.{tabulate}
use Rattle.signed_digits.specs.Naf.{naf, canonical, canonical_width}
use Rattle.signed_digits.specs.Bytes.{digit_byte}
use Rattle.digit_strings.specs.Admission.{string_value}
use Rattle.digit_strings.specs.Places.{place_byte}
use Rattle.digit_strings.proofs.Places.{places_written}
use Rattle.cleaning.specs.Clean.{cleaning_of, cleaning}

-- a byte a digit
pub length_cleaning_of : (w : ℕ) (s : List ℕ) → length (cleaning_of w s) ≡ length (naf w (string_value s))
unfolding cleaning_of
length_cleaning_of w s = length-map (naf w (string_value s)) digit_byte

pub length_cleaning : (s : List ℕ) → length (cleaning s) ≡ length (canonical (string_value s))
length_cleaning s = length_cleaning_of canonical_width s

-- the bytes of all its places are the string
pub cleaning_written : (s out : List ℕ) {n : ℕ} → n ≡ length (canonical (string_value s)) → tabulate (place_byte (canonical (string_value s))) n ++ drop n out ≡ cleaning s ++ drop n out
unfolding cleaning_of
cleaning_written s = places_written (canonical (string_value s))
