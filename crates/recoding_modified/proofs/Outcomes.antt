-- What recode modified writes, for its own proof. Assumes nothing.
use mathlib.Core.Path.{◌≡◌}
use mathlib.Core.List.{List}
use Prim.Native.Nat.{ℕ}
use lib.ListN.{length, length-map}
use Rattle.integers.specs.Positional.{bytes_value}
use Rattle.signed_digits.specs.Modified.{modified}
use Rattle.signed_digits.specs.Bytes.{digit_byte}
use Rattle.recoding_modified.specs.RecodeModified.{modified_recoding}

-- a byte a digit
pub length_recoding : (number : List ℕ) → length (modified_recoding number) ≡ length (modified (bytes_value number))
unfolding modified_recoding
length_recoding number = length-map (modified (bytes_value number)) digit_byte
