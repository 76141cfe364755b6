-- A digit string by the bytes of its places.
use Rattle.std.specs.Prelude.{ℕ, List, ℤ}
use Rattle.signed_digits.specs.Strings.{digit_at}
use Rattle.signed_digits.specs.Bytes.{digit_byte}

-- the byte of the digit at a place: that of 0 above the string
unfoldable pub place_byte : List ℤ → ℕ → ℕ
place_byte ds i = digit_byte (digit_at ds i)
