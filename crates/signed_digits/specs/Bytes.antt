-- A digit string in a buffer: one byte a digit, in two's complement, so 00 is 0, 01 is 1 and FF is -1 (docs/RULES.md, 2.1). Digits from -128 to 127 have a byte of their own.
use Rattle.std.specs.Prelude.{cond, List, map, ltb, ℕ, ◌-◌, ℤ, pos, negsuc}

abbrev pub digit_byte : ℤ → ℕ
digit_byte (pos n) = n
digit_byte (negsuc n) = 255 - n

abbrev pub digit_bytes : List ℤ → List ℕ
digit_bytes ds = map digit_byte ds

-- the digit that a byte stands for
abbrev pub byte_digit : ℕ → ℤ
byte_digit b = cond (ltb b 128) (pos b) (negsuc (255 - b))

abbrev pub string_of : List ℕ → List ℤ
string_of bytes = map byte_digit bytes
