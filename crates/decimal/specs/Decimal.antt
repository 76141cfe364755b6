-- Numbers in decimal, as people write them: most significant digit first, in ASCII.
use Rattle.std.specs.Prelude.{ℕ, suc, ◌+◌, ◌-◌, ◌*◌, ◌/◌, ◌%◌, ◌^◌, Bool, false, cond, List, [], ◌∷◌, ◌++◌, ltb, leb, eqb, length, drop, Result, Ok, Err}
use Rattle.integers.specs.Positional.{bytes_of, low_bytes}
use Rattle.decimal.specs.declared.NotDecimal.{NotDecimal}

-- 0 to 9
unfoldable pub is_digit : ℕ → Bool
is_digit c = cond (ltb c 48) false (leb c 57)

-- how many digits a text begins with: the first place that is no digit, or its length where all are
unfoldable pub leading : List ℕ → ℕ
leading [] = 0
leading (c ∷ text) = cond (is_digit c) (suc (leading text)) 0

-- the number that a text of digits stands for
unfoldable pub decimal_value : List ℕ → ℕ
decimal_value [] = 0
decimal_value (c ∷ text) = (c - 48) * 10 ^ length text + decimal_value text

-- how many bytes are enough for the number: two digits to a byte
abbrev pub byte_count : List ℕ → ℕ
byte_count text = length text / 2 + length text % 2

-- no number: so many digits come before the first byte that is none
abbrev pub no_number : ℕ → Result ℕ NotDecimal
no_number digits = Err (record { digits = digits })

-- a text is a number where it has a digit, all are digits, and there is room for as many bytes as are enough. The answer is how many bytes it has without high zero bytes
unfoldable pub parsed : List ℕ → ℕ → Result ℕ NotDecimal
parsed text room =
    cond (ltb (leading text) (length text)) (no_number (leading text))
    (cond (eqb (length text) 0) (no_number 0)
    (cond (ltb room (byte_count text)) (no_number (length text)) (Ok (length (bytes_of (decimal_value text))))))

-- the buffer afterwards: the number in as many bytes as are enough, and those above stay; where there is no number, as it was
abbrev pub leaves : Result ℕ NotDecimal → List ℕ → List ℕ → List ℕ
leaves (Ok n) text bytes = low_bytes (byte_count text) (decimal_value text) ++ drop (byte_count text) bytes
leaves (Err e) text bytes = bytes

abbrev pub parsed_buffer : List ℕ → List ℕ → List ℕ
parsed_buffer text bytes = leaves (parsed text (length bytes)) text bytes
