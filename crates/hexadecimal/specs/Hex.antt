-- Numbers in hexadecimal, as people write them: most significant digit first, in ASCII.
use Rattle.std.specs.Prelude.{ℕ, ◌+◌, ◌-◌, ◌*◌, ◌/◌, ◌%◌, ◌^◌, Bool, true, false, cond, List, [], ◌∷◌, ◌++◌, ltb, leb, eqb, length, get_or, drop, Option, Some, None}
use Rattle.integers.specs.Tabulate.{tabulate}

-- the value of a digit: 0 to 9, A to F, a to f; 16 for any other byte
unfoldable pub digit_value : ℕ → ℕ
digit_value c =
    cond (ltb c 48) 16
    (cond (leb c 57) (c - 48)
    (cond (ltb c 65) 16
    (cond (leb c 70) (c - 65 + 10)
    (cond (ltb c 97) 16
    (cond (leb c 102) (c - 97 + 10) 16)))))

-- the value of the digit at a place, from the last on; 0 above the first
unfoldable pub place_value : List ℕ → ℕ → ℕ
place_value text place = cond (ltb place (length text)) (digit_value (get_or text (length text - 1 - place) 0) % 16) 0

-- two digits to a byte
abbrev pub byte_at : List ℕ → ℕ → ℕ
byte_at text k = place_value text (2 * k) + 16 * place_value text (2 * k + 1)

-- the number that a text of digits stands for
unfoldable pub hex_value : List ℕ → ℕ
hex_value [] = 0
hex_value (c ∷ text) = digit_value c % 16 * 16 ^ length text + hex_value text

-- whether all bytes are digits
unfoldable pub is_hex : List ℕ → Bool
is_hex [] = true
is_hex (c ∷ text) = cond (ltb 15 (digit_value c)) false (is_hex text)

-- how many bytes the number of a text takes
abbrev pub byte_count : List ℕ → ℕ
byte_count text = length text / 2 + length text % 2

-- a text is a number where it has a digit, all are digits, and there is room for its bytes
unfoldable pub parsed : List ℕ → ℕ → Option ℕ
parsed text room =
    cond (eqb (length text) 0) None
    (cond (ltb room (byte_count text)) None
    (cond (is_hex text) (Some (byte_count text)) None))

-- the buffer afterwards: the number's bytes at its start, and those above stay; where there is no number, as it was
abbrev pub leaves : Option ℕ → List ℕ → List ℕ → List ℕ
leaves (Some n) text bytes = tabulate (byte_at text) n ++ drop n bytes
leaves None text bytes = bytes

abbrev pub parsed_buffer : List ℕ → List ℕ → List ℕ
parsed_buffer text bytes = leaves (parsed text (length bytes)) text bytes

-- x or X
unfoldable pub is_prefix : ℕ → Bool
is_prefix c = cond (eqb c 120) true (eqb c 88)

-- a word without the 0x that it may have in front
unfoldable pub without_prefix : List ℕ → List ℕ
without_prefix word =
    cond (ltb (length word) 2) word
    (cond (eqb (get_or word 0 0) 48)
    (cond (is_prefix (get_or word 1 0)) (drop 2 word) word)
    word)
