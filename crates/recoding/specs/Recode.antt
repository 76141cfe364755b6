-- Recode (docs/RULES.md, "Calls"): a number into its canonical string. Refusals in the order 1, 13, 6.
use Rattle.rules.specs.declared.Refusal.{Refusal}
use Rattle.std.specs.Prelude.{ℕ, List, pos, length, Result}
use Rattle.rules.specs.Memory.{written, leaves}
use Rattle.integers.specs.Positional.{bytes_value}
use Rattle.numbers.specs.Admission.{number_verdict}
use Rattle.signed_digits.specs.Naf.{naf, canonical_width}
use Rattle.signed_digits.specs.Bytes.{digit_bytes}

-- the non-adjacent form of width w of a number's bytes, one byte a digit
unfoldable pub recoding_of : ℕ → List ℕ → List ℕ
recoding_of w number = digit_bytes (naf w (pos (bytes_value number)))

-- the canonical string
abbrev pub recoding : List ℕ → List ℕ
recoding number = recoding_of canonical_width number

-- the answer, by the number and the bytes lent
abbrev pub recode_answer : List ℕ → ℕ → Result ℕ Refusal
recode_answer number room = written (number_verdict number) (recoding number) room

-- the buffer afterwards
abbrev pub recode_buffer : List ℕ → List ℕ → List ℕ
recode_buffer number out = leaves (recode_answer number (length out)) (recoding number) out
