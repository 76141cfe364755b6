-- Recode modified (docs/RULES.md, "Calls"): a number into its modified form. Refusals in the order 1, 13, 6.
use Rattle.rules.specs.declared.Refusal.{Refusal}
use Rattle.std.specs.Prelude.{ℕ, List, length, Result}
use Rattle.rules.specs.Memory.{written, leaves}
use Rattle.integers.specs.Positional.{bytes_value}
use Rattle.numbers.specs.Admission.{number_verdict}
use Rattle.signed_digits.specs.Modified.{modified}
use Rattle.signed_digits.specs.Bytes.{digit_bytes}

-- the modified form of a number's bytes, one byte a digit
unfoldable pub modified_recoding : List ℕ → List ℕ
modified_recoding number = digit_bytes (modified (bytes_value number))

-- the answer, by the number and the bytes lent
abbrev pub recode_modified_answer : List ℕ → ℕ → Result ℕ Refusal
recode_modified_answer number room = written (number_verdict number) (modified_recoding number) room

-- the buffer afterwards
abbrev pub recode_modified_buffer : List ℕ → List ℕ → List ℕ
recode_modified_buffer number out = leaves (recode_modified_answer number (length out)) (modified_recoding number) out
