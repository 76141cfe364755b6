-- Read back in its wide form: the sign and the size of a digit string's value, the width of the digits being given. Refusals in the order 3, 5, 4, 6.
use Rattle.reading.specs.declared.ReadBack.{ReadBack}
use Rattle.rules.specs.declared.Refusal.{Refusal}
use Rattle.std.specs.Prelude.{ℕ, List, length, Result}
use Rattle.rules.specs.Memory.{written, leaves}
use Rattle.integers.specs.Signed.{sign_of}
use Rattle.digit_strings.specs.Admission.{string_value}
use Rattle.widths.specs.Width.{wide_verdict}
use Rattle.reading.specs.ReadBack.{size_bytes, with_sign}

-- how many bytes are written, or why none
abbrev pub read_wide_length : ℕ → List ℕ → ℕ → Result ℕ Refusal
read_wide_length w digits room = written (wide_verdict w digits) (size_bytes digits) room

-- the answer, by the width, the digits and the bytes lent: the sign and how many bytes
abbrev pub read_back_wide_answer : ℕ → List ℕ → ℕ → Result ReadBack Refusal
read_back_wide_answer w digits room = with_sign (sign_of (string_value digits)) (read_wide_length w digits room)

-- the buffer afterwards
abbrev pub read_back_wide_buffer : ℕ → List ℕ → List ℕ → List ℕ
read_back_wide_buffer w digits out = leaves (read_wide_length w digits (length out)) (size_bytes digits) out
