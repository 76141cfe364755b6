-- Read back (docs/RULES.md, "Calls"): the sign and the size of a digit string's value. Refusals in the order 5, 4, 6.
use Rattle.reading.specs.declared.ReadBack.{ReadBack}
use Rattle.rules.specs.declared.Refusal.{Refusal}
use Rattle.std.specs.Prelude.{ℕ, List, [], ◌∷◌, nat_abs, length, Result, Ok, Err}
use Rattle.rules.specs.Memory.{written, leaves}
use Rattle.rules.specs.Outcome.{Outcome, answered, refusal}
use Rattle.integers.specs.Positional.{bytes_of}
use Rattle.integers.specs.Signed.{sign_of}
use Rattle.signed_digits.specs.Naf.{canonical_width}
use Rattle.digit_strings.specs.Admission.{string_verdict, string_value}

-- the size of the value in bytes, with no high zero byte
unfoldable pub size_bytes : List ℕ → List ℕ
size_bytes digits = bytes_of (nat_abs (string_value digits))

-- how many bytes are written, or why none, over the width of the digits
abbrev pub read_length_of : ℕ → List ℕ → ℕ → Result ℕ Refusal
read_length_of w digits room = written (string_verdict w digits) (size_bytes digits) room

-- the answer: the sign and how many bytes
abbrev pub with_sign : ℕ → Result ℕ Refusal → Result ReadBack Refusal
with_sign sign (Ok n) = Ok (record { sign = sign; length = n })
with_sign sign (Err r) = Err r

abbrev pub read_answer_of : ℕ → List ℕ → ℕ → Result ReadBack Refusal
read_answer_of w digits room = with_sign (sign_of (string_value digits)) (read_length_of w digits room)

-- the buffer afterwards
abbrev pub read_buffer_of : ℕ → List ℕ → List ℕ → List ℕ
read_buffer_of w digits out = leaves (read_length_of w digits (length out)) (size_bytes digits) out

-- read back itself: the digits 0, 1 and -1
abbrev pub read_length : List ℕ → ℕ → Result ℕ Refusal
read_length digits room = read_length_of canonical_width digits room

abbrev pub read_back_answer : List ℕ → ℕ → Result ReadBack Refusal
read_back_answer digits room = read_answer_of canonical_width digits room

abbrev pub read_back_buffer : List ℕ → List ℕ → List ℕ
read_back_buffer digits out = read_buffer_of canonical_width digits out

-- the answer in the rules' numbers
abbrev pub read_back_outcome : Result ReadBack Refusal → Outcome
read_back_outcome (Ok r) = answered (r.sign ∷ r.length ∷ [])
read_back_outcome (Err r) = refusal r
