-- Clean (docs/RULES.md, "Calls"): a digit string into the canonical string of the same value. Refusals in the order 5, 4, 6.
use Rattle.rules.specs.declared.Refusal.{Refusal}
use Rattle.std.specs.Prelude.{ℕ, ◌≤◌, List, length, take, Result}
use Rattle.rules.specs.Memory.{written, leaves, length_written}
use Rattle.signed_digits.specs.Naf.{naf, canonical_width}
use Rattle.signed_digits.specs.Bytes.{digit_bytes}
use Rattle.digit_strings.specs.Admission.{string_verdict, string_value}

-- ---- over the width of the digits

-- the non-adjacent form of width w of the value, one byte a digit
unfoldable pub cleaning_of : ℕ → List ℕ → List ℕ
cleaning_of w digits = digit_bytes (naf w (string_value digits))

-- the answer, by the string and the bytes lent
abbrev pub clean_answer_of : ℕ → List ℕ → ℕ → Result ℕ Refusal
clean_answer_of w digits room = written (string_verdict w digits) (cleaning_of w digits) room

-- the second buffer afterwards
abbrev pub clean_buffer_of : ℕ → List ℕ → List ℕ → List ℕ
clean_buffer_of w digits out = leaves (clean_answer_of w digits (length out)) (cleaning_of w digits) out

-- the words of docs/RULES.md, 4.7: room enough is at least as many bytes as the form of that value has
abbrev pub RoomEnoughOf : ℕ → List ℕ → List ℕ → Type 0
RoomEnoughOf w digits out = length (naf w (string_value digits)) ≤ length out

-- what is written is as many bytes as the length answered, from the start of the buffer
unfoldable pub bytes_written_of : ℕ → List ℕ → List ℕ → List ℕ
bytes_written_of w digits out = take (length_written (clean_answer_of w digits (length out))) (clean_buffer_of w digits out)

-- ---- clean itself: the canonical string, which is the form of width 2

abbrev pub cleaning : List ℕ → List ℕ
cleaning digits = cleaning_of canonical_width digits

abbrev pub clean_answer : List ℕ → ℕ → Result ℕ Refusal
clean_answer digits room = clean_answer_of canonical_width digits room

abbrev pub clean_buffer : List ℕ → List ℕ → List ℕ
clean_buffer digits out = clean_buffer_of canonical_width digits out

abbrev pub RoomEnough : List ℕ → List ℕ → Type 0
RoomEnough digits out = RoomEnoughOf canonical_width digits out

abbrev pub bytes_written : List ℕ → List ℕ → List ℕ
bytes_written digits out = bytes_written_of canonical_width digits out
