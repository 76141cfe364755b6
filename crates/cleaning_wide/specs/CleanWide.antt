-- Clean wide (docs/RULES.md, "Calls"): a digit string of width w into the non-adjacent form of the same value. Refusals in the order 3, 5, 4, 6.
use Rattle.rules.specs.declared.Refusal.{Refusal}
use Rattle.std.specs.Prelude.{ℕ, List, length, take, Result}
use Rattle.rules.specs.Memory.{written, leaves, length_written}
use Rattle.widths.specs.Width.{wide_verdict}
use Rattle.cleaning.specs.Clean.{cleaning_of}

-- the answer, by the width, the string and the bytes lent
abbrev pub clean_wide_answer : ℕ → List ℕ → ℕ → Result ℕ Refusal
clean_wide_answer w digits room = written (wide_verdict w digits) (cleaning_of w digits) room

-- the second buffer afterwards
abbrev pub clean_wide_buffer : ℕ → List ℕ → List ℕ → List ℕ
clean_wide_buffer w digits out = leaves (clean_wide_answer w digits (length out)) (cleaning_of w digits) out

-- what is written is as many bytes as the length answered, from the start of the buffer
unfoldable pub wide_bytes_written : ℕ → List ℕ → List ℕ → List ℕ
wide_bytes_written w digits out = take (length_written (clean_wide_answer w digits (length out))) (clean_wide_buffer w digits out)
