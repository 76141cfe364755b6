-- Recode wide (docs/RULES.md, "Calls"): a number into its non-adjacent form of width w. Refusals in the order 1, 13, 3, 6.
use Rattle.rules.specs.declared.Refusal.{Refusal}
use Rattle.std.specs.Prelude.{ℕ, List, length, Result}
use Rattle.rules.specs.Memory.{written, leaves}
use Rattle.rules.specs.Outcome.{and_then}
use Rattle.numbers.specs.Admission.{number_verdict}
use Rattle.recoding.specs.Recode.{recoding_of}
use Rattle.widths.specs.Width.{width_verdict}

-- the tests, in their order
abbrev pub recode_wide_verdict : ℕ → List ℕ → Result Unit Refusal
recode_wide_verdict w number = and_then (number_verdict number) (width_verdict w)

-- the answer, by the number, the width and the bytes lent
abbrev pub recode_wide_answer : ℕ → List ℕ → ℕ → Result ℕ Refusal
recode_wide_answer w number room = written (recode_wide_verdict w number) (recoding_of w number) room

-- the buffer afterwards
abbrev pub recode_wide_buffer : ℕ → List ℕ → List ℕ → List ℕ
recode_wide_buffer w number out = leaves (recode_wide_answer w number (length out)) (recoding_of w number) out
