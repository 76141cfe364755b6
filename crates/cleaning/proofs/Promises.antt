-- What is promised of clean (docs/RULES.md, "Calls", "Refusals" and "Memory"), as theorems about the definitions that its statement cites. Assumes nothing.
use mathlib.Core.Path.{◌≡◌}
use mathlib.Core.Logic.{◌↔◌}
use mathlib.Core.List.{List, [], ◌∷◌, ◌++◌}
use Prim.Native.Nat.{ℕ, ◌+◌, ◌<◌, ◌≤◌}
use lib.ListN.{length, drop}
use Rattle.rules.specs.Limits.{string_digits}
use Rattle.rules.specs.Outcome.{Outcome, refused, answered, written_outcome, length_value}
use Rattle.rules.proofs.Memory as memory
use Rattle.signed_digits.specs.Naf.{canonical_width}
use Rattle.digit_strings.specs.Admission.{string_verdict, DigitString, LowestBad}
use Rattle.digit_strings.proofs.Given as string
use Rattle.cleaning_digits.proofs.Length.{canonical_length}
use Rattle.cleaning.specs.Clean.{cleaning, clean_answer, clean_buffer}
use Rattle.cleaning.proofs.Outcomes.{length_cleaning}

-- ---- each refusal is given exactly when the rules say, and no other

module _ (digits : List ℕ) (room : ℕ) where
  -- the outcome, in the rules' numbers
  abbrev pub outcome : Outcome
  outcome = written_outcome (clean_answer digits room)

  -- each outcome, with what it is given for
  abbrev pub Given : Outcome → Type 0
  Given = string.Given length_value canonical_width digits (cleaning digits) room

  -- every outcome is one of these
  pub no_other : Given outcome
  no_other = string.no_other length_value canonical_width digits (cleaning digits) room

  -- 5, place 0: the string is longer than the limit
  pub refuses_5 : outcome ≡ refused 5 0 ↔ string_digits < length digits
  refuses_5 = string.refuses_5 length_value canonical_width digits (cleaning digits) room

  -- 4, place the lowest byte that is no digit
  pub refuses_4 : (p : ℕ) → outcome ≡ refused 4 p ↔ (length digits ≤ string_digits) × LowestBad canonical_width digits p
  refuses_4 = string.refuses_4 length_value canonical_width digits (cleaning digits) room

  -- 6, place the bytes needed: the digits are more than the bytes lent
  pub refuses_6 : (p : ℕ) → outcome ≡ refused 6 p ↔ DigitString canonical_width digits × (room < length (cleaning digits)) × (p ≡ length (cleaning digits))
  refuses_6 = string.refuses_6 length_value canonical_width digits (cleaning digits) room

  -- otherwise the length is answered
  pub answers : (vs : List ℕ)
      → outcome ≡ answered vs ↔ DigitString canonical_width digits × (length (cleaning digits) ≤ room) × (vs ≡ length (cleaning digits) ∷ [])
  answers = string.answers length_value canonical_width digits (cleaning digits) room

-- ---- the length

-- one digit more than the string has, at most
pub cleaning_length : (s : List ℕ) → DigitString canonical_width s → length (cleaning s) ≤ length s + 1
cleaning_length s given = rw (length_cleaning s) (canonical_length s given)

-- ---- memory

module _ (digits out : List ℕ) where
  -- a refusal changes nothing
  pub refused_leaves : (n p : ℕ) → outcome digits (length out) ≡ refused n p → clean_buffer digits out ≡ out
  refused_leaves = memory.refused_leaves length_value (string_verdict canonical_width digits) (cleaning digits) out

  -- on success only the answer's bytes change, and those above stay
  pub answered_leaves : (vs : List ℕ) → outcome digits (length out) ≡ answered vs → clean_buffer digits out ≡ cleaning digits ++ drop (length (cleaning digits)) out
  answered_leaves = memory.answered_leaves length_value (string_verdict canonical_width digits) (cleaning digits) out
