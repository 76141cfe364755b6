-- What is promised of clean wide (docs/RULES.md, "Calls", "Refusals" and "Memory"), as theorems about the definitions that its statement cites. Assumes nothing.
use mathlib.Core.Path.{◌≡◌, refl, ◌∙◌}
use mathlib.Core.Logic.{◌↔◌}
use mathlib.Core.List.{List, [], ◌∷◌, ◌++◌}
use Prim.Native.Nat.{ℕ, ◌+◌, ◌-◌, ◌<◌, ◌≤◌}
use native.Mathlib.Omega.{arith}
use lib.ListN.{length, drop, length-map}
use Rattle.rules.specs.Limits.{string_digits, largest_width}
use Rattle.rules.specs.Outcome.{Outcome, refused, answered, written_outcome, length_value}
use Rattle.rules.proofs.Memory as memory
use Rattle.signed_digits.specs.Naf.{canonical_width}
use Rattle.signed_digits.specs.Bytes.{byte_digit, digit_byte, digit_bytes, string_of}
use Rattle.signed_digits.proofs.Longest.{longest_form, long_string, long_length, long_digits, long_reached}
use Rattle.digit_strings.specs.Admission.{DigitString, LowestBad}
use Rattle.digit_strings.proofs.Bytes.{string_bytes, digits_bytes}
use Rattle.digit_strings.proofs.Sizes.{string_sizes}
use Rattle.widths.specs.Width.{AllowedWidth, width_verdict, wide_verdict}
use Rattle.widths.proofs.Given as wide
use Rattle.cleaning.specs.Clean.{cleaning_of, clean_answer, clean_buffer}
use Rattle.cleaning.proofs.Outcomes.{length_cleaning_of}
use Rattle.cleaning_wide.specs.CleanWide.{clean_wide_answer, clean_wide_buffer}

-- ---- each refusal is given exactly when the rules say, and no other

module _ (w : ℕ) (digits : List ℕ) (room : ℕ) where
  -- the outcome, in the rules' numbers
  abbrev pub outcome : Outcome
  outcome = written_outcome (clean_wide_answer w digits room)

  -- each outcome, with what it is given for
  abbrev pub Given : Outcome → Type 0
  Given = wide.Given length_value w digits (cleaning_of w digits) room

  -- every outcome is one of these
  pub no_other : Given outcome
  no_other = wide.no_other length_value w digits (cleaning_of w digits) room

  -- 3, place 0: the width is none
  pub refuses_3 : outcome ≡ refused 3 0 ↔ ¬ AllowedWidth w
  refuses_3 = wide.refuses_3 length_value w digits (cleaning_of w digits) room

  -- 5, place 0: the string is longer than the limit
  pub refuses_5 : outcome ≡ refused 5 0 ↔ AllowedWidth w × (string_digits < length digits)
  refuses_5 = wide.refuses_5 length_value w digits (cleaning_of w digits) room

  -- 4, place the lowest byte that is no digit of the width
  pub refuses_4 : (p : ℕ) → outcome ≡ refused 4 p ↔ AllowedWidth w × (length digits ≤ string_digits) × LowestBad w digits p
  refuses_4 = wide.refuses_4 length_value w digits (cleaning_of w digits) room

  -- 6, place the bytes needed: the digits are more than the bytes lent
  pub refuses_6 : (p : ℕ) → outcome ≡ refused 6 p ↔ AllowedWidth w × DigitString w digits × (room < length (cleaning_of w digits)) × (p ≡ length (cleaning_of w digits))
  refuses_6 = wide.refuses_6 length_value w digits (cleaning_of w digits) room

  -- otherwise the length is answered
  pub answers : (vs : List ℕ)
      → outcome ≡ answered vs ↔ AllowedWidth w × DigitString w digits × (length (cleaning_of w digits) ≤ room) × (vs ≡ length (cleaning_of w digits) ∷ [])
  answers = wide.answers length_value w digits (cleaning_of w digits) room

-- ---- the length: as many digits more than the string has as the width, at most

pub cleaning_length : (w : ℕ) (s : List ℕ) → AllowedWidth w → DigitString w s → length (cleaning_of w s) ≤ length s + w
cleaning_length w s a given =
    rw (length_cleaning_of w s)
    (rw (length-map s byte_digit) at (longest_form w (string_of s) a.least (string_sizes w s given)))

-- so this room is always enough
pub cleaning_room : (w : ℕ) (s : List ℕ) → AllowedWidth w → DigitString w s → length (cleaning_of w s) ≤ string_digits + largest_width
cleaning_room w s a given = omega (arith, cleaning_length w s a given, given.within, a.most)

-- From width 3 on, strings of n digits, from n = w + 1 on, reach n + w: 1 in the low places, then 3, then the largest digit.
module _ (w : ℕ) (least : 3 ≤ w) (most : w ≤ largest_width) (m : ℕ) (low : w - 1 ≤ m) (short : m + 2 ≤ string_digits) where
  abbrev string : List ℕ
  string = digit_bytes (long_string w m)

  string_long : length string ≡ m + 2
  string_long = length-map (long_string w m) digit_byte ∙ long_length w m

  pub cleaning_reached : DigitString w string × (length string ≡ m + 2) × (length (cleaning_of w string) ≡ m + 2 + w)
  cleaning_reached = (
    digits_bytes w most (long_string w m) (long_digits w least m) (rw string_long short),
    string_long,
    length_cleaning_of w string ∙ rw (string_bytes w most (long_string w m) (long_digits w least m)) (long_reached w least m low),
  )

-- ---- width 2: every answer and every byte of clean

pub wide_at_2 : (digits out : List ℕ)
    → (clean_wide_answer canonical_width digits (length out) ≡ clean_answer digits (length out)) × (clean_wide_buffer canonical_width digits out ≡ clean_buffer digits out)
unfolding width_verdict
wide_at_2 digits out = (refl, refl)

-- ---- memory

module _ (w : ℕ) (digits out : List ℕ) where
  -- a refusal changes nothing
  pub refused_leaves : (n p : ℕ) → outcome w digits (length out) ≡ refused n p → clean_wide_buffer w digits out ≡ out
  refused_leaves = memory.refused_leaves length_value (wide_verdict w digits) (cleaning_of w digits) out

  -- on success only the answer's bytes change, and those above stay
  pub answered_leaves : (vs : List ℕ) → outcome w digits (length out) ≡ answered vs → clean_wide_buffer w digits out ≡ cleaning_of w digits ++ drop (length (cleaning_of w digits)) out
  answered_leaves = memory.answered_leaves length_value (wide_verdict w digits) (cleaning_of w digits) out
