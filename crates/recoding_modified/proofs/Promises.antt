-- What the rules promise of recode modified, as theorems about the definitions that its statement cites. Assumes nothing.
use mathlib.Core.Path.{◌≡◌, ap, ◌∙◌}
use mathlib.Core.Logic.{◌↔◌}
use mathlib.Core.Bool.{true, false}
use mathlib.Core.List.{List, [], ◌∷◌, ◌++◌, map-append}
use Prim.Native.Nat.{ℕ, ◌+◌, ◌*◌, ◌<◌, ◌≤◌}
use native.Mathlib.Omega.{arith}
use lib.IntN.{pos, negsuc}
use lib.ListN.{length, drop}
use Rattle.rules.specs.Limits.{number_bytes}
use Rattle.rules.specs.Outcome.{Outcome, refused, answered, written_outcome, length_value}
use Rattle.rules.proofs.Memory as memory
use Rattle.integers.specs.Positional.{positional, bytes_value}
use Rattle.integers.proofs.Positional.{Below}
use Rattle.numbers.specs.Admission.{Padded, number_verdict, Admitted}
use Rattle.numbers.proofs.Given as of_number
use Rattle.signed_digits.specs.Naf.{canonical, canonical_width}
use Rattle.signed_digits.specs.Modified.{leads, modified}
use Rattle.signed_digits.specs.Bytes.{digit_byte, digit_bytes, string_of}
use Rattle.signed_digits.proofs.Modified.{modified_kept, modified_cut, modified_bits, modified_size, modified_zero}
use Rattle.signed_digits.proofs.Canonical.{odd_bit}
use Rattle.digit_strings.proofs.Bytes.{string_bytes}
use Rattle.recoding.specs.Recode.{recoding_of, recoding}
use Rattle.recoding.proofs.Outcomes as canonical-string
use Rattle.recoding.proofs.Promises as recode
use Rattle.recoding_modified.specs.RecodeModified.{modified_recoding, recode_modified_answer, recode_modified_buffer}
use Rattle.recoding_modified.proofs.Outcomes.{length_recoding}

-- ---- each refusal is given exactly when the rules say, and no other

module _ (number : List ℕ) (room : ℕ) where
  -- the outcome, in the rules' numbers
  abbrev pub outcome : Outcome
  outcome = written_outcome (recode_modified_answer number room)

  -- each outcome, with what it is given for
  abbrev pub Given : Outcome → Type 0
  Given = of_number.Given length_value number (modified_recoding number) room

  -- every outcome is one of these
  pub no_other : Given outcome
  no_other = of_number.no_other length_value number (modified_recoding number) room

  -- 1, place 0: the number is longer than the limit
  pub refuses_1 : outcome ≡ refused 1 0 ↔ number_bytes < length number
  refuses_1 = of_number.refuses_1 length_value number (modified_recoding number) room

  -- 13, place 0: its highest byte is zero
  pub refuses_13 : outcome ≡ refused 13 0 ↔ (length number ≤ number_bytes) × Padded number
  refuses_13 = of_number.refuses_13 length_value number (modified_recoding number) room

  -- 6, place the bytes needed: the digits are more than the bytes lent
  pub refuses_6 : (p : ℕ) → outcome ≡ refused 6 p ↔ Admitted number × (room < length (modified_recoding number)) × (p ≡ length (modified_recoding number))
  refuses_6 = of_number.refuses_6 length_value number (modified_recoding number) room

  -- otherwise the length is answered
  pub answers : (vs : List ℕ) → outcome ≡ answered vs ↔ Admitted number × (length (modified_recoding number) ≤ room) × (vs ≡ length (modified_recoding number) ∷ [])
  answers = of_number.answers length_value number (modified_recoding number) room

-- ---- what is written

module _ (number : List ℕ) where
  -- the bytes that recode writes, except that the highest, FF 00 01, become 01 01
  pub recoding_kept : leads (canonical (pos (bytes_value number))) ≡ false → modified_recoding number ≡ recoding number
  unfolding modified_recoding recoding_of
  recoding_kept f = ap digit_bytes (modified_kept (bytes_value number) f)

  pub recoding_cut : leads (canonical (pos (bytes_value number))) ≡ true →
      (low : List ℕ) × (recoding number ≡ low ++ (255 ∷ 0 ∷ 1 ∷ [])) × (modified_recoding number ≡ low ++ (1 ∷ 1 ∷ []))
  unfolding modified_recoding recoding_of
  recoding_cut t =
      let (low, c, m) = modified_cut (bytes_value number) t in
      (digit_bytes low, ap digit_bytes c ∙ map-append digit_byte low (negsuc 0 ∷ pos 0 ∷ pos 1 ∷ []), ap digit_bytes m ∙ map-append digit_byte low (pos 1 ∷ pos 1 ∷ []))

  -- read in two's complement, they are the form
  pub written_form : string_of (modified_recoding number) ≡ modified (bytes_value number)
  unfolding modified_recoding
  written_form = string_bytes canonical_width (omega arith) (modified (bytes_value number)) (λ i. odd_bit _ (modified_bits (bytes_value number) i))

  -- n bytes have at most 8 n + 1 digits
  pub recoding_length : Below 256 number → length (modified_recoding number) ≤ 8 * length number + 1
  recoding_length b = omega (arith, length_recoding number, modified_size (bytes_value number), canonical-string.length_recoding number, recode.recoding_length number b)

-- no bytes mean zero, which is the empty string
pub recoding_empty : modified_recoding [] ≡ []
unfolding modified_recoding positional
recoding_empty = ap digit_bytes modified_zero

-- ---- memory

module _ (number out : List ℕ) where
  -- a refusal changes nothing
  pub refused_leaves : (n p : ℕ) → outcome number (length out) ≡ refused n p → recode_modified_buffer number out ≡ out
  refused_leaves = memory.refused_leaves length_value (number_verdict number) (modified_recoding number) out

  -- on success the string stands at the start of the buffer, and the bytes above stay
  pub answered_leaves : (vs : List ℕ) → outcome number (length out) ≡ answered vs → recode_modified_buffer number out ≡ modified_recoding number ++ drop (length (modified_recoding number)) out
  answered_leaves = memory.answered_leaves length_value (number_verdict number) (modified_recoding number) out
