-- What the rules promise of recode, as theorems about the definitions that its statement cites. Assumes nothing.
use mathlib.Core.Path.{◌≡◌, refl, ap, ◌∙◌}
use mathlib.Core.Logic.{◌↔◌}
use mathlib.Core.List.{List, [], ◌∷◌, ◌++◌}
use Prim.Native.Nat.{ℕ, ◌+◌, ◌*◌, ◌<◌, ◌≤◌}
use lib.IntN.{ℤ, pos}
use native.Mathlib.Omega.{arith}
use lib.ListN.{length, drop, length-map}
use Rattle.rules.specs.Limits.{number_bytes, least_width}
use Rattle.rules.specs.Outcome.{Outcome, refused, answered, written_outcome, length_value}
use Rattle.rules.proofs.Memory as memory
use Rattle.integers.specs.Positional.{positional, bytes_value}
use Rattle.integers.proofs.Bits.{power_of_bytes}
use Rattle.integers.proofs.Positional.{Below, positional_lt}
use Rattle.numbers.specs.Admission.{Padded, number_verdict, Admitted}
use Rattle.numbers.proofs.Given as of_number
use Rattle.signed_digits.specs.Strings.{value}
use Rattle.signed_digits.specs.Form.{Canonical}
use Rattle.signed_digits.specs.Naf.{canonical, canonical_width, naf, digits_of}
use Rattle.signed_digits.specs.Bytes.{digit_byte, digit_bytes}
use Rattle.signed_digits.proofs.Width.{form_length}
use Rattle.signed_digits.proofs.Canonical.{canonical_form, canonical_value, canonical_only}
use Rattle.recoding.specs.Recode.{recoding_of, recoding, recode_answer, recode_buffer}

-- ---- each refusal is given exactly when the rules say, and no other

module _ (number : List ℕ) (room : ℕ) where
  -- the outcome, in the rules' numbers
  abbrev pub outcome : Outcome
  outcome = written_outcome (recode_answer number room)

  -- each outcome, with what it is given for
  abbrev pub Given : Outcome → Type 0
  Given = of_number.Given length_value number (recoding number) room

  -- every outcome is one of these
  pub no_other : Given outcome
  no_other = of_number.no_other length_value number (recoding number) room

  -- 1, place 0: the number is longer than the limit
  pub refuses_1 : outcome ≡ refused 1 0 ↔ number_bytes < length number
  refuses_1 = of_number.refuses_1 length_value number (recoding number) room

  -- 13, place 0: its highest byte is zero
  pub refuses_13 : outcome ≡ refused 13 0 ↔ (length number ≤ number_bytes) × Padded number
  refuses_13 = of_number.refuses_13 length_value number (recoding number) room

  -- 6, place the bytes needed: the digits are more than the bytes lent
  pub refuses_6 : (p : ℕ) → outcome ≡ refused 6 p ↔ Admitted number × (room < length (recoding number)) × (p ≡ length (recoding number))
  refuses_6 = of_number.refuses_6 length_value number (recoding number) room

  -- otherwise the length is answered
  pub answers : (vs : List ℕ) → outcome ≡ answered vs ↔ Admitted number × (length (recoding number) ≤ room) × (vs ≡ length (recoding number) ∷ [])
  answers = of_number.answers length_value number (recoding number) room

-- ---- what is written

-- the canonical string of the number: the form, the value, and no other string has both
pub recoding_canonical : (number : List ℕ) → (ds : List ℤ) × (recoding number ≡ digit_bytes ds) × Canonical ds × (value ds ≡ pos (bytes_value number))
unfolding recoding_of
recoding_canonical number =
    let e : ℕ = bytes_value number in
    (canonical (pos e), refl, canonical_form (pos e), canonical_value (pos e))

pub recoding_only : (number : List ℕ) (ds : List ℤ) → Canonical ds → value ds ≡ pos (bytes_value number) → digit_bytes ds ≡ recoding number
unfolding recoding_of
recoding_only number ds c v = ap digit_bytes (canonical_only ds c ∙ ap canonical v)

-- no bytes mean zero, which is the empty string
pub recoding_empty : recoding [] ≡ []
unfolding recoding_of positional naf digits_of
recoding_empty = refl

-- n bytes have at most 8 n + 1 digits, of every width
pub recoding_length_of : (w : ℕ) (number : List ℕ) → least_width ≤ w → Below 256 number → length (recoding_of w number) ≤ 8 * length number + 1
unfolding recoding_of
recoding_length_of w number least b =
    let n : ℕ = length number in
    rw (length-map (naf w (pos (bytes_value number))) digit_byte)
    (form_length w least (8 * n) (pos (bytes_value number)) (omega (arith, power_of_bytes n, positional_lt 256 n number (omega arith) b)))

pub recoding_length : (number : List ℕ) → Below 256 number → length (recoding number) ≤ 8 * length number + 1
recoding_length number b = recoding_length_of canonical_width number (omega arith) b

-- ---- memory

-- a refusal changes nothing
pub refused_leaves : (number out : List ℕ) (n p : ℕ) → outcome number (length out) ≡ refused n p → recode_buffer number out ≡ out
refused_leaves number out = memory.refused_leaves length_value (number_verdict number) (recoding number) out

-- on success the string stands at the start of the buffer, and the bytes above stay
pub answered_leaves : (number out : List ℕ) (vs : List ℕ) → outcome number (length out) ≡ answered vs
    → recode_buffer number out ≡ recoding number ++ drop (length (recoding number)) out
answered_leaves number out = memory.answered_leaves length_value (number_verdict number) (recoding number) out
