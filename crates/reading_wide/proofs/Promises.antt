-- What is promised of read back in its wide form, as theorems about the definitions that its statement cites. Assumes nothing.
use mathlib.Core.Path.{◌≡◌, refl}
use mathlib.Core.Logic.{◌↔◌}
use mathlib.Core.List.{List, [], ◌∷◌, ◌++◌}
use Prim.Native.Nat.{ℕ, ◌<◌, ◌≤◌}
use lib.ListN.{length, take, drop}
use Rattle.rules.specs.Limits.{string_digits}
use Rattle.rules.specs.Memory.{fitted}
use Rattle.rules.specs.Outcome.{Outcome, refused, answered}
use Rattle.rules.proofs.Memory as memory
use Rattle.integers.specs.Positional.{bytes_of, bytes_up_to}
use Rattle.integers.specs.Signed.{sign_of}
use Rattle.integers.proofs.Positional.{Below}
use Rattle.numbers.specs.Admission.{Admitted}
use Rattle.signed_digits.specs.Strings.{value}
use Rattle.signed_digits.specs.Naf.{canonical_width}
use Rattle.digit_strings.specs.Admission.{digit_up_to, first_failing, string_verdict, string_value, DigitString, LowestBad}
use Rattle.recoding.specs.Recode.{recoding_of}
use Rattle.widths.specs.Width.{AllowedWidth, width_verdict, wide_verdict}
use Rattle.widths.proofs.Tests.{wide_tests}
use Rattle.widths.proofs.Given as wide
use Rattle.reading.specs.ReadBack.{size_bytes, read_answer_of, read_buffer_of, read_back_answer, read_back_buffer, read_back_outcome}
use Rattle.reading.proofs.OfWidth as of_width
use Rattle.reading.proofs.OfWidth.{values, with_sign_lem}
use Rattle.reading.proofs.Promises.{Gives, reads_back_after}
use Rattle.reading_wide.specs.ReadBackWide.{read_wide_length, read_back_wide_answer, read_back_wide_buffer}

-- ---- each refusal is given exactly when the rules say, and no other

module _ (w : ℕ) (digits : List ℕ) (room : ℕ) where
  -- the outcome, in the rules' numbers
  abbrev pub outcome : Outcome
  outcome = read_back_outcome (read_back_wide_answer w digits room)

  outcome_is : outcome ≡ wide.outcome (values digits) w digits (size_bytes digits) room
  outcome_is = with_sign_lem (sign_of (string_value digits)) (read_wide_length w digits room)

  -- each outcome, with what it is given for
  abbrev pub Given : Outcome → Type 0
  Given = wide.Given (values digits) w digits (size_bytes digits) room

  -- every outcome is one of these
  pub no_other : Given outcome
  no_other = rw outcome_is (wide.no_other (values digits) w digits (size_bytes digits) room)

  -- 3, place 0: the width is outside the limits
  pub refuses_3 : outcome ≡ refused 3 0 ↔ ¬ AllowedWidth w
  refuses_3 = rw outcome_is (wide.refuses_3 (values digits) w digits (size_bytes digits) room)

  -- 5, place 0: the string is longer than the limit
  pub refuses_5 : outcome ≡ refused 5 0 ↔ AllowedWidth w × (string_digits < length digits)
  refuses_5 = rw outcome_is (wide.refuses_5 (values digits) w digits (size_bytes digits) room)

  -- 4, place the lowest byte that is no digit of the width
  pub refuses_4 : (p : ℕ) → outcome ≡ refused 4 p ↔ AllowedWidth w × (length digits ≤ string_digits) × LowestBad w digits p
  refuses_4 = rw outcome_is (wide.refuses_4 (values digits) w digits (size_bytes digits) room)

  -- 6, place the bytes needed: the size has more bytes than are lent
  pub refuses_6 : (p : ℕ) → outcome ≡ refused 6 p ↔ AllowedWidth w × DigitString w digits × (room < length (size_bytes digits)) × (p ≡ length (size_bytes digits))
  refuses_6 = rw outcome_is (wide.refuses_6 (values digits) w digits (size_bytes digits) room)

  -- otherwise the sign and the number of bytes are answered
  pub answers : (vs : List ℕ)
      → outcome ≡ answered vs ↔ AllowedWidth w × DigitString w digits × (length (size_bytes digits) ≤ room) × (vs ≡ sign_of (string_value digits) ∷ length (size_bytes digits) ∷ [])
  answers = rw outcome_is (wide.answers (values digits) w digits (size_bytes digits) room)

-- ---- memory

module _ (w : ℕ) (digits out : List ℕ) where
  -- a refusal changes nothing
  pub refused_leaves : (n p : ℕ) → outcome w digits (length out) ≡ refused n p → read_back_wide_buffer w digits out ≡ out
  refused_leaves = rw (outcome_is w digits (length out)) (memory.refused_leaves (values digits) (wide_verdict w digits) (size_bytes digits) out)

  -- on success only the answer's bytes change, and those above stay
  pub answered_leaves : (vs : List ℕ) → outcome w digits (length out) ≡ answered vs → read_back_wide_buffer w digits out ≡ size_bytes digits ++ drop (length (size_bytes digits)) out
  answered_leaves = rw (outcome_is w digits (length out)) (memory.answered_leaves (values digits) (wide_verdict w digits) (size_bytes digits) out)

  -- ---- the value read

  -- what is answered and written gives the value of the digit string back
  pub reads_back : (sign n : ℕ) → outcome w digits (length out) ≡ answered (sign ∷ n ∷ []) → Gives (string_value digits) sign (take n (read_back_wide_buffer w digits out))
  reads_back = reads_back_after (wide_verdict w digits) digits out

  -- of every digit string of a width that is allowed, with room enough
  pub reads_value : AllowedWidth w → DigitString w digits → length (size_bytes digits) ≤ length out
      → (outcome w digits (length out) ≡ answered (sign_of (string_value digits) ∷ length (size_bytes digits) ∷ [])) × Gives (string_value digits) (sign_of (string_value digits)) (take (length (size_bytes digits)) (read_back_wide_buffer w digits out))
  reads_value a d h =
      let o = (answers w digits (length out) _).1 (a, d, h, refl) in
      (o, reads_back _ _ o)

-- ---- the other forms

-- at a width that is allowed it is read back of that width
pub wide_is : (w : ℕ) → AllowedWidth w → (digits : List ℕ)
    → ((room : ℕ) → read_back_wide_answer w digits room ≡ read_answer_of w digits room) × ((out : List ℕ) → read_back_wide_buffer w digits out ≡ read_buffer_of w digits out)
wide_is w a digits = (λ room. rw (wide_tests w a digits), λ out. rw (wide_tests w a digits))

-- at the width of the canonical string it is read back itself, in every answer and byte
pub wide_at_2 : (digits : List ℕ)
    → ((room : ℕ) → read_back_wide_answer canonical_width digits room ≡ read_back_answer digits room) × ((out : List ℕ) → read_back_wide_buffer canonical_width digits out ≡ read_back_buffer digits out)
unfolding width_verdict
wide_at_2 digits = (λ room. refl, λ out. refl)

-- what recode writes of a number, of any width that is allowed, gives the number's own bytes
pub reads_recoding : (w : ℕ) → AllowedWidth w → (number : List ℕ) → Admitted number → Below 256 number → (out : List ℕ) → length number ≤ length out
    → (outcome w (recoding_of w number) (length out) ≡ answered (0 ∷ length number ∷ [])) × (read_back_wide_buffer w (recoding_of w number) out ≡ number ++ drop (length number) out)
reads_recoding w a number admitted bytes out h =
    rw (wide_tests w a (recoding_of w number)) (of_width.reads_recoding w a.least number bytes a.most admitted out h)

-- the sign is not that of the highest digit: of width 3 the digits 1 and then -3 are -1
pub reads_minus_one : (byte : ℕ) → (outcome 3 (253 ∷ 1 ∷ []) 1 ≡ answered (1 ∷ 1 ∷ [])) × (read_back_wide_buffer 3 (253 ∷ 1 ∷ []) (byte ∷ []) ≡ 1 ∷ [])
unfolding width_verdict string_verdict first_failing digit_up_to fitted size_bytes value bytes_of bytes_up_to
reads_minus_one byte = (refl, refl)
