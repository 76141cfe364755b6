-- Demand 3 (docs/PROMISES.md): theorems about the definitions that the statement of clean cites. Assumes nothing.
use Rattle.std.specs.Prelude.{Ok}
use mathlib.Core.Path.{◌≡◌, sym, ap, ◌∙◌}
use mathlib.Core.Logic.{◌↔◌}
use mathlib.Core.List.{List, [], ◌∷◌}
use Prim.Native.Nat.{◌<◌, ◌≤◌, ℕ}
use native.Mathlib.Omega.{arith}
use lib.IntN.{ℤ}
use lib.ListN.{length, drop}
use lib.Seq.{take-append_seam}
use Rattle.rules.specs.Limits.{string_digits, least_width, largest_width}
use Rattle.rules.specs.Outcome.{refused, answered, written_outcome, length_value}
use Rattle.rules.proofs.Fitted.{fits}
use Rattle.signed_digits.specs.Strings.{value}
use Rattle.signed_digits.specs.Form.{SignedBits, NonAdjacent, Canonical}
use Rattle.signed_digits.specs.Naf.{naf, canonical, canonical_width}
use Rattle.signed_digits.specs.Weight.{nonzeros}
use Rattle.signed_digits.specs.Bytes.{digit_bytes, string_of}
use Rattle.signed_digits.proofs.Exists.{naf_form, naf_value}
use Rattle.signed_digits.proofs.Canonical.{canonical_is}
use Rattle.signed_digits.proofs.Fewest.{fewest}
use Rattle.digit_strings.specs.Admission.{string_value, DigitString}
use Rattle.digit_strings.proofs.Tests.{digits, string_only}
use Rattle.digit_strings.proofs.Bytes.{naf_digits, naf_back}
use Rattle.digit_strings.proofs.Given as string
use Rattle.cleaning.specs.Clean.{cleaning_of, clean_answer_of, RoomEnoughOf, bytes_written_of, clean_answer, RoomEnough, bytes_written}
use Rattle.cleaning.proofs.Outcomes.{length_cleaning_of}

-- ---- for every width, the non-adjacent form of that width in place of the canonical string

module _ (w : ℕ) (least : least_width ≤ w) (most : w ≤ largest_width) where
  answer : (s out : List ℕ) → DigitString w s → RoomEnoughOf w s out → clean_answer_of w s (length out) ≡ Ok (length (cleaning_of w s))
  answer s out given room = rw (string_only w s (digits given), fits (cleaning_of w s) (length out) (rw (length_cleaning_of w s) room))

  bytes : (s out : List ℕ) → DigitString w s → RoomEnoughOf w s out → bytes_written_of w s out ≡ cleaning_of w s
  unfolding bytes_written_of
  bytes s out given room = rw (answer s out given room) (take-append_seam (cleaning_of w s) (drop (length (cleaning_of w s)) out))

  string_cleaning : (s : List ℕ) → string_of (cleaning_of w s) ≡ naf w (string_value s)
  unfolding cleaning_of
  string_cleaning s = naf_back w most (string_value s) least

  digits_cleaning : (s : List ℕ) → length (cleaning_of w s) ≤ string_digits → DigitString w (cleaning_of w s)
  unfolding cleaning_of
  digits_cleaning s = naf_digits w most (string_value s) least

  same_cleaning : (s t : List ℕ) → string_value s ≡ string_value t → cleaning_of w s ≡ cleaning_of w t
  unfolding cleaning_of
  same_cleaning s t v = ap (λ (z : ℤ). digit_bytes (naf w z)) v

  -- with room enough, the length answered is that of the form of the value
  pub answered_length_of : (s out : List ℕ) → DigitString w s → RoomEnoughOf w s out → written_outcome (clean_answer_of w s (length out)) ≡ answered (length (naf w (string_value s)) ∷ [])
  answered_length_of s out given room = rw (answer s out given room, length_cleaning_of w s)

  -- two digit strings within the limit get the same length and the same bytes exactly if they stand for the same value
  pub same_exactly_of : (s t out₁ out₂ : List ℕ) → DigitString w s → DigitString w t → RoomEnoughOf w s out₁ → RoomEnoughOf w t out₂
      → ((written_outcome (clean_answer_of w s (length out₁)) ≡ written_outcome (clean_answer_of w t (length out₂))) × (bytes_written_of w s out₁ ≡ bytes_written_of w t out₂)) ↔ (string_value s ≡ string_value t)
  same_exactly_of s t out₁ out₂ gs gt rs rt = (λ h. to h.1, λ v. (from_answer v, from_bytes v))
    where
      to : bytes_written_of w s out₁ ≡ bytes_written_of w t out₂ → string_value s ≡ string_value t
      to e =
          let f : cleaning_of w s ≡ cleaning_of w t = sym (bytes s out₁ gs rs) ∙ e ∙ bytes t out₂ gt rt in
          let g : naf w (string_value s) ≡ naf w (string_value t) = sym (string_cleaning s) ∙ ap string_of f ∙ string_cleaning t in
          sym (naf_value w (string_value s) least) ∙ ap value g ∙ naf_value w (string_value t) least

      from_answer : string_value s ≡ string_value t → written_outcome (clean_answer_of w s (length out₁)) ≡ written_outcome (clean_answer_of w t (length out₂))
      from_answer v = answered_length_of s out₁ gs rs ∙ ap (λ (z : ℤ). answered (length (naf w z) ∷ [])) v ∙ sym (answered_length_of t out₂ gt rt)

      from_bytes : string_value s ≡ string_value t → bytes_written_of w s out₁ ≡ bytes_written_of w t out₂
      from_bytes v = bytes s out₁ gs rs ∙ same_cleaning s t v ∙ sym (bytes t out₂ gt rt)

  -- what is written is the form of the value: the form, and the same value
  pub written_form_of : (s out : List ℕ) → DigitString w s → RoomEnoughOf w s out
      → (string_of (bytes_written_of w s out) ≡ naf w (string_value s)) × NonAdjacent w (string_of (bytes_written_of w s out)) × (string_value (bytes_written_of w s out) ≡ string_value s)
  written_form_of s out given room =
      let e : string_of (bytes_written_of w s out) ≡ naf w (string_value s) = ap string_of (bytes s out given room) ∙ string_cleaning s in
      (e, rw e (naf_form w (string_value s) least), ap value e ∙ naf_value w (string_value s) least)

  -- cleaning what is written, where that is within the limit, answers the same length and writes the same bytes
  pub again_same_of : (s out again : List ℕ) → DigitString w s → RoomEnoughOf w s out → length (bytes_written_of w s out) ≤ string_digits → RoomEnoughOf w (bytes_written_of w s out) again
      → (written_outcome (clean_answer_of w (bytes_written_of w s out) (length again)) ≡ written_outcome (clean_answer_of w s (length out))) × (bytes_written_of w (bytes_written_of w s out) again ≡ bytes_written_of w s out)
  again_same_of s out again given room h more =
      let e = bytes s out given room in
      let g : DigitString w (bytes_written_of w s out) = rw e (digits_cleaning s (rw e at h)) in
      (same_exactly_of (bytes_written_of w s out) s again out g given more room).1 (written_form_of s out given room).2

  -- cleaning what is written is refused as too long exactly if that is longer than the limit
  pub again_refused_of : (s out again : List ℕ) → DigitString w s → RoomEnoughOf w s out
      → written_outcome (clean_answer_of w (bytes_written_of w s out) (length again)) ≡ refused 5 0 ↔ string_digits < length (bytes_written_of w s out)
  again_refused_of s out again given room =
      string.refuses_5 length_value w (bytes_written_of w s out) (cleaning_of w (bytes_written_of w s out)) (length again)

-- ---- the demand

-- with room enough, the length answered is that of the canonical string of the value
pub answered_length : (s out : List ℕ) → DigitString canonical_width s → RoomEnough s out → written_outcome (clean_answer s (length out)) ≡ answered (length (canonical (string_value s)) ∷ [])
answered_length = answered_length_of canonical_width (omega arith) (omega arith)

-- two signed digit strings within the limit get the same length and the same bytes exactly if they stand for the same value
pub same_exactly : (s t out₁ out₂ : List ℕ) → DigitString canonical_width s → DigitString canonical_width t → RoomEnough s out₁ → RoomEnough t out₂
    → ((written_outcome (clean_answer s (length out₁)) ≡ written_outcome (clean_answer t (length out₂))) × (bytes_written s out₁ ≡ bytes_written t out₂)) ↔ (string_value s ≡ string_value t)
same_exactly = same_exactly_of canonical_width (omega arith) (omega arith)

-- what is written is the canonical string of the value: the form, and the same value
pub written_canonical : (s out : List ℕ) → DigitString canonical_width s → RoomEnough s out
    → (string_of (bytes_written s out) ≡ canonical (string_value s)) × Canonical (string_of (bytes_written s out)) × (string_value (bytes_written s out) ≡ string_value s)
written_canonical s out given room =
    let h = written_form_of canonical_width (omega arith) (omega arith) s out given room in
    (h.0, (canonical_is (string_of (bytes_written s out))).1 h.1, h.2)

-- cleaning what is written, where that is within the limit, answers the same length and writes the same bytes
pub again_same : (s out again : List ℕ) → DigitString canonical_width s → RoomEnough s out → length (bytes_written s out) ≤ string_digits → RoomEnough (bytes_written s out) again
    → (written_outcome (clean_answer (bytes_written s out) (length again)) ≡ written_outcome (clean_answer s (length out))) × (bytes_written (bytes_written s out) again ≡ bytes_written s out)
again_same = again_same_of canonical_width (omega arith) (omega arith)

-- cleaning what is written is refused as too long exactly if that is longer than the limit
pub again_refused : (s out again : List ℕ) → DigitString canonical_width s → RoomEnough s out
    → written_outcome (clean_answer (bytes_written s out) (length again)) ≡ refused 5 0 ↔ string_digits < length (bytes_written s out)
again_refused = again_refused_of canonical_width (omega arith) (omega arith)

-- no signed digit string of any length that stands for the same value has fewer digits other than 0
pub fewest_nonzeros : (s out : List ℕ) → DigitString canonical_width s → RoomEnough s out → (ds : List ℤ) → SignedBits ds → value ds ≡ string_value s
    → nonzeros (string_of (bytes_written s out)) ≤ nonzeros ds
fewest_nonzeros s out given room ds bits e = rw (written_canonical s out given room).0 (fewest (string_value s) ds bits e)
