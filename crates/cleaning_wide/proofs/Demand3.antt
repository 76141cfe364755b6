-- Demand 3 (docs/PROMISES.md) for each width, the non-adjacent form of that width in place of the canonical string; all of it but the fewest digits, which stays with
-- width 2. Assumes nothing.
use mathlib.Core.Path.{◌≡◌}
use mathlib.Core.Logic.{◌↔◌}
use mathlib.Core.List.{List, [], ◌∷◌}
use Prim.Native.Nat.{ℕ, ◌<◌, ◌≤◌}
use lib.ListN.{length}
use Rattle.rules.specs.Limits.{string_digits}
use Rattle.rules.specs.Outcome.{refused, answered, written_outcome}
use Rattle.signed_digits.specs.Form.{NonAdjacent}
use Rattle.signed_digits.specs.Naf.{naf}
use Rattle.signed_digits.specs.Bytes.{string_of}
use Rattle.digit_strings.specs.Admission.{string_value, DigitString}
use Rattle.widths.specs.Width.{AllowedWidth}
use Rattle.widths.proofs.Tests.{wide_tests}
use Rattle.cleaning.specs.Clean.{clean_answer_of, RoomEnoughOf, bytes_written_of}
use Rattle.cleaning.proofs.Demand3.{answered_length_of, same_exactly_of, written_form_of, again_same_of, again_refused_of}
use Rattle.cleaning_wide.specs.CleanWide.{clean_wide_answer, wide_bytes_written}

module _ (w : ℕ) (allowed : AllowedWidth w) where
  -- past the test of the width, it is clean over the width
  answer_is : (s : List ℕ) (room : ℕ) → clean_wide_answer w s room ≡ clean_answer_of w s room
  answer_is s room = rw (wide_tests w allowed s)

  written_is : (s out : List ℕ) → wide_bytes_written w s out ≡ bytes_written_of w s out
  unfolding wide_bytes_written bytes_written_of
  written_is s out = rw (wide_tests w allowed s)

  -- with room enough, the length answered is that of the form of the value
  pub answered_length : (s out : List ℕ) → DigitString w s → RoomEnoughOf w s out → written_outcome (clean_wide_answer w s (length out)) ≡ answered (length (naf w (string_value s)) ∷ [])
  answered_length s out given room = rw (answer_is s (length out)) (answered_length_of w allowed.least allowed.most s out given room)

  -- two digit strings within the limit get the same length and the same bytes exactly if they stand for the same value
  pub same_exactly : (s t out₁ out₂ : List ℕ) → DigitString w s → DigitString w t → RoomEnoughOf w s out₁ → RoomEnoughOf w t out₂
      → ((written_outcome (clean_wide_answer w s (length out₁)) ≡ written_outcome (clean_wide_answer w t (length out₂))) × (wide_bytes_written w s out₁ ≡ wide_bytes_written w t out₂)) ↔ (string_value s ≡ string_value t)
  same_exactly s t out₁ out₂ gs gt rs rt =
      rw (answer_is s (length out₁), answer_is t (length out₂), written_is s out₁, written_is t out₂) (same_exactly_of w allowed.least allowed.most s t out₁ out₂ gs gt rs rt)

  -- what is written is the form of the value: the form, and the same value
  pub written_form : (s out : List ℕ) → DigitString w s → RoomEnoughOf w s out
      → (string_of (wide_bytes_written w s out) ≡ naf w (string_value s)) × NonAdjacent w (string_of (wide_bytes_written w s out)) × (string_value (wide_bytes_written w s out) ≡ string_value s)
  written_form s out given room = rw (written_is s out) (written_form_of w allowed.least allowed.most s out given room)

  -- cleaning what is written, where that is within the limit, answers the same length and writes the same bytes
  pub again_same : (s out again : List ℕ) → DigitString w s → RoomEnoughOf w s out → length (wide_bytes_written w s out) ≤ string_digits → RoomEnoughOf w (wide_bytes_written w s out) again
      → (written_outcome (clean_wide_answer w (wide_bytes_written w s out) (length again)) ≡ written_outcome (clean_wide_answer w s (length out))) × (wide_bytes_written w (wide_bytes_written w s out) again ≡ wide_bytes_written w s out)
  again_same s out again given room h more =
      rw (written_is s out, answer_is s (length out), answer_is (bytes_written_of w s out) (length again), written_is (bytes_written_of w s out) again)
      (again_same_of w allowed.least allowed.most s out again given room (rw (written_is s out) at h) (rw (written_is s out) at more))

  -- cleaning what is written is refused as too long exactly if that is longer than the limit
  pub again_refused : (s out again : List ℕ) → DigitString w s → RoomEnoughOf w s out
      → written_outcome (clean_wide_answer w (wide_bytes_written w s out) (length again)) ≡ refused 5 0 ↔ string_digits < length (wide_bytes_written w s out)
  again_refused s out again given room =
      rw (written_is s out, answer_is (bytes_written_of w s out) (length again)) (again_refused_of w allowed.least allowed.most s out again given room)
