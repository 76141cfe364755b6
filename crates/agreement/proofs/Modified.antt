-- What recode modified writes is a digit string for the number: read back gives the number, and clean gives what recode writes. Assumes nothing.
use mathlib.Core.Path.{◌≡◌, refl, ap, ◌∙◌}
use mathlib.Core.List.{List, [], ◌∷◌, ◌++◌}
use Prim.Native.Nat.{ℕ, ◌≤◌}
use native.Mathlib.Omega.{arith}
use lib.IntN.{pos}
use lib.ListN.{length, drop}
use Rattle.rules.specs.Outcome.{answered}
use Rattle.integers.specs.Positional.{bytes_value}
use Rattle.integers.proofs.Positional.{Below}
use Rattle.numbers.specs.Admission.{Admitted}
use Rattle.numbers.proofs.Tests.{admitted_is}
use Rattle.signed_digits.specs.Strings.{value}
use Rattle.signed_digits.specs.Naf.{canonical_width}
use Rattle.signed_digits.specs.Modified.{modified}
use Rattle.signed_digits.proofs.Canonical.{odd_bit}
use Rattle.signed_digits.proofs.Modified.{modified_bits, modified_value}
use Rattle.digit_strings.specs.Admission.{string_value, DigitString}
use Rattle.digit_strings.proofs.Bytes.{digits_bytes}
use Rattle.digit_strings.proofs.Tests.{digit_string_is}
use Rattle.recoding.specs.Recode.{recoding_of, recoding, recode_buffer}
use Rattle.recoding.proofs.Promises as recode
use Rattle.recoding_modified.specs.RecodeModified.{modified_recoding}
use Rattle.recoding_modified.proofs.Promises.{written_form, recoding_length}
use Rattle.cleaning.specs.Clean.{cleaning_of, cleaning, clean_buffer}
use Rattle.cleaning.proofs.Promises as clean
use Rattle.reading.specs.ReadBack.{read_back_buffer}
use Rattle.reading.proofs.OfWidth.{reads_number}
use Rattle.reading.proofs.Promises as read

module _ (number : List ℕ) (admitted : Admitted number) (bytes : Below 256 number) where
  -- a digit string of the number's value
  pub modified_reads : DigitString canonical_width (modified_recoding number) × (string_value (modified_recoding number) ≡ pos (bytes_value number))
  unfolding modified_recoding
  modified_reads = (
    digits_bytes canonical_width (omega arith) (modified (bytes_value number)) (λ i. odd_bit _ (modified_bits (bytes_value number) i)) (omega (arith, recoding_length number bytes, admitted.short)),
    ap value (written_form number) ∙ modified_value (bytes_value number),
  )

  -- read back with room enough, it gives the number's own bytes
  pub reads_modified : (out : List ℕ) → length number ≤ length out
      → (read.outcome (modified_recoding number) (length out) ≡ answered (0 ∷ length number ∷ [])) × (read_back_buffer (modified_recoding number) out ≡ number ++ drop (length number) out)
  reads_modified = reads_number canonical_width number bytes admitted (modified_recoding number) modified_reads.0 modified_reads.1

  -- cleaned, it gives what recode writes
  cleaned : cleaning (modified_recoding number) ≡ recoding number
  unfolding cleaning_of recoding_of
  cleaned = rw modified_reads.1

  -- so clean answers and leaves what recode does
  pub cleans_modified : (out : List ℕ) → (clean.outcome (modified_recoding number) (length out) ≡ recode.outcome number (length out)) × (clean_buffer (modified_recoding number) out ≡ recode_buffer number out)
  cleans_modified out = rw (cleaned, (digit_string_is canonical_width (modified_recoding number)).1 modified_reads.0, (admitted_is number).1 admitted) (refl, refl)
