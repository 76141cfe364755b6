-- Read back over the width of the digits: the outcome by its tests, and what it gives of what recode writes. Assumes nothing.
use Rattle.rules.specs.declared.Refusal.{Refusal}
use Rattle.std.specs.Prelude.{Result, Ok, Err}
use mathlib.Core.Path.{◌≡◌, refl, ◌∙◌}
use mathlib.Core.List.{List, [], ◌∷◌, ◌++◌}
use Prim.Native.Nat.{ℕ, ◌≤◌}
use native.Mathlib.Omega.{arith}
use lib.IntN.{ℤ, pos}
use lib.ListN.{length, drop}
use Rattle.rules.specs.Limits.{least_width, largest_width}
use Rattle.rules.specs.Outcome.{Outcome, answered, outcome_of}
use Rattle.rules.proofs.Memory as memory
use Rattle.integers.specs.Positional.{bytes_value, bytes_of}
use Rattle.integers.specs.Signed.{sign_of}
use Rattle.integers.proofs.Positional.{Below}
use Rattle.numbers.specs.Admission.{Admitted}
use Rattle.numbers.proofs.Spelling.{own_bytes}
use Rattle.digit_strings.specs.Admission.{string_verdict, string_value, DigitString}
use Rattle.digit_strings.proofs.Bytes.{naf_digits, naf_bytes_value}
use Rattle.digit_strings.proofs.Given as goal
use Rattle.recoding.specs.Recode.{recoding_of}
use Rattle.recoding.proofs.Promises.{recoding_length_of}
use Rattle.reading.specs.ReadBack.{size_bytes, read_length_of, with_sign, read_answer_of, read_buffer_of, read_back_outcome}

-- the sign goes with the length
abbrev pub values : List ℕ → ℕ → List ℕ
values digits n = sign_of (string_value digits) ∷ n ∷ []

pub with_sign_lem : (sign : ℕ) (w : Result ℕ Refusal) → read_back_outcome (with_sign sign w) ≡ outcome_of (λ n. sign ∷ n ∷ []) w
with_sign_lem sign (Ok n) = refl
with_sign_lem sign (Err r) = refl

module _ (w : ℕ) (digits : List ℕ) (room : ℕ) where
  -- the outcome, in the rules' numbers
  abbrev pub outcome : Outcome
  outcome = read_back_outcome (read_answer_of w digits room)

  pub outcome_is : outcome ≡ goal.outcome (values digits) w digits (size_bytes digits) room
  outcome_is = with_sign_lem (sign_of (string_value digits)) (read_length_of w digits room)

-- ---- a digit string whose value is that of an admitted number

module _ (w : ℕ) (number : List ℕ) (bytes : Below 256 number) (admitted : Admitted number) (digits : List ℕ) (string-is : DigitString w digits) (v : string_value digits ≡ pos (bytes_value number)) where
  -- read back with room enough, it gives the number's own bytes
  pub reads_number : (out : List ℕ) → length number ≤ length out
      → (outcome w digits (length out) ≡ answered (0 ∷ length number ∷ [])) × (read_buffer_of w digits out ≡ number ++ drop (length number) out)
  unfolding size_bytes
  reads_number out = go number (own_bytes number bytes admitted)
    where
      go : (own : List ℕ) → own ≡ bytes_of (bytes_value number) → length own ≤ length out
          → (outcome w digits (length out) ≡ answered (0 ∷ length own ∷ [])) × (read_buffer_of w digits out ≡ own ++ drop (length own) out)
      go own e h =
          let is = outcome_is w digits (length out) in
          let o = (goal.answers (values digits) w digits (size_bytes digits) (length out) (0 ∷ length own ∷ [])).1 (string-is, rw (v, ← e) h, rw (v, e)) in
          (is ∙ o, memory.answered_leaves (values digits) (string_verdict w digits) (size_bytes digits) out _ o ∙ rw (v, e))

-- ---- what recode writes

module _ (w : ℕ) (least : least_width ≤ w) (number : List ℕ) (bytes : Below 256 number) where
  module _ (most : w ≤ largest_width) (admitted : Admitted number) where
    -- a digit string of the number's value
    pub recoding_reads : DigitString w (recoding_of w number) × (string_value (recoding_of w number) ≡ pos (bytes_value number))
    unfolding recoding_of
    recoding_reads =
        let z : ℤ = pos (bytes_value number) in
        (naf_digits w most z least (omega (arith, recoding_length_of w number least bytes, admitted.short)), naf_bytes_value w most z least)

    -- read back with room enough, it gives the number's own bytes
    pub reads_recoding : (out : List ℕ) → length number ≤ length out
        → (outcome w (recoding_of w number) (length out) ≡ answered (0 ∷ length number ∷ [])) × (read_buffer_of w (recoding_of w number) out ≡ number ++ drop (length number) out)
    reads_recoding = reads_number w number bytes admitted (recoding_of w number) recoding_reads.0 recoding_reads.1
