-- Takes of a kept recoder one after the other give the canonical digits, lowest first, then done; shown from what the exported calls promise alone.
-- Assumes nothing.
use mathlib.Core.Path.{◌≡◌, refl, ap, ◌∙◌}
use mathlib.Core.List.{List, [], ◌∷◌}
use Prim.Native.Nat.{ℕ, zero, suc}
use lib.IntN.{pos}
use Rattle.rules.specs.Outcome.{Outcome, refused, answered, done}
use Rattle.numbers.specs.Admission.{Admitted}
use Rattle.signed_digits.specs.Naf.{low_digit, canonical}
use Rattle.signed_digits.specs.Bytes.{digit_byte, digit_bytes}
use Rattle.signed_digits.proofs.Steps.{naf_zero, low_digit_2, by_four}
use Rattle.recoding.specs.Recode.{recoding_of, recoding}
use Rattle.taking.specs.Take.{start_answer, start_number, start_outcome, take_answer, take_outcome, digit_outcome}
use Rattle.taking.proofs.Takes.{numbers_taken}
use Rattle.taking.proofs.Promises.{start_number_lem, refused_number}
use Rattle.c_recoder.specs.Kept.{kept_number, taken_number, taken_outcome, IsKeptTake}

-- no digit's byte is the number of done
a_digit : (n : ℕ) → taken_outcome (digit_byte (low_digit 2 n)) ≡ answered (digit_byte (low_digit 2 n) ∷ [])
a_digit = by_four _ (λ q. (rw (low_digit_2 q).0, rw (low_digit_2 q).1, rw (low_digit_2 q).2, rw (low_digit_2 q).3))

told : (n : ℕ) → taken_outcome (taken_number (take_answer n)) ≡ take_outcome (take_answer n)
told zero = refl
told (suc n) = a_digit (suc n)

-- the k-th outcome by the canonical digits of a number
abbrev outcome_at : ℕ → ℕ → Outcome
outcome_at n k = digit_outcome (digit_bytes (canonical (pos n))) k

-- take k finds the words w k, leaves w (k + 1) and answers a k; also from words put together by hand
pub kept_takes : (w : ℕ → List ℕ) (a : ℕ → ℕ) → ((k : ℕ) → IsKeptTake (w k) (w (suc k)) (a k)) → (k : ℕ)
    → taken_outcome (a k) ≡ digit_outcome (digit_bytes (canonical (pos (kept_number (w 0))))) k
kept_takes w a run k = ap taken_outcome (run k).answer ∙ told (kept_number (w k)) ∙ numbers_taken (λ i. kept_number (w i)) (λ i. (run i).next) k

module _ (number : List ℕ) (w : ℕ → List ℕ) (a : ℕ → ℕ) (start : kept_number (w 0) ≡ start_number number) (run : (k : ℕ) → IsKeptTake (w k) (w (suc k)) (a k)) where
  -- from lesmutka_start on: the number's digits, then done
  pub kept_takes_number : Admitted number → (k : ℕ) → taken_outcome (a k) ≡ digit_outcome (recoding number) k
  unfolding recoding_of
  kept_takes_number h k = kept_takes w a run k ∙ ap (λ (n : ℕ). outcome_at n k) (start ∙ start_number_lem number h)

  -- after its refusal: done, and nothing else
  pub kept_takes_refused : (n p : ℕ) → start_outcome (start_answer number) ≡ refused n p → (k : ℕ) → taken_outcome (a k) ≡ done
  kept_takes_refused n p e k =
      kept_takes w a run k ∙ ap (λ (n : ℕ). outcome_at n k) (start ∙ refused_number number n p e) ∙ rw (naf_zero 2)
