-- Takes one after the other give the canonical digits, lowest first, then done; shown from what a take promises alone. Assumes nothing.
use Rattle.std.specs.Prelude.{Option}
use mathlib.Core.Path.{◌≡◌, refl, sym, ap, ◌∙◌}
use mathlib.Core.List.{List, [], ◌∷◌}
use Prim.Native.Nat.{ℕ, zero, suc, ◌≤◌}
use native.Mathlib.Omega.{arith}
use lib.IntN.{ℤ, pos}
use lib.ListN.{length}
use Rattle.rules.specs.Outcome.{refused, done}
use Rattle.numbers.specs.Admission.{Admitted}
use Rattle.signed_digits.specs.Naf.{canonical}
use Rattle.signed_digits.specs.Bytes.{digit_bytes}
use Rattle.signed_digits.proofs.Steps.{naf_zero, naf_step}
use Rattle.taking.specs.declared.Recoder.{Recoder}
use Rattle.taking.specs.declared.Started.{Started}
use Rattle.recoding.specs.Recode.{recoding_of, recoding}
use Rattle.taking.specs.Take.{stands_for, start_number, start_outcome, take_answer, take_leaves, take_outcome, IsStart, Run, digit_outcome, digits_to_come}
use Rattle.taking.proofs.Promises.{start_number_lem, refused_number}

-- the first take gives the lowest digit of n
pub digits_of_lem : (n : ℕ) → digit_outcome (digit_bytes (canonical (pos n))) 0 ≡ take_outcome (take_answer n)
digits_of_lem zero = rw (naf_zero 2)
digits_of_lem (suc n) = rw (naf_step 2 (suc n) (omega arith) (omega arith))

-- the takes after it give the digits of what is left
pub digits_after : (n k : ℕ) → digit_outcome (digit_bytes (canonical (pos n))) (suc k) ≡ digit_outcome (digit_bytes (canonical (pos (take_leaves n)))) k
digits_after zero k = rw (naf_zero 2)
digits_after (suc n) k = rw (naf_step 2 (suc n) (omega arith) (omega arith))

-- takes one after the other, by the numbers that are left
pub numbers_taken : (n : ℕ → ℕ) → ((k : ℕ) → n (suc k) ≡ take_leaves (n k)) → (k : ℕ)
    → take_outcome (take_answer (n k)) ≡ digit_outcome (digit_bytes (canonical (pos (n 0)))) k
numbers_taken n left zero = sym (digits_of_lem (n 0))
numbers_taken n left (suc k) =
    numbers_taken (λ i. n (suc i)) (λ i. left (suc i)) k
    ∙ ap (λ (m : ℕ). digit_outcome (digit_bytes (canonical (pos m))) k) (left 0)
    ∙ sym (digits_after (n 0) k)

-- the takes of any recoder, also of one put together by hand
pub takes : (w : ℕ → Recoder) (a : ℕ → Option ℕ) → Run w a → (k : ℕ) → take_outcome (a k) ≡ digit_outcome (digits_to_come (w 0)) k
unfolding digits_to_come
takes w a run k = ap take_outcome (run k).answer ∙ numbers_taken (λ i. stands_for (w i)) (λ i. (run i).next) k

-- ---- after the last digit: done, and the recoder unchanged

none_left : (n : ℕ) → length (digit_bytes (canonical (pos n))) ≤ 0 → n ≡ 0
none_left zero h = refl
none_left (suc n) h =
    absurd (omega (arith, h, ap (λ (ds : List ℤ). length (digit_bytes ds)) (naf_step 2 (suc n) (omega arith) (omega arith))))

fewer_left : (n k : ℕ) → length (digit_bytes (canonical (pos n))) ≤ suc k → length (digit_bytes (canonical (pos (take_leaves n)))) ≤ k
fewer_left zero k h = rw (naf_zero 2) (omega arith)
fewer_left (suc n) k h =
    omega (arith, h, ap (λ (ds : List ℤ). length (digit_bytes ds)) (naf_step 2 (suc n) (omega arith) (omega arith)))

digits_end : (ds : List ℕ) (k : ℕ) → length ds ≤ k → digit_outcome ds k ≡ done
digits_end [] k h = refl
digits_end (d ∷ ds) zero h = absurd (omega arith)
digits_end (d ∷ ds) (suc k) h = digits_end ds k (omega arith)

unchanged : (w : ℕ → Recoder) (a : ℕ → Option ℕ) → Run w a → (k : ℕ) → length (digits_to_come (w 0)) ≤ k → w (suc k) ≡ w k
unfolding digits_to_come
unchanged w a run zero h = (run 0).done (none_left (stands_for (w 0)) h)
unchanged w a run (suc k) h =
    let less : length (digit_bytes (canonical (pos (stands_for (w 1))))) ≤ k = rw (run 0).next (fewer_left (stands_for (w 0)) k h) in
    unchanged (λ i. w (suc i)) (λ i. a (suc i)) (λ i. run (suc i)) k less

pub stays : (w : ℕ → Recoder) (a : ℕ → Option ℕ) → Run w a → (k : ℕ) → length (digits_to_come (w 0)) ≤ k → (take_outcome (a k) ≡ done) × (w (suc k) ≡ w k)
stays w a run k h = (takes w a run k ∙ digits_end (digits_to_come (w 0)) k h, unchanged w a run k h)

-- ---- from the start of taking on

module _ (number : List ℕ) (s : Started) (w : ℕ → Recoder) (a : ℕ → Option ℕ) (start : IsStart number s) (first : w 0 ≡ s.recoder) (run : Run w a) where
  -- the takes by the number that the start hands back
  takes_from : (n : ℕ) → start_number number ≡ n → (k : ℕ) → take_outcome (a k) ≡ digit_outcome (digit_bytes (canonical (pos n))) k
  unfolding digits_to_come
  takes_from n e k =
      takes w a run k ∙ ap (λ (n : ℕ). digit_outcome (digit_bytes (canonical (pos n))) k) (ap stands_for first ∙ start.recoder ∙ e)

  -- the canonical digits of the number, as recode writes them
  pub takes_number : Admitted number → (k : ℕ) → take_outcome (a k) ≡ digit_outcome (recoding number) k
  unfolding recoding_of
  takes_number admitted k = takes_from _ (start_number_lem number admitted) k

  -- those of zero after a refusal: done from the first take on
  pub takes_refused : (n p : ℕ) → start_outcome s.answer ≡ refused n p → (k : ℕ) → take_outcome (a k) ≡ done
  takes_refused n p e k = takes_from 0 (refused_number number n p (ap start_outcome (sym start.answer) ∙ e)) k ∙ rw (naf_zero 2)
