-- Each verdict on a number with what it is given for, and no other. Assumes nothing.
use Rattle.std.specs.Prelude.{Result, Ok, Err}
use mathlib.Core.Path.{◌≡◌, sym, ap}
use mathlib.Core.Logic.{◌↔◌, ◌≢◌, ◌⊎◌, inl, inr}
use mathlib.Core.Bool.{true, false}
use mathlib.Core.List.{List, []}
use Prim.Native.Nat.{ℕ, ◌-◌, ◌<◌, ◌≤◌}
use borrow.Author.Tests.{lt-ltb, le-ltb, eq-eqb, ne_eqb}
use native.Mathlib.Decide.{dec_lt, ℕ_discrete}
use native.Mathlib.Omega.{arith}
use lib.Dec.{eqb}
use lib.ListN.{length, get_or, take}
use lib.Seq.{take_all}
use Rattle.rules.specs.Limits.{number_bytes}
use Rattle.rules.specs.declared.Refusal.{Refusal}
use Rattle.rules.specs.declared.Refusal.TheVariants.{NumberTooLong, NumberIsZero, HighestByteIsZero}
use Rattle.integers.specs.Positional.{bytes_value, Unpadded}
use Rattle.integers.proofs.Positional.{all_significant, significant_some, zero_if_empty}
use Rattle.numbers.specs.Admission.{Padded, is_padded, number_verdict, positive_verdict, Admitted, Positive}

module _ (number : List ℕ) where
  -- ---- the highest byte

  padded_true : Padded number → is_padded number ≡ true
  unfolding is_padded
  padded_true p = rw (lt-ltb 0 (length number) p.some, eq-eqb (get_or number (length number - 1) 0) 0 p.highest_zero)

  pub padded_false : Unpadded number → is_padded number ≡ false
  unfolding is_padded
  padded_false top = go (dec_lt 0 (length number))
    where
      go : Dec (0 < length number) → is_padded number ≡ false
      go (yes h) = rw (lt-ltb 0 (length number) h, ne_eqb (get_or number (length number - 1) 0) 0 (top h))
      go (no h) = rw (le-ltb 0 (length number) (omega arith))

  by_top : Padded number ⊎ Unpadded number
  by_top = go (dec_lt 0 (length number)) (ℕ_discrete (get_or number (length number - 1) 0) 0)
    where
      go : Dec (0 < length number) → Dec (get_or number (length number - 1) 0 ≡ 0) → Padded number ⊎ Unpadded number
      go (no h) _ = inr (λ l. absurd (h l))
      go (yes h) (no n) = inr (λ l. n)
      go (yes h) (yes z) = inl (record { some = h; highest_zero = z })

  -- ---- refusals 1 and 13

  pub data NumberTest : Result Unit Refusal → Type 0 where
    too_long : number_bytes < length number → NumberTest (Err NumberTooLong)
    padded : length number ≤ number_bytes → Padded number → NumberTest (Err HighestByteIsZero)
    admitted : Admitted number → NumberTest (Ok tt)

  pub number_only : {v : Result Unit Refusal} → NumberTest v → number_verdict number ≡ v
  unfolding number_verdict
  number_only (too_long h) = rw (lt-ltb number_bytes (length number) h)
  number_only (padded h p) = rw (le-ltb number_bytes (length number) h, padded_true p)
  number_only (admitted a) = rw (le-ltb number_bytes (length number) a.short, padded_false a.top)

  pub number_test : NumberTest (number_verdict number)
  number_test = go (dec_lt number_bytes (length number)) by_top
    where
      be : {v : Result Unit Refusal} → NumberTest v → NumberTest (number_verdict number)
      be t = rw (number_only t) t

      go : Dec (number_bytes < length number) → Padded number ⊎ Unpadded number → NumberTest (number_verdict number)
      go (yes h) _ = be (too_long h)
      go (no h) (inl p) = be (padded (omega arith) p)
      go (no h) (inr t) = be (admitted (record { short = omega arith; top = t }))

  pub admitted_is : number_verdict number ≡ Ok tt ↔ Admitted number
  admitted_is = (λ e. elim (rw e at number_test) [ admitted a ↦ a ], λ a. number_only (admitted a))

  -- ---- then refusal 2

  pub data PositiveTest : Result Unit Refusal → Type 0 where
    refused : {r : Refusal} → NumberTest (Err r) → PositiveTest (Err r)
    is_zero : Admitted number → bytes_value number ≡ 0 → PositiveTest (Err NumberIsZero)
    positive : Positive number → PositiveTest (Ok tt)

  pub positive_only : {v : Result Unit Refusal} → PositiveTest v → positive_verdict number ≡ v
  unfolding positive_verdict
  positive_only (refused t) = rw (number_only t)
  positive_only (is_zero a z) = rw (number_only (admitted a), eq-eqb (bytes_value number) 0 z)
  positive_only (positive p) = rw (number_only (admitted p.admitted), ne_eqb (bytes_value number) 0 p.nonzero)

  pub positive_test : PositiveTest (positive_verdict number)
  positive_test = go (number_verdict number) number_test (ℕ_discrete (bytes_value number) 0)
    where
      go : (v : Result Unit Refusal) → NumberTest v → Dec (bytes_value number ≡ 0) → PositiveTest (positive_verdict number)
      go (Err r) t _ = let p = refused t in rw (positive_only p) p
      go (Ok tt) (admitted a) (yes z) = let p = is_zero a z in rw (positive_only p) p
      go (Ok tt) (admitted a) (no n) = let p = positive (record { admitted = a; nonzero = n }) in rw (positive_only p) p

-- ---- what the code's tests say of the highest byte and of refusals 1 and 13

pub padded_none : (number : List ℕ) → length number ≡ 0 → false ≡ is_padded number
unfolding is_padded
padded_none number e = rw e

pub padded_highest : (number : List ℕ) → 0 < length number → eqb (get_or number (length number - 1) 0) 0 ≡ is_padded number
unfolding is_padded
padded_highest number h = rw (lt-ltb 0 (length number) h)

pub verdict_too_long : (number : List ℕ) → number_bytes < length number → Err NumberTooLong ≡ number_verdict number
unfolding number_verdict
verdict_too_long number h = rw (lt-ltb number_bytes (length number) h)

pub verdict_padded : (number : List ℕ) → length number ≤ number_bytes → is_padded number ≡ true → Err HighestByteIsZero ≡ number_verdict number
unfolding number_verdict
verdict_padded number h p = rw (le-ltb number_bytes (length number) h, p)

pub verdict_passed : (number : List ℕ) → length number ≤ number_bytes → is_padded number ≡ false → Ok tt ≡ number_verdict number
unfolding number_verdict
verdict_passed number h p = rw (le-ltb number_bytes (length number) h, p)

-- ---- the empty number is admitted, and zero; no other admitted number is zero

-- no byte of it stands above the limit
pub admitted_value : (number : List ℕ) → Admitted number → bytes_value (take number_bytes number) ≡ bytes_value number
admitted_value number a = ap bytes_value (take_all number_bytes number a.short)

pub empty_admitted : Admitted []
empty_admitted = record { short = omega arith; top = λ h. absurd (omega arith) }

pub nonzero_if_some : (number : List ℕ) → Admitted number → length number ≢ 0 → bytes_value number ≢ 0
nonzero_if_some number a = significant_some number (length number) (all_significant number a.top)

-- ---- what the code's test says of refusal 2

pub positive_zero : (number : List ℕ) → number_verdict number ≡ Ok tt → length number ≡ 0 → Err NumberIsZero ≡ positive_verdict number
positive_zero number e z = sym (positive_only number (is_zero ((admitted_is number).0 e) (zero_if_empty number z)))

pub positive_passed : (number : List ℕ) → number_verdict number ≡ Ok tt → length number ≢ 0 → Ok tt ≡ positive_verdict number
positive_passed number e n =
    let a = (admitted_is number).0 e in
    sym (positive_only number (positive (record { admitted = a; nonzero = nonzero_if_some number a n })))

pub positive_is : (number : List ℕ) → positive_verdict number ≡ Ok tt ↔ Positive number
positive_is number = (λ e. elim (rw e at (positive_test number)) [ positive p ↦ p ], λ p. positive_only number (positive p))
