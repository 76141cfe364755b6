-- What is left of a natural number after some digits of width w: the digits from there on are its own.
use mathlib.Core.Path.{◌≡◌, refl, sym, ap, ◌∙◌}
use Prim.Native.Nat.{ℕ, zero, suc, ◌+◌, ◌-◌, ◌<◌, ◌≤◌}
use native.Mathlib.Numerals.{add-one}
use native.Mathlib.Omega.{arith}
use lib.IntN.{pos}
use lib.ListN.{length, drop, length-drop}
use lib.Seq.{drop-drop}
use Rattle.signed_digits.specs.Strings.{value, digit_at}
use Rattle.signed_digits.specs.Naf.{low_digit, rest, naf}
use Rattle.signed_digits.proofs.Steps.{rest_less, naf_zero, naf_step}
use Rattle.signed_digits.proofs.Parts.{negative_part}
use Rattle.signed_digits.proofs.Exists.{step, naf_value}
use Rattle.signed_digits.proofs.Width.{low_minus}

unfoldable pub rests : ℕ → ℕ → ℕ → ℕ
rests w zero n = n
rests w (suc i) n = rest w (rests w i n)

low_none : (w : ℕ) → low_digit w 0 ≡ pos 0
unfolding low_digit
low_none w = refl

rest_none : (w : ℕ) → rest w 0 ≡ 0
unfolding rest low_digit
rest_none w = refl

module _ (w : ℕ) (wide : 2 ≤ w) where
  pub some_digits : (n : ℕ) → 0 < n → 0 < length (naf w (pos n))
  some_digits n h = rw (naf_step w n wide h) (omega arith)

  -- what is left is no larger
  pub rests_le : (i n : ℕ) → rests w i n ≤ n
  unfolding rests
  rests_le zero n = omega arith
  rests_le (suc i) n = go (rests w i n) (rests_le i n)
    where
      go : (m : ℕ) → m ≤ n → rest w m ≤ n
      go zero h = rw rest_none (omega arith)
      go (suc m) h = omega (arith, rest_less w (suc m) wide (omega arith))

  -- what a digit below zero is subtracted from, or else what is left there, is largest at the lowest place
  pub before_le : (i n : ℕ) → rests w i n + negative_part (low_digit w (rests w i n)) ≤ n + negative_part (low_digit w n)
  unfolding rests
  before_le zero n = omega arith
  before_le (suc i) n = omega (arith, before_le i n, (step w wide (rests w i n)).sum, low_minus w wide (rest w (rests w i n)))

  -- the digits from place i on
  pub digits_left : (i n : ℕ) → drop i (naf w (pos n)) ≡ naf w (pos (rests w i n))
  unfolding rests
  digits_left zero n = refl
  digits_left (suc i) n = rw (← add-one i, ← drop-drop 1 i (naf w (pos n)), digits_left i n) (go (rests w i n))
    where
      go : (m : ℕ) → drop 1 (naf w (pos m)) ≡ naf w (pos (rest w m))
      go zero = rw (rest_none w, naf_zero w)
      go (suc m) = rw (naf_step w (suc m) wide (omega arith))

  pub value_left : (i n : ℕ) → value (drop i (naf w (pos n))) ≡ pos (rests w i n)
  value_left i n = ap value (digits_left i n) ∙ naf_value w (pos (rests w i n)) wide

  pub length_left : (i n : ℕ) → length (naf w (pos (rests w i n))) ≡ length (naf w (pos n)) - i
  length_left i n = sym (ap length (digits_left i n)) ∙ length-drop i (naf w (pos n))

  -- below the end of the string something is left
  pub some_left : (i n : ℕ) → i < length (naf w (pos n)) → 0 < rests w i n
  some_left i n h = go (rests w i n) (length_left i n)
    where
      go : (m : ℕ) → length (naf w (pos m)) ≡ length (naf w (pos n)) - i → 0 < m
      go zero z = absurd (omega (arith, ap length (naf_zero w)))
      go (suc m) z = omega arith

  -- the digit at a place is the lowest digit of n, or a digit of what is left of n; also at 0, which has no digits
  pub lowest : (n : ℕ) → digit_at (naf w (pos n)) 0 ≡ low_digit w n
  lowest zero = rw (naf_zero w) (sym (low_none w))
  lowest (suc n) = rw (naf_step w (suc n) wide (omega arith))

  pub higher : (n i : ℕ) → digit_at (naf w (pos n)) (suc i) ≡ digit_at (naf w (pos (rest w n))) i
  higher zero i = rw (naf_zero w, rest_none w, naf_zero w)
  higher (suc n) i = rw (naf_step w (suc n) wide (omega arith))

  rests_inner : (i n : ℕ) → rests w (suc i) n ≡ rests w i (rest w n)
  unfolding rests
  rests_inner zero n = refl
  rests_inner (suc i) n = ap (rest w) (rests_inner i n)

  -- the digit at a place is the lowest of what is left there
  pub digit_left : (i n : ℕ) → digit_at (naf w (pos n)) i ≡ low_digit w (rests w i n)
  unfolding rests
  digit_left zero n = lowest n
  digit_left (suc i) n = higher n i ∙ digit_left i (rest w n) ∙ ap (low_digit w) (sym (rests_inner i n))
