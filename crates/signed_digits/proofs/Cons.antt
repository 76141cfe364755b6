-- A form grown by a digit at its low end, the digits of an integer taken apart from the low end, and a string's length by its places. Assumes nothing.
use mathlib.Core.Path.{◌≡◌, refl, sym, ◌∙◌, ap}
use mathlib.Core.Logic.{◌≢◌}
use mathlib.Core.List.{List, [], ◌∷◌}
use Prim.Native.Nat.{ℕ, zero, suc, ◌-◌, ◌<◌, ◌≤◌}
use native.Mathlib.Omega.{arith}
use native.Mathlib.Decide.{dec_lt}
use lib.ListN.{length, get_or-eq_default}
use lib.IntN.{ℤ, pos, nat_abs, ◌+ℤ◌, ◌*ℤ◌, ℤ_discrete}
use Rattle.signed_digits.specs.Strings.{value, digit_at}
use Rattle.signed_digits.specs.Form.{TopNonzero}
use Rattle.signed_digits.specs.Naf.{naf}
use Rattle.signed_digits.proofs.Spaced.{Spaced, blank, digit, form_of_spaced}
use Rattle.signed_digits.proofs.Exists.{Shape, even, odd, naf_value, naf_spaced}
use Rattle.signed_digits.proofs.Unique.{naf_only}
use Rattle.signed_digits.proofs.Steps.{naf_zero}

module _ (w : ℕ) (wide : 2 ≤ w) where
  grown : (d z : ℤ) → Spaced w 0 (d ∷ naf w z) → naf w (d +ℤ pos 2 *ℤ z) ≡ d ∷ naf w z
  unfolding value
  grown d z s =
      let e : value (d ∷ naf w z) ≡ d +ℤ pos 2 *ℤ z = rw (naf_value w z wide) in
      ap (naf w) (sym e) ∙ sym (naf_only w (d ∷ naf w z) wide (form_of_spaced w (d ∷ naf w z) s))

  some_digits : (z : ℤ) → z ≢ pos 0 → 0 < length (naf w z)
  unfolding value
  some_digits z n = go (naf w z) refl
    where
      go : (ds : List ℤ) → naf w z ≡ ds → 0 < length ds
      go [] e = absurd (n (sym (naf_value w z wide) ∙ ap value e))
      go (d ∷ ds) e = omega arith

  -- the form of d + 2 z has the digit d and then those of z; also where both are 0, and it has no digits
  naf_cons : (d z : ℤ) → Shape w d (nat_abs z) → (i : ℕ) → digit_at (naf w (d +ℤ pos 2 *ℤ z)) i ≡ digit_at (d ∷ naf w z) i
  naf_cons d z (even e) i = go (ℤ_discrete z (pos 0)) i
    where
      go : Dec (z ≡ pos 0) → (i : ℕ) → digit_at (naf w (d +ℤ pos 2 *ℤ z)) i ≡ digit_at (d ∷ naf w z) i
      go (yes f) zero = rw (e, f, naf_zero w)
      go (yes f) (suc i) = rw (e, f, naf_zero w)
      go (no n) i = rw (grown d z (blank e (some_digits z n) (naf_spaced w 0 z wide (nat_abs z, omega arith))))
  naf_cons d z (odd o m) i = rw (grown d z (digit refl o (naf_spaced w (w - 1) z wide m)))

  -- What is left at place i is the digit d i and twice what is left at the next place: so the form has these digits.
  pub digits_taken : (left d : ℕ → ℤ) → ((i : ℕ) → left i ≡ d i +ℤ pos 2 *ℤ left (suc i)) → ((i : ℕ) → Shape w (d i) (nat_abs (left (suc i))))
      → (i : ℕ) → digit_at (naf w (left 0)) i ≡ d i
  digits_taken left d taken shape zero = ap (λ (z : ℤ). digit_at (naf w z) 0) (taken 0) ∙ naf_cons (d 0) (left 1) (shape 0) 0
  digits_taken left d taken shape (suc i) =
      ap (λ (z : ℤ). digit_at (naf w z) (suc i)) (taken 0)
      ∙ naf_cons (d 0) (left 1) (shape 0) (suc i)
      ∙ digits_taken (λ i. left (suc i)) (λ i. d (suc i)) (λ i. taken (suc i)) (λ i. shape (suc i)) i

-- the length is the place above the highest digit that is not 0
pub length_by_top : (ds : List ℤ) (n : ℕ) → TopNonzero ds → ((i : ℕ) → n ≤ i → digit_at ds i ≡ pos 0) → (0 < n → digit_at ds (n - 1) ≢ pos 0) → length ds ≡ n
length_by_top ds n top above last = go (dec_lt n (length ds)) (dec_lt (length ds) n)
  where
    go : Dec (n < length ds) → Dec (length ds < n) → length ds ≡ n
    go (yes l) _ = absurd (top (omega arith) (above (length ds - 1) (omega arith)))
    go (no l) (yes m) = absurd (last (omega arith) (get_or-eq_default ds (pos 0) {n = n - 1} (omega arith)))
    go (no l) (no m) = omega arith
