-- The canonical string, by its neighbouring digits (docs/RULES.md, 2.3), is the non-adjacent form of width 2: each integer has exactly one.
use mathlib.Core.Path.{◌≡◌, ap}
use mathlib.Core.Logic.{◌⊎◌, inl, inr, ◌≢◌, ◌↔◌}
use mathlib.Core.List.{List}
use Prim.Native.Nat.{ℕ, ◌+◌, ◌<◌, ◌≤◌}
use native.Mathlib.Omega.{arith}
use lib.IntN.{ℤ, pos, nat_abs, ℤ_discrete}
use Rattle.signed_digits.specs.Strings.{value, digit_at}
use Rattle.signed_digits.specs.Form.{OddDigit, NonAdjacent, Canonical}
use Rattle.signed_digits.specs.Naf.{canonical}
use Rattle.signed_digits.proofs.Parts.{from_parts, size_parts}
use Rattle.signed_digits.proofs.Exists.{naf_value, naf_form}
use Rattle.signed_digits.proofs.Unique.{naf_only}

-- 1 and -1 are the odd digits of width 2
pub odd_bit : (d : ℤ) → nat_abs d ≤ 1 → d ≢ pos 0 → OddDigit 2 d
odd_bit d h n = let m : nat_abs d ≢ 0 = λ e. n (omega (arith, from_parts, size_parts d)) in omega arith

module _ (ds : List ℤ) where
  form_of_canonical : Canonical ds → NonAdjacent 2 ds
  form_of_canonical c =
      record {
        digit = λ i. odd_bit (digit_at ds i) (c.digits i);
        apart = λ i j l h k. two_apart i j l h k (c.neighbours i);
        top = c.top;
      }
    where
      two_apart : (i j : ℕ) → i < j → digit_at ds i ≢ pos 0 → digit_at ds j ≢ pos 0 → (digit_at ds i ≡ pos 0) ⊎ (digit_at ds (i + 1) ≡ pos 0) → i + 2 ≤ j
      two_apart i j l h k (inl e) = absurd (h e)
      two_apart i j l h k (inr e) = let n : j ≢ i + 1 = λ q. k (rw q e) in omega arith

  canonical_of_form : NonAdjacent 2 ds → Canonical ds
  canonical_of_form form =
      record {
        digits = λ i. bit i (ℤ_discrete (digit_at ds i) (pos 0));
        neighbours = λ i. one_zero i (ℤ_discrete (digit_at ds i) (pos 0)) (ℤ_discrete (digit_at ds (i + 1)) (pos 0));
        top = form.top;
      }
    where
      bit : (i : ℕ) → Dec (digit_at ds i ≡ pos 0) → nat_abs (digit_at ds i) ≤ 1
      bit i (yes e) = omega (arith, ap nat_abs e)
      bit i (no n) = omega (arith, form.digit i n)

      one_zero : (i : ℕ) → Dec (digit_at ds i ≡ pos 0) → Dec (digit_at ds (i + 1) ≡ pos 0) → (digit_at ds i ≡ pos 0) ⊎ (digit_at ds (i + 1) ≡ pos 0)
      one_zero i (yes e) _ = inl e
      one_zero i (no n) (yes e) = inr e
      one_zero i (no n) (no m) = absurd (omega (arith, form.apart i (i + 1) (omega arith) n m))

pub canonical_is : (ds : List ℤ) → Canonical ds ↔ NonAdjacent 2 ds
canonical_is ds = (form_of_canonical ds, canonical_of_form ds)

pub canonical_form : (z : ℤ) → Canonical (canonical z)
canonical_form z = (canonical_is (canonical z)).1 (naf_form 2 z (omega arith))

pub canonical_value : (z : ℤ) → value (canonical z) ≡ z
canonical_value z = naf_value 2 z (omega arith)

pub canonical_only : (ds : List ℤ) → Canonical ds → ds ≡ canonical (value ds)
canonical_only ds c = naf_only 2 ds (omega arith) ((canonical_is ds).0 c)
