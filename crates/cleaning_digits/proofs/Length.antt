-- The length of the canonical string by the highest odd sum. Assumes nothing.
use mathlib.Core.Path.{◌≡◌, refl, sym, ◌∙◌, ap}
use mathlib.Core.Bool.{Bool, true, false, cond}
use mathlib.Core.List.{List}
use Prim.Native.Nat.{ℕ, zero, suc, ◌+◌, ◌-◌, ◌%◌, ◌<◌, ◌≤◌}
use native.Mathlib.Decide.{dec_lt}
use native.Mathlib.Omega.{arith}
use borrow.Author.Tests.{eqb-true, eqb-false}
use lib.Dec.{eqb}
use lib.ListN.{length, get_or, drop, get_or-eq_default}
use lib.Seq.{get_or-drop}
use Rattle.integers.specs.Positional.{Significant}
use Rattle.integers.proofs.Positional.{positional_nonzero}
use Rattle.signed_digits.specs.Naf.{canonical, canonical_width}
use Rattle.signed_digits.proofs.Canonical.{canonical_form}
use Rattle.signed_digits.proofs.Cons.{length_by_top}
use Rattle.digit_strings.specs.Admission.{DigitString, string_value}
use Rattle.cleaning_digits.specs.Sums.{sum_at, Highest}
use Rattle.cleaning_digits.proofs.Places.{zero_place, nonzero_place, stopped}

-- ---- the highest odd sum

pub highest_none : (s : List ℕ) (r : ℕ) → Highest s r r 0
highest_none s r = record { above = λ j l h k. absurd (omega arith); last = λ h. absurd (omega arith) }

pub highest_more : (s : List ℕ) (r i top : ℕ) → Highest s r i top → r ≤ i → Highest s r (i + 1) (cond (eqb (sum_at s i % 2) 0) top (i + 1))
highest_more s r i top high l = go (eqb (sum_at s i % 2) 0) refl
  where
    go : (t : Bool) → eqb (sum_at s i % 2) 0 ≡ t → Highest s r (i + 1) (cond t top (i + 1))
    go true e = record { above = λ j p q m. here j p q (dec_lt j i) m; last = high.last }
      where
        here : (j : ℕ) → r ≤ j → top ≤ j → Dec (j < i) → j < i + 1 → sum_at s j % 2 ≡ 0
        here j p q (yes k) m = high.above j p q k
        here j p q (no k) m = let same : j ≡ i = omega arith in rw same (eqb-true (sum_at s i % 2) 0 e)
    go false e =
        let back : i + 1 - 1 ≡ i = omega arith in
        record { above = λ j p q m. absurd (omega arith); last = λ h. (omega arith, rw back (eqb-false (sum_at s i % 2) 0 e)) }

-- The sums from r to n tell the length, where one of them is odd or r is the lowest place: from n on the digits are 0.
module _ (s : List ℕ) (given : DigitString canonical_width s) (n r top : ℕ) (sig : Significant s n) (high : Highest s r (n + 1) top) (found : 0 < r → 0 < top) where
  zero_byte : (j : ℕ) → n ≤ j → get_or s j 0 ≡ 0
  zero_byte j h = go (get_or s j 0) refl
    where
      e : n + (j - n) ≡ j
      e = omega arith

      go : (b : ℕ) → get_or s j 0 ≡ b → get_or s j 0 ≡ 0
      go zero f = f
      go (suc b) f = absurd (positional_nonzero 256 (drop n s) (j - n) (omega arith) (λ z. omega (arith, f, sym (get_or-drop n s (j - n) 0) ∙ z, ap (λ (k : ℕ). get_or s k 0) e)) sig.whole)

  even_from : (j : ℕ) → r ≤ j → top ≤ j → sum_at s j % 2 ≡ 0
  even_from j l h = go j l h (dec_lt j (n + 1))
    where
      go : (j : ℕ) → r ≤ j → top ≤ j → Dec (j < n + 1) → sum_at s j % 2 ≡ 0
      go j l h (yes k) = high.above j l h k
      go zero l h (no k) = absurd (omega arith)
      go (suc j) l h (no k) = rw (stopped s given j (zero_byte j (omega arith)) (zero_byte (suc j) (omega arith)))

  reached : (i : ℕ) → top ≤ i → r ≤ i
  reached i h = go (dec_lt 0 r)
    where
      go : Dec (0 < r) → r ≤ i
      go (yes p) = omega (arith, (high.last (found p)).0)
      go (no p) = omega arith

  pub count_is : top ≡ length (canonical (string_value s))
  count_is =
      sym (length_by_top (canonical (string_value s)) top (canonical_form (string_value s)).top
      (λ i h. zero_place s given i (even_from i (reached i h) h)) (λ h. nonzero_place s given (top - 1) (high.last h).1))

-- one digit more than the string has, at most
pub canonical_length : (s : List ℕ) → DigitString canonical_width s → length (canonical (string_value s)) ≤ length s + 1
canonical_length s given = go (dec_lt (length s + 1) n)
  where
    n : ℕ
    n = length (canonical (string_value s))

    byte : (i : ℕ) → length s ≤ i → get_or s i 0 ≡ 0
    byte i h = get_or-eq_default s 0 h

    go : Dec (length s + 1 < n) → n ≤ length s + 1
    go (yes h) =
        let e : n - 1 ≡ suc (n - 2) = omega arith in
        let z : sum_at s (suc (n - 2)) ≡ 2 = stopped s given (n - 2) (byte (n - 2) (omega arith)) (byte (suc (n - 2)) (omega arith)) in
        absurd ((canonical_form (string_value s)).top (omega arith) (rw e (zero_place s given (suc (n - 2)) (rw z))))
    go (no h) = omega arith
