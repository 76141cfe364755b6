-- How much longer than a string the form of its value can be: n digits of width w come to at most n + w, and from width 3 on that many are reached. (At width 2 it
-- is n + 1: cleaning_digits/proofs/Length.antt.) Assumes nothing.
use mathlib.Core.Path.{◌≡◌, refl, ap, ◌∙◌}
use mathlib.Core.Logic.{◌≢◌}
use mathlib.Core.List.{List, [], ◌∷◌, ◌++◌}
use Prim.Native.Nat.{ℕ, zero, suc, ◌+◌, ◌*◌, ◌-◌, ◌<◌, ◌≤◌, ◌^◌, ◌%◌}
use native.Mathlib.Nat.{pow-suc, sub-zero, mul-le-mul_right}
use native.Mathlib.Omega.{arith}
use lib.IntN.{ℤ, pos, negsuc, neg_ℤ}
use lib.ListN.{length, replicate, length-append, length-replicate}
use lib.Pow.{pow-add, pow_pos, pow_mono}
use Rattle.signed_digits.specs.Strings.{value, digit_at}
use Rattle.signed_digits.specs.Form.{OddDigit}
use Rattle.signed_digits.specs.Naf.{naf}
use Rattle.signed_digits.proofs.Parts.{from_parts, size_parts, opposite_parts, positive_sum, negative_sum, value_parts}
use Rattle.signed_digits.proofs.Spaced.{Spaced, empty, blank, digit, form_of_spaced}
use Rattle.signed_digits.proofs.Exists.{even_power}
use Rattle.signed_digits.proofs.Unique.{naf_only}
use Rattle.signed_digits.proofs.Width.{UpTo, value_bound_lem, form_length}

-- the largest digit of a width
abbrev largest : ℕ → ℕ
largest w = 2 ^ (w - 1) - 1

-- the form of the value of n digits has at most n + w
pub longest_form : (w : ℕ) (ds : List ℤ) → 2 ≤ w → UpTo (2 ^ (w - 1) - 1) ds → length (naf w (value ds)) ≤ length ds + w
longest_form w ds wide small =
    let n : ℕ = w - 1 + length ds in
    let p : 2 ^ n ≡ 2 ^ (w - 1) * 2 ^ length ds = pow-add 2 (w - 1) (length ds) in
    let l : (2 ^ (w - 1) - 1) * 2 ^ length ds ≤ 2 ^ (w - 1) * 2 ^ length ds = mul-le-mul_right (2 ^ length ds) (omega arith) in
    omega (arith, form_length w wide n (value ds) (omega (arith, value_bound_lem (largest w) ds small)))

-- ---- runs of one digit below a string

zeros : ℕ → List ℤ → List ℤ
zeros k ds = replicate k (pos 0) ++ ds

ones : ℕ → List ℤ → List ℤ
ones k ds = replicate k (pos 1) ++ ds

zero_sums : (k : ℕ) (ds : List ℤ) → (positive_sum (zeros k ds) ≡ 2 ^ k * positive_sum ds) × (negative_sum (zeros k ds) ≡ 2 ^ k * negative_sum ds)
unfolding zeros positive_sum negative_sum
zero_sums zero ds = omega arith
zero_sums (suc k) ds = omega (arith, zero_sums k ds, ap (λ (x : ℕ). x * positive_sum ds) (pow-suc 2 k), ap (λ (x : ℕ). x * negative_sum ds) (pow-suc 2 k))

one_sums : (k : ℕ) (ds : List ℤ) → (positive_sum (ones k ds) + 1 ≡ 2 ^ k + 2 ^ k * positive_sum ds) × (negative_sum (ones k ds) ≡ 2 ^ k * negative_sum ds)
unfolding ones positive_sum negative_sum
one_sums zero ds = omega arith
one_sums (suc k) ds = omega (arith, one_sums k ds, pow-suc 2 k, ap (λ (x : ℕ). x * positive_sum ds) (pow-suc 2 k), ap (λ (x : ℕ). x * negative_sum ds) (pow-suc 2 k))

some_above : (k : ℕ) (ds : List ℤ) → 0 < length ds → 0 < length (zeros k ds)
unfolding zeros
some_above zero ds h = h
some_above (suc k) ds h = omega arith

zeros_spaced : (w k g : ℕ) (ds : List ℤ) → 0 < length ds → Spaced w (g - k) ds → Spaced w g (zeros k ds)
unfolding zeros
zeros_spaced w zero g ds h s = rw sub-zero at s
zeros_spaced w (suc k) g ds h s = let e : g - suc k ≡ g - 1 - k = omega arith in blank refl (some_above k ds h) (zeros_spaced w k (g - 1) ds h (rw e at s))

-- ---- from width 3 on n + w are reached: 1 in the lowest m places, then 3, then the largest digit

pub long_string : ℕ → ℕ → List ℤ
long_string w m = replicate m (pos 1) ++ (pos 3 ∷ (pos (2 ^ (w - 1) - 1) ∷ []))

-- its form: -1 at the lowest place, the opposite of the largest digit at the top place of the string, and 1 at w places above that
long_form : ℕ → ℕ → List ℤ
long_form w m = negsuc 0 ∷ zeros m (neg_ℤ (pos (largest w)) ∷ zeros (w - 1) (pos 1 ∷ []))

pub long_length : (w m : ℕ) → length (long_string w m) ≡ m + 2
unfolding long_string
long_length w m = rw (length-append, length-replicate)

module _ (w : ℕ) (wide : 3 ≤ w) where
  half_odd : (2 ^ (w - 1) - 1) % 2 ≡ 1
  half_odd = omega (arith, even_power (w - 1) (omega arith), pow_pos (w - 1 - 1))

  three : 3 < 2 ^ (w - 1)
  three = omega (arith, pow_mono {i = 2} {j = w - 1} (omega arith))

  one_odd : OddDigit w (pos 1)
  one_odd = record { odd = refl; small = omega (arith, three) }

  minus_odd : OddDigit w (negsuc 0)
  minus_odd = record { odd = refl; small = omega (arith, three) }

  pub long_digits : (m i : ℕ) → digit_at (long_string w m) i ≢ pos 0 → OddDigit w (digit_at (long_string w m) i)
  unfolding long_string
  long_digits zero zero n = record { odd = refl; small = three }
  long_digits zero (suc zero) n = record { odd = half_odd; small = omega (arith, three) }
  long_digits zero (suc (suc i)) n = absurd (n refl)
  long_digits (suc m) zero n = one_odd
  long_digits (suc m) (suc i) n = long_digits m i n

  long_spaced : (m : ℕ) → w - 1 ≤ m → Spaced w 0 (long_form w m)
  unfolding long_form
  long_spaced m h =
      let none : w - 1 - m ≡ 0 = omega arith in
      let none₁ : w - 1 - (w - 1) ≡ 0 = omega arith in
      let t : ℤ = neg_ℤ (pos (largest w)) in
      let o : OddDigit w t = omega (arith, opposite_parts (pos (largest w)), size_parts t, half_odd, three) in
      digit refl minus_odd
      (zeros_spaced w m (w - 1) (t ∷ zeros (w - 1) (pos 1 ∷ [])) (omega arith)
      (rw none (digit refl o (zeros_spaced w (w - 1) (w - 1) (pos 1 ∷ []) (omega arith) (rw none₁ (digit refl one_odd empty))))))

  long_value : (m : ℕ) → value (long_string w m) ≡ value (long_form w m)
  unfolding long_string long_form ones positive_sum negative_sum
  long_value m =
      let t : ℕ = largest w in
      let p : ℕ = 2 ^ m in
      let h : ℕ = 2 ^ (w - 1) in
      let tail : List ℤ = pos 3 ∷ (pos t ∷ []) in
      let one : List ℤ = pos 1 ∷ [] in
      let top : List ℤ = neg_ℤ (pos t) ∷ zeros (w - 1) one in
      let e : h ≡ t + 1 = omega (arith, three) in
      let f : p * h ≡ p * t + p = ap (λ (x : ℕ). p * x) e ∙ omega arith in
      let tail-sums : (positive_sum tail ≡ 3 + 2 * t) × (negative_sum tail ≡ 0) = omega arith in
      let top-sums : (positive_sum top ≡ 2 * h) × (negative_sum top ≡ t) = omega (arith, zero_sums (w - 1) one, opposite_parts (pos t)) in
      let low : (positive_sum (long_string w m) + 1 ≡ 4 * p + 2 * (p * t)) × (negative_sum (long_string w m) ≡ 0) =
      ((one_sums m tail).0 ∙ rw tail-sums.0 (omega arith), (one_sums m tail).1 ∙ rw tail-sums.1 (omega arith)) in
      let high : (positive_sum (long_form w m) ≡ 4 * (p * h)) × (negative_sum (long_form w m) ≡ 1 + 2 * (p * t)) =
      let sums = zero_sums m top in
      let g₁ : positive_sum (zeros m top) ≡ p * (2 * h) = sums.0 ∙ ap (λ (x : ℕ). p * x) top-sums.0 in
      let g₂ : negative_sum (zeros m top) ≡ p * t = sums.1 ∙ ap (λ (x : ℕ). p * x) top-sums.1 in
      (omega (arith, g₁), omega (arith, g₂)) in
      omega (arith, from_parts, value_parts (long_string w m), value_parts (long_form w m), low, high)

  form_long : (m : ℕ) → length (long_form w m) ≡ m + 2 + w
  unfolding long_form zeros
  form_long m = rw (length-append, length-replicate, length-append, length-replicate) (omega arith)

  -- m + 2 digits, from w + 1 on, whose form has m + 2 + w
  pub long_reached : (m : ℕ) → w - 1 ≤ m → length (naf w (value (long_string w m))) ≡ m + 2 + w
  long_reached m h = rw (long_value m, ← naf_only w (long_form w m) (omega arith) (form_of_spaced w (long_form w m) (long_spaced m h))) (form_long m)
