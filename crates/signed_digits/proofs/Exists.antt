-- `naf` has the value and the form: each integer has a non-adjacent form of each width from 2 on.
use mathlib.Core.Path.{◌≡◌, refl, ap}
use mathlib.Core.Logic.{◌≢◌}
use mathlib.Core.List.{List, [], ◌∷◌, map}
use Prim.Native.Nat.{ℕ, zero, suc, ◌+◌, ◌*◌, ◌-◌, ◌<◌, ◌≤◌, ◌^◌, ◌%◌, ◌/◌}
use native.Mathlib.Omega.{arith}
use native.Mathlib.Numerals.{sub-one}
use native.Mathlib.Nat.{pow-suc, div-add-mod, mod-lt}
use borrow.Author.Tests.{ltb-true, ltb-false, eqb-true, eqb-false}
use lib.Dec.{ltb, eqb}
use lib.ListN.{length, length-map}
use lib.Pow.{pow_pos}
use lib.IntN.{ℤ, pos, negsuc, neg_ℤ, nat_abs, ◌-ℤ◌}
use Rattle.signed_digits.specs.Strings.{value}
use Rattle.signed_digits.specs.Form.{OddDigit, NonAdjacent}
use Rattle.signed_digits.specs.Naf.{residue, low_digit, rest, digits_of, naf}
use Rattle.signed_digits.proofs.Parts.{cond_cases, Multiple, positive_part, negative_part, from_parts, zero_parts, size_parts, opposite_parts, difference_size, positive_sum, negative_sum, value_parts}
use Rattle.signed_digits.proofs.Spaced.{Spaced, empty, blank, digit, form_of_spaced}

-- ---- powers of two
pub even_power : (k : ℕ) → 1 ≤ k → 2 ^ k ≡ 2 * 2 ^ (k - 1)
even_power zero h = absurd (omega arith)
even_power (suc k) h = simp sub-one (omega arith)

half_multiple : (g m : ℕ) → Multiple g (2 * m) → Multiple (g - 1) m
half_multiple zero m (k, e) = (m, omega arith)
half_multiple (suc g) m (k, e) = (k, simp sub-one (omega (arith, rw pow-suc at e)))

odd_multiple : (g n : ℕ) → Multiple g n → n % 2 ≡ 1 → g ≡ 0
odd_multiple zero n (k, e) h = refl
odd_multiple (suc g) n (k, e) h = absurd (omega (arith, rw pow-suc at e))

-- ---- one digit
-- a digit d before what is left, m: 0, or odd and followed by w - 1 zeros
pub data Shape (w : ℕ) (d : ℤ) (m : ℕ) : Type 0 where
  even : d ≡ pos 0 → Shape w d m
  odd : OddDigit w d → Multiple (w - 1) m → Shape w d m

-- d is the lowest digit of n, and m is what is left
pub record Step (w n : ℕ) (d : ℤ) (m : ℕ) : Type 0 where
  pub sum : positive_part d + 2 * m ≡ n + negative_part d
  pub less : 0 < n → m < n
  pub shape : Shape w d m

abbrev left : ℕ → ℤ → ℕ
left n d = nat_abs (pos n -ℤ d) / 2

module _ (w : ℕ) (wide : 2 ≤ w) where
  positive_step : (n q r : ℕ) → n % 2 ≢ 0 → n ≡ 2 * (2 ^ (w - 1) * q) + r → r < 2 ^ (w - 1) → Step w n (pos r) (left n (pos r))
  positive_step n q r h e l =
      let s = difference_size n (pos r) (omega arith) in
      record { sum = omega arith; less = λ p. omega arith; shape = odd (omega arith) (q, omega arith) }

  -- r is above 2 ^ (w - 1), since that is even
  negative_step : (n q r : ℕ) → n % 2 ≢ 0 → n ≡ 2 * (2 ^ (w - 1) * q) + r → 2 ^ (w - 1) ≤ r → r < 2 ^ w →
      Step w n (neg_ℤ (pos (2 ^ w - r))) (left n (neg_ℤ (pos (2 ^ w - r))))
  negative_step n q r h e l u =
      let d : ℤ = neg_ℤ (pos (2 ^ w - r)) in
      let e₁ : 2 ^ w ≡ 2 * 2 ^ (w - 1) = even_power w (omega arith) in
      let e₂ : 2 ^ (w - 1) ≡ 2 * 2 ^ (w - 1 - 1) = even_power (w - 1) (omega arith) in
      let o = opposite_parts (pos (2 ^ w - r)) in
      let s = difference_size n d (omega arith) in
      record { sum = omega arith; less = λ p. omega arith; shape = odd (omega (arith, size_parts d)) (q + 1, omega arith) }

  odd_step : (n : ℕ) → n % 2 ≢ 0 → Step w n (residue w n) (left n (residue w n))
  unfolding residue
  odd_step n h =
      let half : ℕ = 2 ^ (w - 1) in
      let q : ℕ = n / 2 ^ w in
      let r : ℕ = n % 2 ^ w in
      let e : n ≡ 2 * (half * q) + r = omega (arith, div-add-mod n (2 ^ w), ap (λ (x : ℕ). x * q) (even_power w (omega arith))) in
      cond_cases (ltb r half) (pos r) (neg_ℤ (pos (2 ^ w - r))) (λ d. Step w n d (left n d)) (λ t. positive_step n q r h e (ltb-true r half t))
      (λ t. negative_step n q r h e (ltb-false r half t) (mod-lt n (pow_pos w)))

  pub step : (n : ℕ) → Step w n (low_digit w n) (rest w n)
  unfolding low_digit rest
  step n =
      cond_cases (eqb (n % 2) 0) (pos 0) (residue w n) (λ d. Step w n d (left n d))
      (λ t. record { sum = omega (arith, eqb-true); less = λ p. omega arith; shape = even refl }) (λ t. odd_step n (eqb-false (n % 2) 0 t))

  -- ---- the digits of a natural number
  digits_value : (f n : ℕ) → n ≤ f → positive_sum (digits_of w f n) ≡ n + negative_sum (digits_of w f n)
  unfolding digits_of positive_sum negative_sum
  digits_value zero n h = omega arith
  digits_value (suc f) zero h = refl
  digits_value (suc f) (suc n) h =
      let s = step (suc n) in
      omega (arith, digits_value f (rest w (suc n)) (omega (arith, s.less (omega arith))))

  some_digit : (f n : ℕ) → n ≤ f → 0 < n → 0 < length (digits_of w f n)
  unfolding digits_of
  some_digit zero n h p = omega arith
  some_digit (suc f) zero h p = omega arith
  some_digit (suc f) (suc n) h p = omega arith

  digits_spaced : (f n g : ℕ) → n ≤ f → Multiple g n → Spaced w g (digits_of w f n)
  unfolding digits_of
  digits_spaced zero n g h k = empty
  digits_spaced (suc f) zero g h k = empty
  digits_spaced (suc f) (suc n) g h k = go s.shape (λ g. digits_spaced f m g fits)
    where
      d : ℤ
      d = low_digit w (suc n)

      m : ℕ
      m = rest w (suc n)

      s : Step w (suc n) d m
      s = step (suc n)

      fits : m ≤ f
      fits = omega (arith, s.less (omega arith))

      go : Shape w d m → ((g : ℕ) → Multiple g m → Spaced w g (digits_of w f m)) → Spaced w g (d ∷ digits_of w f m)
      go (even e) tail =
          let twice : 2 * m ≡ suc n = omega (arith, s.sum, zero_parts) in
          blank e (some_digit f m fits (omega arith)) (tail (g - 1) (half_multiple g m (rw twice k)))
      go (odd o j) tail = digit (odd_multiple g (suc n) k (omega (arith, s.sum, size_parts d))) o (tail (w - 1) j)

-- ---- the opposite string
opposite_sums : (ds : List ℤ) → (positive_sum (map neg_ℤ ds) ≡ negative_sum ds) × (negative_sum (map neg_ℤ ds) ≡ positive_sum ds)
unfolding positive_sum negative_sum
opposite_sums [] = (refl, refl)
opposite_sums (d ∷ ds) = omega (arith, opposite_parts d, opposite_sums ds)

opposite_digit : (w : ℕ) (d : ℤ) → OddDigit w d → OddDigit w (neg_ℤ d)
opposite_digit w d o = omega (arith, opposite_parts d, size_parts d, size_parts (neg_ℤ d))

opposite_spaced : {w g : ℕ} {ds : List ℤ} → Spaced w g ds → Spaced w g (map neg_ℤ ds)
opposite_spaced empty = empty
opposite_spaced (blank {ds = ds} e l s) = blank {ds = map neg_ℤ ds} (ap neg_ℤ e) (simp length-map l) (opposite_spaced s)
opposite_spaced {w} (digit {d = d} e o s) = digit e (opposite_digit w d o) (opposite_spaced s)

-- ---- the theorems
pub naf_value : (w : ℕ) (z : ℤ) → 2 ≤ w → value (naf w z) ≡ z
unfolding naf
naf_value w (pos n) h = omega (arith, from_parts, value_parts (digits_of w n n), digits_value w h n n (omega arith))
naf_value w (negsuc n) h =
    let ds : List ℤ = digits_of w (suc n) (suc n) in
    omega (arith, from_parts, value_parts (map neg_ℤ ds), opposite_sums ds, digits_value w h (suc n) (suc n) (omega arith))

-- the first g places of a multiple of 2 ^ g are 0
pub naf_spaced : (w g : ℕ) (z : ℤ) → 2 ≤ w → Multiple g (nat_abs z) → Spaced w g (naf w z)
unfolding naf
naf_spaced w g (pos n) h m = digits_spaced w h n n g (omega arith) m
naf_spaced w g (negsuc n) h m = opposite_spaced (digits_spaced w h (suc n) (suc n) g (omega arith) m)

pub naf_form : (w : ℕ) (z : ℤ) → 2 ≤ w → NonAdjacent w (naf w z)
naf_form w z h = form_of_spaced w (naf w z) (naf_spaced w 0 z h (nat_abs z, omega arith))
