-- The sign of a string's value, from the highest digit down: what the digits passed come to decides it once its size is not below the largest digit. Assumes nothing.
use mathlib.Core.Path.{◌≡◌, refl, ap, ◌∙◌, sym}
use mathlib.Core.List.{List}
use Prim.Native.Nat.{ℕ, suc, ◌+◌, ◌-◌, ◌*◌, ◌%◌, ◌^◌, ◌<◌, ◌≤◌}
use native.Mathlib.Nat.{sub-zero, mul-le-mul_left}
use native.Mathlib.Omega.{arith}
use lib.IntN.{ℤ, pos, negsuc}
use lib.ListN.{length, get_or, drop}
use lib.Pow.{pow_pos}
use Rattle.rules.specs.Limits.{least_width, largest_width}
use Rattle.integers.specs.Positional.{bytes_value}
use Rattle.integers.specs.Signed.{sign_of}
use Rattle.signed_digits.proofs.Parts.{positive_part, negative_part}
use Rattle.digit_strings.specs.Admission.{largest_digit, string_value, DigitString}
use Rattle.reading_digits.specs.Sums.{SizesUpTo, raised_sum, raised_zeros}
use Rattle.reading_digits.proofs.Raised.{zeros_none, zeros_low, zeros_add, raised_few, raised_add, raised_none, raised_low, value_by_sum, some_digit, sizes_up_to}

-- x is what the digits from place i on come to, of n in all, raised by r
abbrev pub Comes : ℕ → List ℕ → ℕ → ℕ → ℕ → ℕ → Type 0
Comes t l n i r x = x + raised_zeros t (n - i) ≡ raised_sum t l i (n - i) + r

module _ (t : ℕ) (l : List ℕ) (n : ℕ) where
  pub none_passed : Comes t l n n t t
  none_passed =
      let e : n - n ≡ 0 = omega arith in
      rw e (omega (arith, zeros_none t, raised_none t l n))

  -- one digit more
  pub one_passed : (i v : ℕ) → n ≤ length l → i < n → Comes t l n (suc i) t v → Comes t l n i (3 * t) (2 * v + (get_or l i 0 + t) % 256)
  one_passed i v h k e =
      let left : n - i ≡ suc (n - suc i) = omega arith in
      rw left (omega (arith, zeros_low t (n - suc i), raised_low t l i (n - suc i) (omega arith)))

  -- and less of it to keep
  pub kept : (i x : ℕ) → 2 * t < x → Comes t l n i (3 * t) x → Comes t l n i t (x - 2 * t)
  kept i x h e = omega arith

  -- all digits by those from place i on and those below
  module _ (i x : ℕ) (k : i ≤ n) (h : n ≤ length l) (e : Comes t l n i (3 * t) x) where
    abbrev p : ℕ
    p = 2 ^ i

    whole : n ≡ i + (n - i)
    whole = omega arith

    zeros : raised_zeros t n ≡ raised_zeros t i + p * raised_zeros t (n - i)
    zeros = ap (raised_zeros t) whole ∙ zeros_add t i (n - i)

    sum : raised_sum t l 0 n ≡ raised_sum t l 0 i + p * raised_sum t l i (n - i)
    sum = ap (raised_sum t l 0) whole ∙ raised_add t l i (n - i) (omega arith)

    few : raised_zeros t i + t ≡ p * t
    unfolding raised_zeros
    few =
        let f : p ≡ 2 ^ i - 1 + 1 = omega (arith, pow_pos i) in
        omega (arith, ap (λ (y : ℕ). y * t) f)

    pub large : 4 * t ≤ x → raised_zeros t n ≤ raised_sum t l 0 n
    large a =
        let b : raised_zeros t (n - i) + t ≤ raised_sum t l i (n - i) = omega arith in
        let c : p * (raised_zeros t (n - i) + t) ≤ p * raised_sum t l i (n - i) = mul-le-mul_left p b in
        omega (arith, zeros, sum, few)

    pub small : x ≤ 2 * t → 1 ≤ t → SizesUpTo t l → raised_sum t l 0 n < raised_zeros t n
    small a some d =
        let b : raised_sum t l i (n - i) + t ≤ raised_zeros t (n - i) = omega arith in
        let c : p * (raised_sum t l i (n - i) + t) ≤ p * raised_zeros t (n - i) = mul-le-mul_left p b in
        omega (arith, zeros, sum, few, raised_few t l 0 i d)

sign_positive : (v : ℤ) → negative_part v ≤ positive_part v → sign_of v ≡ 0
sign_positive (pos n) h = refl
sign_positive (negsuc n) h = absurd (omega arith)

sign_negative : (v : ℤ) → positive_part v < negative_part v → sign_of v ≡ 1
sign_negative (pos n) h = absurd (omega arith)
sign_negative (negsuc n) h = refl

-- n digits with zeros alone above them
module _ (w : ℕ) (l : List ℕ) (n : ℕ) (d : DigitString w l) (width : (least_width ≤ w) × (w ≤ largest_width)) (within : n ≤ length l) (above : bytes_value (drop n l) ≡ 0) where
  abbrev t : ℕ
  t = largest_digit w

  -- the digits from place i on decide, whatever is below
  module _ (i x : ℕ) (k : i ≤ n) (e : Comes t l n i (3 * t) x) where
    pub decides_0 : 4 * t ≤ x → 0 ≡ sign_of (string_value l)
    decides_0 a =
        sym (sign_positive (string_value l) (omega (arith, value_by_sum w width.1 l n d within above, large t l n i x k within e a)))

    pub decides_1 : x ≤ 2 * t → 1 ≡ sign_of (string_value l)
    decides_1 a =
        sym (sign_negative (string_value l)
        (omega (arith, value_by_sum w width.1 l n d within above, small t l n i x k within e a (some_digit w width.0) (sizes_up_to w width.1 l d))))

  -- or all of them together
  module _ (v : ℕ) (e : Comes t l n 0 t v) where
    pub ends_0 : t ≤ v → 0 ≡ sign_of (string_value l)
    ends_0 a = sym (sign_positive (string_value l) (omega (arith, value_by_sum w width.1 l n d within above, rw sub-zero at e)))

    pub ends_1 : v < t → 1 ≡ sign_of (string_value l)
    ends_1 a = sym (sign_negative (string_value l) (omega (arith, value_by_sum w width.1 l n d within above, rw sub-zero at e)))
