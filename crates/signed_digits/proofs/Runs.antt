-- Several digits of width w at once: the zeros where what is left is a multiple of a power of two, and an odd digit with the zeros above it; and the digits
-- of an opposite. Assumes nothing.
use mathlib.Core.Path.{◌≡◌, refl, ◌∙◌, ap}
use mathlib.Core.List.{map}
use Prim.Native.Nat.{ℕ, zero, suc, ◌+◌, ◌*◌, ◌-◌, ◌<◌, ◌≤◌, ◌^◌, ◌%◌, ◌/◌}
use native.Mathlib.Omega.{arith}
use native.Mathlib.Nat.{add-zero, add-suc, pow-suc, mul_assoc, div-add-mod, div-eq_of_lt, mod-lt}
use borrow.Author.Tests.{ne_eqb, lt-ltb, le-ltb}
use native.Mathlib.Decide.{dec_lt}
use lib.Arith.{digits_div}
use lib.Pow.{pow-add, pow_pos}
use lib.ListN.{length, length-map, get_or-map}
use lib.IntN.{pos, neg_ℤ}
use Rattle.signed_digits.specs.Strings.{digit_at}
use Rattle.signed_digits.specs.Naf.{residue, low_digit, rest, digits_of, naf}
use Rattle.signed_digits.proofs.Parts.{positive_part, negative_part, opposite_parts}
use Rattle.signed_digits.proofs.Exists.{even_power, step}
use Rattle.signed_digits.proofs.Left.{rests, digit_left}
use Rattle.signed_digits.proofs.Width.{low_even, rest_even}

module _ (w : ℕ) (wide : 2 ≤ w) where
  rests_add : (i j n : ℕ) → rests w (i + j) n ≡ rests w j (rests w i n)
  unfolding rests
  rests_add i zero n = rw add-zero
  rests_add i (suc j) n = rw add-suc (ap (rest w) (rests_add i j n))

  -- of 2 ^ g times m, g digits leave m
  rests_multiple : (g m : ℕ) → rests w g (2 ^ g * m) ≡ m
  unfolding rests
  rests_multiple zero m = omega arith
  rests_multiple (suc g) m =
      let e : 2 ^ suc g * m ≡ 2 ^ g * (2 * m) = omega (arith, ap (λ (x : ℕ). x * m) (pow-suc 2 g), mul_assoc (2 ^ g) 2 m) in
      rw (e, rests_multiple g (2 * m)) (rest_even w wide (2 * m) (omega arith) ∙ omega arith)

  module _ (n i g m : ℕ) (left : rests w i n ≡ 2 ^ g * m) where
    -- they are 0
    pub run_zeros : (j : ℕ) → j < g → digit_at (naf w (pos n)) (i + j) ≡ pos 0
    run_zeros j h =
        let k : ℕ = g - j - 1 in
        let s : g ≡ j + suc k = omega arith in
        let e : 2 ^ g * m ≡ 2 ^ j * (2 * (2 ^ k * m)) =
        ap (λ (x : ℕ). 2 ^ x * m) s ∙ rw (pow-add 2 j (suc k), pow-suc 2 k) (omega (arith, mul_assoc (2 ^ j) (2 ^ k * 2) m, mul_assoc (2 ^ j) (2 * (2 ^ k)) m, ap (λ (x : ℕ). 2 ^ j * x) (mul_assoc (2 ^ k) 2 m))) in
        digit_left w wide (i + j) n ∙ rw (rests_add i j n, left, e, rests_multiple j (2 * (2 ^ k * m))) (low_even w wide (2 * (2 ^ k * m)) (omega arith))

    pub run_left : rests w (i + g) n ≡ m
    run_left = rests_add i g n ∙ rw left (rests_multiple g m)

  -- the lowest digit of an odd m: the remainder, or what it lacks, below zero
  low_residue : (m : ℕ) → m % 2 ≡ 1 → low_digit w m ≡ residue w m
  unfolding low_digit
  low_residue m o = rw (ne_eqb (m % 2) 0 (omega arith))

  residue_low : (m : ℕ) → m % 2 ^ w < 2 ^ (w - 1) → residue w m ≡ pos (m % 2 ^ w)
  unfolding residue
  residue_low m l = rw (lt-ltb (m % 2 ^ w) (2 ^ (w - 1)) l)

  residue_high : (m : ℕ) → 2 ^ (w - 1) ≤ m % 2 ^ w → residue w m ≡ neg_ℤ (pos (2 ^ w - m % 2 ^ w))
  unfolding residue
  residue_high m l = rw (le-ltb (m % 2 ^ w) (2 ^ (w - 1)) l)

  -- An odd m is q times 2 ^ w and r: its digit is r, or r less 2 ^ w, so that it leaves q or q + 1 above w - 1 zeros.
  rest_odd : (m : ℕ) → m % 2 ≡ 1 → rest w m ≡ 2 ^ (w - 1) * (m / 2 ^ w + m % 2 ^ w / 2 ^ (w - 1))
  rest_odd m o = go (dec_lt r half)
    where
      half : ℕ
      half = 2 ^ (w - 1)

      q : ℕ
      q = m / 2 ^ w

      r : ℕ
      r = m % 2 ^ w

      twice : 2 ^ w ≡ 2 * half
      twice = even_power w (omega arith)

      split : m ≡ 2 * (half * q) + r
      split = omega (arith, div-add-mod m (2 ^ w), ap (λ (x : ℕ). x * q) twice)

      sum : positive_part (residue w m) + 2 * rest w m ≡ m + negative_part (residue w m)
      sum = rw (low_residue m o) at (step w wide m).sum

      go : Dec (r < half) → rest w m ≡ half * (q + r / half)
      go (yes l) =
          let z : r / half ≡ 0 = div-eq_of_lt l in
          rw z (omega (arith, split, rw (residue_low m l) at sum))
      go (no l) =
          let u : r < 2 * half = omega (arith, mod-lt m (pow_pos w), twice) in
          let e : r ≡ 1 * half + (r - half) = omega arith in
          let z : r / half ≡ 1 = ap (λ (x : ℕ). x / half) e ∙ digits_div 1 (omega arith) in
          rw z (omega (arith, split, opposite_parts (pos (2 ^ w - r)), twice, rw (residue_high m (omega arith)) at sum))

  module _ (n i : ℕ) (o : rests w i n % 2 ≡ 1) where
    pub odd_digit : digit_at (naf w (pos n)) i ≡ residue w (rests w i n)
    odd_digit = digit_left w wide i n ∙ low_residue (rests w i n) o

    -- what is left above it
    abbrev above : ℕ
    above = rests w i n / 2 ^ w + rests w i n % 2 ^ w / 2 ^ (w - 1)

    next : rests w (suc i) n ≡ 2 ^ (w - 1) * above
    unfolding rests
    next = rest_odd (rests w i n) o

    pub odd_zeros : (j : ℕ) → 0 < j → j < w → digit_at (naf w (pos n)) (i + j) ≡ pos 0
    odd_zeros j some h =
        let e : i + j ≡ suc i + (j - 1) = omega arith in
        rw e (run_zeros n (suc i) (w - 1) above next (j - 1) (omega arith))

    pub odd_left : rests w (i + w) n ≡ above
    odd_left =
        let e : i + w ≡ suc i + (w - 1) = omega arith in
        rw e (run_left n (suc i) (w - 1) above next)

-- ---- an integer or its opposite

opposite_form : (w : ℕ) (n : ℕ) → naf w (neg_ℤ (pos n)) ≡ map neg_ℤ (naf w (pos n))
unfolding naf digits_of
opposite_form w zero = refl
opposite_form w (suc n) = refl

pub opposite_digits : (w n i : ℕ) → digit_at (naf w (neg_ℤ (pos n))) i ≡ neg_ℤ (digit_at (naf w (pos n)) i)
opposite_digits w n i = rw (opposite_form w n) (get_or-map neg_ℤ (naf w (pos n)) i (pos 0))

pub opposite_length : (w n : ℕ) → length (naf w (neg_ℤ (pos n))) ≡ length (naf w (pos n))
opposite_length w n = rw (opposite_form w n) (length-map (naf w (pos n)) neg_ℤ)
