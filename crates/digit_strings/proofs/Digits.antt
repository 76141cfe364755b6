-- The digits of a width, by their bytes. Assumes nothing.
use mathlib.Core.Path.{◌≡◌, refl}
use mathlib.Core.Logic.{◌↔◌, ◌⊎◌, ◌≢◌, inl, inr}
use mathlib.Core.Bool.{Bool, true, false, ◌&&◌, ◌||◌, and-eq-true_iff, and-true, and-false, or-true, or-false}
use Prim.Native.Nat.{ℕ, suc, ◌-◌, ◌%◌, ◌^◌, ◌<◌, ◌≤◌}
use borrow.Author.Tests.{ltb-true, lt-ltb, le-ltb, leb-true, le-leb, lt-leb, eqb-true, eq-eqb, ne_eqb}
use native.Mathlib.Decide.{dec_le, dec_lt, ℕ_discrete}
use native.Mathlib.Omega.{arith}
use lib.Dec.{ltb, leb, eqb}
use lib.IntN.{nat_abs}
use lib.Pow.{pow_pos, pow_mono}
use Rattle.rules.specs.Limits.{largest_width}
use Rattle.signed_digits.specs.Form.{OddDigit}
use Rattle.signed_digits.specs.Bytes.{byte_digit}
use Rattle.signed_digits.specs.Naf.{canonical_width}
use Rattle.digit_strings.specs.Admission.{largest_digit, digit_up_to, is_digit}

-- an odd digit of at most this size
abbrev pub OddUpTo : ℕ → ℕ → Type 0
OddUpTo size b = (nat_abs (byte_digit b) % 2 ≡ 1) × (nat_abs (byte_digit b) ≤ size)

pub up_to_is : (size b : ℕ) → digit_up_to size b ≡ true ↔ (b < 256) × ((b ≡ 0) ⊎ OddUpTo size b)
unfolding digit_up_to
up_to_is size b = (λ e. let a = (and-eq-true_iff _ _).0 e in (ltb-true b 256 a.0, to (eqb b 0) refl a.1), λ h. from h.0 h.1)
  where
    odd : Bool
    odd = eqb (nat_abs (byte_digit b) % 2) 1 && leb (nat_abs (byte_digit b)) size

    to : (t : Bool) → eqb b 0 ≡ t → (t || odd) ≡ true → (b ≡ 0) ⊎ OddUpTo size b
    to true z e = inl (eqb-true b 0 z)
    to false z e = let a = (and-eq-true_iff _ _).0 e in inr (eqb-true _ _ a.0, leb-true _ _ a.1)

    from : b < 256 → (b ≡ 0) ⊎ OddUpTo size b → (ltb b 256 && (eqb b 0 || odd)) ≡ true
    from h (inl z) = rw (lt-ltb b 256 h, eq-eqb b 0 z)
    from h (inr (o, l)) = rw (lt-ltb b 256 h, eq-eqb _ _ o, le-leb _ _ l) (or-true (eqb b 0))

-- the digits of a width, in the words of the non-adjacent form
pub digit_is : (w b : ℕ) → is_digit w b ≡ true ↔ (b < 256) × ((b ≡ 0) ⊎ OddDigit w (byte_digit b))
digit_is w b = (λ e. let h = (up_to_is (largest_digit w) b).0 e in (h.0, to h.1), λ h. (up_to_is (largest_digit w) b).1 (h.0, from h.1))
  where
    to : (b ≡ 0) ⊎ OddUpTo (largest_digit w) b → (b ≡ 0) ⊎ OddDigit w (byte_digit b)
    to (inl z) = inl z
    to (inr (o, l)) = inr (record { odd = o; small = omega (arith, pow_pos (w - 1)) })

    from : (b ≡ 0) ⊎ OddDigit w (byte_digit b) → (b ≡ 0) ⊎ OddUpTo (largest_digit w) b
    from (inl z) = inl z
    from (inr d) = inr (d.odd, omega (arith, d.small))

-- of every width 00 is a digit, and 80 is none
pub zero_digit : (w : ℕ) → is_digit w 0 ≡ true
unfolding digit_up_to
zero_digit w = refl

-- of width 2 are 00, 01 and FF, and no others
pub digit_2 : (b : ℕ) → is_digit canonical_width b ≡ true ↔ (b ≡ 0) ⊎ ((b ≡ 1) ⊎ (b ≡ 255))
unfolding digit_up_to
digit_2 b = (λ e. let h = (up_to_is 1 b).0 e in to h.0 h.1 (dec_lt b 128), from)
  where
    to : b < 256 → (b ≡ 0) ⊎ OddUpTo 1 b → Dec (b < 128) → (b ≡ 0) ⊎ ((b ≡ 1) ⊎ (b ≡ 255))
    to h (inl z) d = inl z
    to h (inr o) (yes l) = inr (inl (let p = rw (lt-ltb b 128 l) at o in omega arith))
    to h (inr o) (no l) = inr (inr (let p = rw (le-ltb b 128 (omega arith)) at o in omega arith))

    from : (b ≡ 0) ⊎ ((b ≡ 1) ⊎ (b ≡ 255)) → is_digit canonical_width b ≡ true
    from (inl z) = rw z
    from (inr (inl z)) = rw z
    from (inr (inr z)) = rw z

-- The code's test: a size counts up from 0 or down from 256, and up to the size 1 no digit but 0 is even.
module _ (size b : ℕ) (m : size ≤ 127) (h : b < 256) where
  abbrev Passes : Bool → Bool → Type 0
  Passes near odd = (near && ((eqb b 0 || odd) || ltb size 2)) ≡ digit_up_to size b

  by_size : (n : ℕ) → nat_abs (byte_digit b) ≡ n → b % 2 ≡ n % 2 → (b ≡ 0) ↔ (n ≡ 0) → Passes (leb n size) (eqb (b % 2) 1)
  unfolding digit_up_to
  by_size n e p z = rw (lt-ltb b 256 h, e, p) (go (dec_le n size) (ℕ_discrete b 0) (dec_lt size 2))
    where
      go : Dec (n ≤ size) → Dec (b ≡ 0) → Dec (size < 2)
          → (leb n size && ((eqb b 0 || eqb (n % 2) 1) || ltb size 2)) ≡ (eqb b 0 || (eqb (n % 2) 1 && leb n size))
      go (yes l) (yes y) _ = rw (le-leb n size l, eq-eqb b 0 y)
      go (yes l) (no y) (yes k) =
          let some : n ≢ 0 = λ q. y (z.1 q) in
          let one : n ≡ 1 = omega arith in
          rw (le-leb n size l, ne_eqb b 0 y, one)
      go (yes l) (no y) (no k) = rw (le-leb n size l, ne_eqb b 0 y, le-ltb size 2 (omega arith), or-false, and-true)
      go (no l) (yes y) _ = absurd (omega (arith, z.0 y))
      go (no l) (no y) _ = rw (lt-leb n size (omega arith), ne_eqb b 0 y, and-false)

  pub tested : Passes (leb b size || ltb (255 - b) size) (eqb (b % 2) 1)
  tested = go (dec_lt b 128)
    where
      go : Dec (b < 128) → Passes (leb b size || ltb (255 - b) size) (eqb (b % 2) 1)
      go (yes l) = rw (le-ltb (255 - b) size (omega arith), or-false (leb b size)) (by_size b (rw (lt-ltb b 128 l)) refl (λ e. e, λ e. e))
      go (no l) =
          rw (lt-leb b size (omega arith))
          (by_size (suc (255 - b)) (rw (le-ltb b 128 (omega arith))) (omega arith) (λ e. omega arith, λ e. omega arith))

-- the bound on the sizes of a width within the limit
pub bound_fits : (w : ℕ) → w ≤ largest_width → (1 ≤ 2 ^ (w - 1)) × (2 ^ (w - 1) ≤ 128)
bound_fits w h = (pow_pos (w - 1), pow_mono {i = w - 1} {j = 7} (omega arith))
