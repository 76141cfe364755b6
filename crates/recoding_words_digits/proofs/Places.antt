-- The nonzero digits of a number e are where 3 e and e differ, one place down. Assumes nothing.
use mathlib.Core.Path.{◌≡◌, refl, ap, ◌∙◌}
use mathlib.Core.Logic.{◌↔◌, ◌≢◌, inl, inr}
use Prim.Native.Nat.{ℕ, zero, suc, ◌+◌, ◌*◌, ◌/◌, ◌%◌, ◌^◌, ◌<◌, ◌≤◌}
use native.Mathlib.Omega.{arith}
use lib.Bits.{bit_xor, differ, xor_step, xor_shr}
use lib.IntN.{ℤ, pos, negsuc, ◌-ℤ◌}
use Rattle.integers.specs.Bits.{bit}
use Rattle.integers.proofs.Bits.{bit_small}
use Rattle.signed_digits.specs.Strings.{digit_at}
use Rattle.signed_digits.specs.Naf.{canonical}
use Rattle.signed_digits.specs.Bytes.{digit_byte}
use Rattle.signed_digits.proofs.Canonical.{canonical_form}
use Rattle.signed_digits.proofs.Triple.{digit_at_lem}

differ_small : (x y : ℕ) → x < 2 → y < 2 → differ x y < 2
differ_small zero y p q = q
differ_small (suc zero) zero p q = omega arith
differ_small (suc zero) (suc zero) p q = omega arith
differ_small (suc zero) (suc (suc y)) p q = absurd (omega arith)
differ_small (suc (suc x)) y p q = absurd (omega arith)

-- a bit of the exclusive or
pub xor_bit : (a b i : ℕ) → bit (bit_xor a b) i ≡ differ (bit a i) (bit b i)
unfolding bit
xor_bit a b i =
    let x : ℕ = a / 2 ^ i in
    let y : ℕ = b / 2 ^ i in
    rw (xor_shr a b i) (omega (arith, xor_step x y, differ_small (x % 2) (y % 2) (omega arith) (omega arith)))

-- ---- the digit at a place, by the bit of 3 e and the bit of e one place up

data Place : ℕ → ℕ → ℤ → Type 0 where
  nought : {b : ℕ} → Place b b (pos 0)
  plus : Place 1 0 (pos 1)
  minus : Place 0 1 (negsuc 0)

place : (x y : ℕ) → x < 2 → y < 2 → Place x y (pos x -ℤ pos y)
place zero zero p q = nought
place zero (suc zero) p q = minus
place (suc zero) zero p q = plus
place (suc zero) (suc zero) p q = nought
place zero (suc (suc y)) p q = absurd (omega arith)
place (suc zero) (suc (suc y)) p q = absurd (omega arith)
place (suc (suc x)) y p q = absurd (omega arith)

same : (b : ℕ) → differ b b ≡ 0
same zero = refl
same (suc b) = same b

module _ (e : ℕ) where
  at : (i : ℕ) → Place (bit (3 * e) (i + 1)) (bit e (i + 1)) (digit_at (canonical (pos e)) i)
  unfolding bit
  at i = rw (digit_at_lem e i) (place (3 * e / 2 ^ (i + 1) % 2) (e / 2 ^ (i + 1) % 2) (omega arith) (omega arith))

  -- a digit is not 0 exactly where the exclusive or of 3 e and e has a 1, one place up
  pub xor_nonzero : (i : ℕ) → digit_at (canonical (pos e)) i ≢ pos 0 ↔ bit (bit_xor (3 * e) e) (i + 1) ≡ 1
  xor_nonzero i = rw (xor_bit (3 * e) e (i + 1)) (go (at i))
    where
      go : {x y : ℕ} {d : ℤ} → Place x y d → d ≢ pos 0 ↔ differ x y ≡ 1
      go (nought {b}) = (λ n. absurd (n refl), λ h. absurd (omega (arith, same b)))
      go plus = (λ n. refl, λ h z. omega (arith, ap digit_byte z))
      go minus = (λ n. refl, λ h z. omega (arith, ap digit_byte z))

  -- it is -1 exactly where e has that 1
  pub xor_minus : (i : ℕ) → digit_at (canonical (pos e)) i ≡ negsuc 0 ↔ (bit (bit_xor (3 * e) e) (i + 1) ≡ 1) × (bit e (i + 1) ≡ 1)
  xor_minus i = rw (xor_bit (3 * e) e (i + 1)) (go (at i))
    where
      go : {x y : ℕ} {d : ℤ} → Place x y d → d ≡ negsuc 0 ↔ (differ x y ≡ 1) × (y ≡ 1)
      go (nought {b}) = (λ z. absurd (omega (arith, ap digit_byte z)), λ h. absurd (omega (arith, same b, h.0)))
      go plus = (λ z. absurd (omega (arith, ap digit_byte z)), λ h. absurd (omega (arith, h.1)))
      go minus = (λ z. (refl, refl), λ h. refl)

  zero_at : (i : ℕ) → digit_at (canonical (pos e)) i ≡ pos 0 → bit (bit_xor (3 * e) e) (i + 1) ≡ 0
  zero_at i z = xor_bit (3 * e) e (i + 1) ∙ go (at i) z
    where
      go : {x y : ℕ} {d : ℤ} → Place x y d → d ≡ pos 0 → differ x y ≡ 0
      go (nought {b}) z = same b
      go plus z = absurd (omega (arith, ap digit_byte z))
      go minus z = absurd (omega (arith, ap digit_byte z))

  -- 3 e and e are both odd or both even
  lowest : bit (bit_xor (3 * e) e) 0 ≡ 0
  unfolding bit
  lowest = xor_bit (3 * e) e 0 ∙ (let s : 3 * e / 2 ^ 0 % 2 ≡ e / 2 ^ 0 % 2 = omega arith in rw s (same (e / 2 ^ 0 % 2)))

  -- of two neighbouring digits one is 0, so of two neighbouring bits here
  pub xor_apart : (i : ℕ) → bit (bit_xor (3 * e) e) i + bit (bit_xor (3 * e) e) (i + 1) ≤ 1
  xor_apart zero = omega (arith, lowest, bit_small (bit_xor (3 * e) e) (0 + 1))
  xor_apart (suc i) =
      let s : suc i ≡ i + 1 = omega arith in
      rw s (elim ((canonical_form (pos e)).neighbours i) [
        | inl z ↦ omega (arith, zero_at i z, bit_small (bit_xor (3 * e) e) (i + 1 + 1))
        | inr z ↦ omega (arith, zero_at (i + 1) z, bit_small (bit_xor (3 * e) e) (i + 1))
      ])
