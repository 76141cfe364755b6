-- The digits of the canonical string of e, by the bits of 3 e and of e: each place by itself, with no carry.
use mathlib.Core.Path.{◌≡◌, refl, sym, ◌∙◌, ap}
use Prim.Native.Nat.{ℕ, zero, suc, ◌+◌, ◌*◌, ◌<◌, ◌≤◌, ◌^◌, ◌%◌, ◌/◌}
use native.Mathlib.Omega.{arith}
use native.Mathlib.Numerals.{add-one}
use native.Mathlib.Nat.{div-one}
use lib.Pow.{shr-shr}
use lib.IntN.{pos, ◌-ℤ◌, +ℤ_invr}
use Rattle.signed_digits.specs.Strings.{digit_at}
use Rattle.signed_digits.specs.Naf.{low_digit, rest, canonical}
use Rattle.signed_digits.specs.Bytes.{digit_byte}
use Rattle.signed_digits.proofs.Steps.{low_digit_2, rest_2, by_four}
use Rattle.signed_digits.proofs.Left.{lowest, higher}

-- Where i digits of e are taken off and n is left, write a for e / 2 ^ (i + 1): then n lies between 2 a and 2 a + 2, and n + a is 3 e / 2 ^ (i + 1).
-- The lowest bits of n + a and a give the lowest digit of n; with the digit off, both are halved, and n lies so again.
low_difference : (a n : ℕ) → 2 * a ≤ n → n ≤ 2 * a + 2 → low_digit 2 n ≡ pos ((n + a) % 2) -ℤ pos (a % 2)
low_difference a = by_four _ (λ q.
    let d = low_digit_2 q in (
      λ l m. let same : (4 * q + a) % 2 ≡ a % 2 = omega arith in rw (d.0, same) (sym (+ℤ_invr (pos (a % 2)))),
      λ l m. let sum : (4 * q + 1 + a) % 2 ≡ 1 = omega arith in let even : a % 2 ≡ 0 = omega arith in rw (d.1, sum, even),
      λ l m. let same : (4 * q + 2 + a) % 2 ≡ a % 2 = omega arith in rw (d.2, same) (sym (+ℤ_invr (pos (a % 2)))),
      λ l m. let sum : (4 * q + 3 + a) % 2 ≡ 0 = omega arith in let odd : a % 2 ≡ 1 = omega arith in rw (d.3, sum, odd),
    ))

pub rest_halved : (a n : ℕ) → 2 * a ≤ n → n ≤ 2 * a + 2 → (rest 2 n + a / 2 ≡ (n + a) / 2) × (2 * (a / 2) ≤ rest 2 n) × (rest 2 n ≤ 2 * (a / 2) + 2)
rest_halved a = by_four _ (λ q. omega (arith, rest_2 q))

-- the bits of n, from the second on, are those of n / 2
shift : (n i : ℕ) → n / 2 ^ suc i ≡ n / 2 / 2 ^ i
shift n i = ap (λ (k : ℕ). n / 2 ^ k) (omega arith) ∙ sym (shr-shr n 1 i)

digit_difference : (i a n : ℕ) → 2 * a ≤ n → n ≤ 2 * a + 2 → digit_at (canonical (pos n)) i ≡ pos ((n + a) / 2 ^ i % 2) -ℤ pos (a / 2 ^ i % 2)
digit_difference zero a n l m = rw (div-one (n + a), div-one a) (lowest 2 (omega arith) n ∙ low_difference a n l m)
digit_difference (suc i) a n l m =
    let h = rest_halved a n l m in
    rw (shift (n + a) i, shift a i, ← h.0) (higher 2 (omega arith) n i ∙ digit_difference i (a / 2) (rest 2 n) h.1 h.2)

-- at first a = e / 2 and n = e
pub digit_at_lem : (e i : ℕ) → digit_at (canonical (pos e)) i ≡ pos (3 * e / 2 ^ (i + 1) % 2) -ℤ pos (e / 2 ^ (i + 1) % 2)
digit_at_lem e i =
    let sum : 3 * e / 2 ≡ e + e / 2 = omega arith in
    rw (add-one i, shift (3 * e) i, shift e i, sum) (digit_difference i (e / 2) e (omega arith) (omega arith))

-- as a byte: -1 is 255
pub digit_byte_at : (e i : ℕ) → digit_byte (digit_at (canonical (pos e)) i) ≡ (3 * e / 2 ^ (i + 1) % 2 + 255 * (e / 2 ^ (i + 1) % 2)) % 256
digit_byte_at e i = rw (digit_at_lem e i) (byte (3 * e / 2 ^ (i + 1) % 2) (e / 2 ^ (i + 1) % 2) (omega arith) (omega arith))
  where
    byte : (x y : ℕ) → x < 2 → y < 2 → digit_byte (pos x -ℤ pos y) ≡ (x + 255 * y) % 256
    byte zero zero p q = refl
    byte zero (suc zero) p q = refl
    byte zero (suc (suc y)) p q = absurd (omega arith)
    byte (suc zero) zero p q = refl
    byte (suc zero) (suc zero) p q = refl
    byte (suc zero) (suc (suc y)) p q = absurd (omega arith)
    byte (suc (suc x)) y p q = absurd (omega arith)
