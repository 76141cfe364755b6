-- The byte of a digit by its remainder. Assumes nothing.
use mathlib.Core.Path.{◌≡◌, ap, ◌∙◌}
use Prim.Native.Nat.{ℕ, zero, suc, ◌+◌, ◌*◌, ◌-◌, ◌<◌, ◌≤◌, ◌%◌, ◌/◌}
use borrow.Author.Tests.{lt-ltb, le-ltb}
use native.Mathlib.Decide.{dec_lt}
use native.Mathlib.Nat.{div-eq_of_lt}
use native.Mathlib.Omega.{arith}
use lib.Arith.{digits_div}
use lib.IntN.{pos, neg_ℤ, neg_ℤ-neg_ℤ}
use Rattle.signed_digits.specs.Bytes.{digit_byte}
use Rattle.wide_digits.specs.Internal.{nearest}

below_zero : (x : ℕ) → 1 ≤ x → digit_byte (neg_ℤ (pos x)) ≡ 256 - x
below_zero zero h = absurd (omega arith)
below_zero (suc x) h = omega arith

-- k is 0 for a digit above zero, else 2 half
pub record Bytes (half r k : ℕ) : Type 0 where
  pub most : k ≤ 256
  pub own : (256 + r - k) % 256 ≡ digit_byte (nearest half r)
  pub opposite : (256 + k - r) % 256 ≡ digit_byte (neg_ℤ (nearest half r))

pub digit_bytes_lem : (half r : ℕ) → half ≤ 128 → r % 2 ≡ 1 → r < 2 * half → Bytes half r (r / half * (2 * half))
unfolding nearest
digit_bytes_lem half r few odd h = go (dec_lt r half)
  where
    go : Dec (r < half) → Bytes half r (r / half * (2 * half))
    go (yes l) =
        let z : r / half ≡ 0 = div-eq_of_lt l in
        record {
          most = rw z (omega arith);
          own = rw (lt-ltb r half l, z) (omega arith);
          opposite = rw (lt-ltb r half l, z) (omega (arith, below_zero r (omega arith)));
        }
    go (no l) =
        let s : r ≡ 1 * half + (r - half) = omega arith in
        let z : r / half ≡ 1 = ap (λ (x : ℕ). x / half) s ∙ digits_div 1 (omega arith) in
        record {
          most = rw z (omega arith);
          own = rw (le-ltb r half (omega arith), z) (omega (arith, below_zero (2 * half - r) (omega arith)));
          opposite = rw (le-ltb r half (omega arith), z, neg_ℤ-neg_ℤ) (omega arith);
        }
