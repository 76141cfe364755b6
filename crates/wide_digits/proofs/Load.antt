-- The bits that one load tells, and their trailing zeros. Assumes nothing.
use mathlib.Core.Path.{◌≡◌, refl, sym, ◌∙◌, ap}
use mathlib.Core.Logic.{◌≢◌}
use mathlib.Core.List.{List}
use Prim.Native.Nat.{ℕ, zero, suc, ◌+◌, ◌*◌, ◌-◌, ◌<◌, ◌≤◌, ◌^◌, ◌%◌, ◌/◌}
use native.Mathlib.Nat.{pow-suc, mul_assoc, mod-lt, div-one}
use native.Mathlib.Omega.{arith}
use lib.Arith.{digits_mod}
use lib.Count.{under, count_trailing_zeros}
use lib.ListN.{take, drop}
use lib.Pow.{pow-add, pow_pos, shr-shr, field, split}
use Rattle.integers.specs.Positional.{bytes_value}
use Rattle.integers.proofs.Bits.{power_of_bytes}
use Rattle.integers.proofs.Positional.{Below, positional_split, positional_div}
use Rattle.wide_digits.specs.Internal.{load_bits}

-- the low j bits of x and 2 ^ 64 times y are those of x
low_same : (j x y : ℕ) → j ≤ 64 → (x + 2 ^ 64 * y) % 2 ^ j ≡ x % 2 ^ j
low_same j x y h =
    let m : ℕ = 2 ^ j in
    let k : ℕ = 2 ^ (64 - j) in
    let s : 64 ≡ j + (64 - j) = omega arith in
    let p : 2 ^ 64 ≡ m * k = ap (λ (i : ℕ). 2 ^ i) s ∙ pow-add 2 j (64 - j) in
    let e : x + 2 ^ 64 * y ≡ (k * y + x / m) * m + x % m = rw p (omega (arith, split x j, mul_assoc m k y)) in
    rw e (digits_mod (k * y + x / m) (mod-lt x (pow_pos j)))

pub loaded : (l : List ℕ) (place : ℕ) → Below 256 l
    → bytes_value (take 8 (drop (place / 8) l)) / 2 ^ (place % 8) % 2 ^ load_bits ≡ bytes_value l / 2 ^ place % 2 ^ load_bits
loaded l place b =
    let k : ℕ = place / 8 in
    let r : ℕ = place % 8 in
    let t : ℕ = bytes_value (take 8 (drop k l)) in
    let d : ℕ = bytes_value (drop k l) in
    let whole : bytes_value l / 2 ^ place ≡ d / 2 ^ r =
    let e : place ≡ 8 * k + r = omega arith in
    rw (positional_div 256 l k b, power_of_bytes k, shr-shr (bytes_value l) (8 * k) r, ← e) in
    rw (whole, ← field t load_bits r, ← field d load_bits r, positional_split 256 8 (drop k l), low_same (load_bits + r) t (bytes_value (drop 8 (drop k l))) (omega arith))

-- the trailing zeros of n, of which a bit below j is 1: what stands above them is odd
pub record Trailing (j n t : ℕ) : Type 0 where
  pub few : t < j
  pub odd : n / 2 ^ t % 2 ≡ 1
  pub whole : n ≡ 2 ^ t * (n / 2 ^ t)

pub trailing : (k j n : ℕ) → j ≤ k → n % 2 ^ j ≢ 0 → Trailing j n (count_trailing_zeros k n)
unfolding count_trailing_zeros
trailing k zero n h s = absurd (s (omega arith))
trailing zero (suc j) n h s = absurd (omega arith)
trailing (suc k) (suc j) n h s = go (n % 2) refl (trailing k j (n / 2) (omega arith))
  where
    half : n % 2 ≡ 0 → n / 2 % 2 ^ j ≢ 0
    half e z =
        let q : ℕ = n / 2 / 2 ^ j in
        let f : n ≡ q * 2 ^ suc j + 0 = omega (arith, split (n / 2) j, ap (λ (x : ℕ). q * x) (pow-suc 2 j), mul_assoc q (2 ^ j) 2) in
        s (ap (λ (x : ℕ). x % 2 ^ suc j) f ∙ digits_mod q (pow_pos (suc j)))

    go : (r : ℕ) → n % 2 ≡ r → (n / 2 % 2 ^ j ≢ 0 → Trailing j (n / 2) (count_trailing_zeros k (n / 2))) → Trailing (suc j) n (under r (count_trailing_zeros k (n / 2)))
    go zero e above =
        let t = above (half e) in
        let u : ℕ = count_trailing_zeros k (n / 2) in
        let q : n / 2 ^ suc u ≡ n / 2 / 2 ^ u = ap (λ (i : ℕ). n / 2 ^ i) (omega arith) ∙ sym (shr-shr n 1 u) in
        record {
          few = omega (arith, t.few);
          odd = rw q t.odd;
          whole = rw (q, pow-suc 2 u) (omega (arith, t.whole, mul_assoc (2 ^ u) 2 (n / 2 / 2 ^ u)));
        }
    go (suc r) e above = record { few = omega arith; odd = rw (div-one n) (omega arith); whole = rw (div-one n) (omega arith) }
