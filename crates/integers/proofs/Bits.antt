-- The bit length, and the quotients by powers of two that a scan from the top meets. Assumes nothing.
use mathlib.Core.Path.{◌≡◌, refl, sym, ap, ◌∙◌}
use mathlib.Core.Logic.{◌↔◌}
use mathlib.Core.Bool.{Bool, true, false}
use mathlib.Core.List.{List}
use Prim.Native.Nat.{ℕ, zero, suc, ◌+◌, ◌*◌, ◌-◌, ◌/◌, ◌%◌, ◌^◌, ◌<◌, ◌≤◌}
use native.Mathlib.Nat.{pow-suc, mul_comm, div-lt_iff_lt-mul, div-le_self}
use native.Mathlib.Numerals.{add-one}
use native.Mathlib.Omega.{arith}
use lib.Count.{count_leading_zeros, leading_length}
use lib.ListN.{length, get_or, drop}
use lib.Pow.{pow_pos, pow-add, shr-shr, split, field, mod-mod-pow}
use mir.Val.{bool_byte}
use Rattle.integers.specs.Bits.{bit, length_up_to, bit_length}
use Rattle.integers.specs.Positional.{positional, bytes_value, Significant}
use Rattle.integers.proofs.Powers.{power_of_power}
use Rattle.integers.proofs.Positional.{Below, positional_drop, positional_lt, positional_div, positional_at}

length_up_to_lem : (f n k : ℕ) → n ≤ f → (length_up_to f n ≤ k → n < 2 ^ k) × (n < 2 ^ k → length_up_to f n ≤ k)
unfolding length_up_to
length_up_to_lem zero n k h = (λ l. omega (arith, pow_pos k), λ l. omega arith)
length_up_to_lem (suc f) zero k h = (λ l. pow_pos k, λ l. omega arith)
length_up_to_lem (suc f) (suc n) zero h = (λ l. absurd (omega arith), λ l. absurd (omega arith))
length_up_to_lem (suc f) (suc n) (suc k) h =
    let r = length_up_to_lem f (suc n / 2) k (omega arith) in
    (λ l. omega (arith, r.0 (omega arith), pow-suc 2 k), λ l. omega (arith, r.1 (omega (arith, pow-suc 2 k))))

-- the least number of places that hold n
pub bit_length_iff : (n k : ℕ) → bit_length n ≤ k ↔ n < 2 ^ k
unfolding bit_length
bit_length_iff n k = length_up_to_lem n n k (omega arith)

module _ (e : ℕ) (some : 0 < e) where
  pub some_bits : 1 ≤ bit_length e
  some_bits = go (bit_length e) refl
    where
      go : (n : ℕ) → bit_length e ≡ n → 1 ≤ n
      go zero z = absurd (omega (arith, (bit_length_iff e 0).0 (omega arith)))
      go (suc n) z = omega arith

  -- the top bit alone
  pub top_bit : e / 2 ^ (bit_length e - 1) ≡ 1
  top_bit =
      let p : ℕ = 2 ^ (bit_length e - 1) in
      let high : e < 2 ^ bit_length e = (bit_length_iff e (bit_length e)).0 (omega arith) in
      let s : bit_length e ≡ suc (bit_length e - 1) = omega (arith, some_bits) in
      let twice : 2 ^ bit_length e ≡ 2 * p = ap (λ (n : ℕ). 2 ^ n) s ∙ pow-suc 2 (bit_length e - 1) ∙ mul_comm p 2 in
      let below : e / p < 2 = (div-lt_iff_lt-mul (pow_pos (bit_length e - 1))).1 (omega arith) in
      go (e / p) refl below
    where
      go : (q : ℕ) → e / 2 ^ (bit_length e - 1) ≡ q → e / 2 ^ (bit_length e - 1) < 2 → e / 2 ^ (bit_length e - 1) ≡ 1
      go zero z h =
          let l : e / 2 ^ (bit_length e - 1) < 1 = omega arith in
          let m : e < 1 * 2 ^ (bit_length e - 1) = (div-lt_iff_lt-mul (pow_pos (bit_length e - 1))).0 l in
          absurd (omega (arith, some_bits, (bit_length_iff e (bit_length e - 1)).1 (omega arith)))
      go (suc zero) z h = z
      go (suc (suc q)) z h = absurd (omega arith)

  -- at and below the top bit something is left
  pub above_top : (i : ℕ) → i ≤ bit_length e - 1 → 0 < e / 2 ^ i
  above_top i h = go (e / 2 ^ i) refl
    where
      go : (q : ℕ) → e / 2 ^ i ≡ q → 0 < q
      go zero z =
          let l : e / 2 ^ i < 1 = omega arith in
          let m : e < 1 * 2 ^ i = (div-lt_iff_lt-mul (pow_pos i)).0 l in
          absurd (omega (arith, some_bits, (bit_length_iff e i).1 (omega arith)))
      go (suc q) z = omega arith

-- one place down: twice the quotient, and the bit
pub place_down : (e i : ℕ) → e / 2 ^ i ≡ 2 * (e / 2 ^ suc i) + bit e i
unfolding bit
place_down e i =
    let s : e / 2 ^ suc i ≡ e / 2 ^ i / 2 = sym (shr-shr e i 1 ∙ ap (λ (k : ℕ). e / 2 ^ k) (omega arith)) in
    omega arith

pub bit_small : (e i : ℕ) → bit e i < 2
unfolding bit
bit_small e i = omega arith

-- a quotient is no larger
pub quotient_le : (e i : ℕ) → e / 2 ^ i ≤ e
quotient_le e i = div-le_self e (2 ^ i)

pub quotient_none : (e : ℕ) → e / 2 ^ 0 ≡ e
quotient_none e = omega arith

-- l places down: the quotient moved up, and the l bits between
pub places_down : (e i l : ℕ) → e / 2 ^ i ≡ e / 2 ^ (i + l) * 2 ^ l + e / 2 ^ i % 2 ^ l
places_down e i l = sym (rw (shr-shr e i l) at (split (e / 2 ^ i) l))

-- ---- bytes

pub power_of_bytes : (k : ℕ) → 256 ^ k ≡ 2 ^ (8 * k)
power_of_bytes k = power_of_power 2 8 k

-- bits below place 8 depend on the low byte alone
pub low_bits : (x y j : ℕ) → x % 256 ≡ y % 256 → j < 8 → x / 2 ^ j % 2 ≡ y / 2 ^ j % 2
low_bits x y j h l = sym (seen x) ∙ ap (λ (v : ℕ). v / 2 ^ j % 2) h ∙ seen y
  where
    e : 8 ≡ (7 - j + 1) + j
    e = omega arith

    seen : (v : ℕ) → v % 256 / 2 ^ j % 2 ≡ v / 2 ^ j % 2
    seen v = ap (λ (n : ℕ). v % 2 ^ n / 2 ^ j % 2) e ∙ ap (λ (n : ℕ). n % 2) (field v (7 - j + 1) j) ∙ mod-mod-pow (v / 2 ^ j) (7 - j) 1

pub power_positive : (k : ℕ) → 0 < 256 ^ k
power_positive k = rw (power_of_bytes k) (pow_pos (8 * k))

-- a bound on the bytes from k on
quotient_bound : (v k n : ℕ) → v / 256 ^ k < 2 ^ n ↔ v < 2 ^ (8 * k + n)
quotient_bound v k n =
    let s : 2 ^ n * 256 ^ k ≡ 2 ^ (8 * k + n) = rw (power_of_bytes k, ← pow-add) (ap (λ (i : ℕ). 2 ^ i) (omega arith)) in
    rw (← s) (div-lt_iff_lt-mul (power_positive k))

-- the bit length, by the bit length m of what stands from byte k on
pub length_from : (v k m : ℕ) → v / 256 ^ k < 2 ^ m → 2 ^ m ≤ 2 * (v / 256 ^ k) + 1 → 0 < v / 256 ^ k → bit_length v ≡ 8 * k + m
length_from v k zero h l p = absurd (omega arith)
length_from v k (suc m) h l p =
    let most : bit_length v ≤ 8 * k + suc m = (bit_length_iff v (8 * k + suc m)).1 ((quotient_bound v k (suc m)).0 h) in
    let few : bit_length v ≤ 8 * k + m → ⊥ =
    λ g. let c = (quotient_bound v k m).1 ((bit_length_iff v (8 * k + m)).0 g) in omega (arith, pow-suc 2 m) in
    omega arith

-- ---- elements of a power of two

-- a bit stands in its element, at any base 2 ^ b
pub bit_of_element : (b : ℕ) (l : List ℕ) (q r : ℕ) → r < b → Below (2 ^ b) l → get_or l q 0 / 2 ^ r % 2 ≡ bit (positional (2 ^ b) l) (b * q + r)
unfolding bit
bit_of_element b l q r h below =
    let v : ℕ = positional (2 ^ b) l in
    let y : ℕ = v / 2 ^ (b * q) in
    let s : v / 2 ^ (b * q + r) ≡ y / 2 ^ r = sym (shr-shr v (b * q) r) in
    let e : get_or l q 0 ≡ y % 2 ^ b = positional_at (2 ^ b) l q below ∙ ap (λ (p : ℕ). v / p % 2 ^ b) (power_of_power 2 b q) in
    let c : b ≡ (b - 1 - r + 1) + r = omega arith in
    rw (s, e) (ap (λ (n : ℕ). y % 2 ^ n / 2 ^ r % 2) c ∙ ap (λ (n : ℕ). n % 2) (field y (b - 1 - r + 1) r) ∙ mod-mod-pow (y / 2 ^ r) (b - 1 - r) 1)

pub bit_of_byte : (l : List ℕ) (place : ℕ) → Below 256 l → get_or l (place / 8) 0 / 2 ^ (place % 8) % 2 ≡ bit (bytes_value l) place
bit_of_byte l place b =
    let e : 8 * (place / 8) + place % 8 ≡ place = omega arith in
    rw e at (bit_of_element 8 l (place / 8) (place % 8) (omega arith) b)

-- at most eight bits stand in two bytes
pub bits_of_bytes : (l : List ℕ) (place count : ℕ) → Below 256 l → count ≤ 8
    → (get_or l (place / 8) 0 + 256 * get_or l (place / 8 + 1) 0) / 2 ^ (place % 8) % 2 ^ count ≡ bytes_value l / 2 ^ place % 2 ^ count
bits_of_bytes l place count b few =
    let v : ℕ = bytes_value l in
    let q : ℕ = place / 8 in
    let r : ℕ = place % 8 in
    let e : place ≡ 8 * q + r = omega arith in
    let s : v / 2 ^ place ≡ v / 256 ^ q / 2 ^ r = ap (λ (k : ℕ). v / 2 ^ k) e ∙ sym (shr-shr v (8 * q) r) ∙ rw (power_of_bytes q) in
    let two : get_or l q 0 + 256 * get_or l (q + 1) 0 ≡ v / 256 ^ q % 2 ^ 16 =
    rw add-one (omega (arith, positional_div 256 l q b, positional_drop 256 l q, positional_drop 256 l (suc q), b q, b (suc q))) in
    let w : 16 ≡ (16 - r - count + count) + r = omega arith in
    rw (s, two)
    (ap (λ (n : ℕ). v / 256 ^ q % 2 ^ n / 2 ^ r % 2 ^ count) w ∙ ap (λ (n : ℕ). n % 2 ^ count) (field (v / 256 ^ q) (16 - r - count + count) r) ∙ mod-mod-pow (v / 256 ^ q / 2 ^ r) (16 - r - count) count)

-- ---- the bit length by the highest byte

pub zero_length : (l : List ℕ) → bytes_value l ≡ 0 → bit_length (bytes_value l) ≡ 0
unfolding bit_length length_up_to
zero_length l z = rw z

-- this many bytes have no more bits
pub bytes_length : (l : List ℕ) (k : ℕ) → Below 256 l → length l ≤ k → bit_length (bytes_value l) ≤ 8 * k
bytes_length l k b h = (bit_length_iff (bytes_value l) (8 * k)).1 (rw (← power_of_bytes k) (positional_lt 256 k l h b))

-- the highest byte is all that is left above the others
pub top_byte : (l : List ℕ) (n : ℕ) → Below 256 l → Significant l n → 0 < n → get_or l (n - 1) 0 ≡ bytes_value l / 256 ^ (n - 1)
top_byte l n b s some =
    let e : n ≡ suc (n - 1) = omega arith in
    omega (arith, positional_drop 256 l (n - 1), s.whole, ap (λ (i : ℕ). bytes_value (drop i l)) e, positional_div 256 l (n - 1) b)

pub length_by_top : (l : List ℕ) (n : ℕ) → Below 256 l → Significant l n → 0 < n → 8 * (n - 1) + (64 - count_leading_zeros 64 (get_or l (n - 1) 0)) ≡ bit_length (bytes_value l)
length_by_top l n b s some =
    let t : ℕ = get_or l (n - 1) 0 in
    let byte : t < 256 = b (n - 1) in
    let (m, zeros, low, high) = leading_length 64 t (omega arith) in
    let e = top_byte l n b s some in
    let nonzero : 0 < t = omega (arith, s.top some) in
    let c = length_from (bytes_value l) (n - 1) m (omega arith) (omega arith) (omega arith) in
    omega arith

-- the byte of a truth value
pub bool_small : (p : Bool) → bool_byte p ≤ 1
bool_small true = omega arith
bool_small false = omega arith
