-- Three times a number, a byte at a time. Assumes nothing.
use mathlib.Core.Path.{◌≡◌, refl, sym, ◌∙◌}
use mathlib.Core.List.{List, ◌++◌}
use Prim.Native.Nat.{ℕ, zero, suc, ◌+◌, ◌*◌, ◌/◌, ◌%◌, ◌^◌, ◌<◌, ◌≤◌}
use native.Mathlib.Nat.{pow-suc, mul_left_comm, mul_comm, mod-lt, div-add-mod, add-mul-div_left, add-mul-mod_self_left, div-div-eq-div-mul, div-lt_iff_lt-mul}
use native.Mathlib.Numerals.{add-one}
use native.Mathlib.Omega.{arith}
use lib.Arith.{mod-mul}
use lib.IntN.{pos}
use lib.ListN.{length}
use lib.Pow.{shr-shr}
use Rattle.integers.specs.Bits.{bit, bit_length}
use Rattle.integers.specs.Positional.{bytes_value}
use Rattle.integers.proofs.Positional.{positional_append}
use Rattle.integers.proofs.Bits.{power_of_bytes, power_positive, low_bits, bit_length_iff}
use Rattle.signed_digits.specs.Naf.{canonical}
use Rattle.signed_digits.proofs.Length.{length_at_most}
use Rattle.signed_digits.proofs.Triple.{digit_byte_at}
use Rattle.digit_strings.specs.Places.{place_byte}
use Rattle.recoding_digits.specs.Internal.{triple_carry, difference}

-- the quotient of the triple: the triple of the quotient, and what is carried
pub triple_div : (e k : ℕ) → 3 * e / 256 ^ k ≡ 3 * (e / 256 ^ k) + triple_carry e k
unfolding triple_carry
triple_div e k =
    let p : ℕ = 256 ^ k in
    let q : ℕ = e / p in
    let s : ℕ = e % p in
    let a : 3 * e ≡ 3 * s + p * (3 * q) = omega (arith, div-add-mod e p, mul_left_comm 3 p q) in
    rw (a, add-mul-div_left (3 * s) (3 * q) (power_positive k)) (omega arith)

pub carry_small : (e k : ℕ) → triple_carry e k ≤ 2
unfolding triple_carry
carry_small e k =
    let l : e % 256 ^ k < 256 ^ k = mod-lt e (power_positive k) in
    let d : 3 * (e % 256 ^ k) / 256 ^ k < 3 = (div-lt_iff_lt-mul (power_positive k)).1 (omega arith) in
    omega arith

pub carry_none : (e : ℕ) → triple_carry e 0 ≡ 0
unfolding triple_carry
carry_none e = omega arith

-- the bytes above change nothing
pub carry_below : (low high : List ℕ) → triple_carry (bytes_value (low ++ high)) (length low) ≡ triple_carry (bytes_value low) (length low)
unfolding triple_carry
carry_below low high = rw (positional_append 256 low high, add-mul-mod_self_left)

-- one byte more
pub carry_step : (e k : ℕ) → triple_carry e (k + 1) ≡ (3 * (e / 256 ^ k % 256) + triple_carry e k) / 256
unfolding triple_carry
carry_step e k =
    let p : ℕ = 256 ^ k in
    let b : ℕ = e / p % 256 in
    let s : ℕ = e % p in
    let m : e % (256 * p) ≡ b * p + s = mod-mul e (omega arith) (power_positive k) in
    let a : 3 * (b * p + s) ≡ 3 * s + p * (3 * b) = omega (arith, mul_left_comm 3 p b) in
    let f : 256 ^ (k + 1) ≡ p * 256 = rw (add-one, pow-suc) in
    let g : e % 256 ^ (k + 1) ≡ b * p + s = rw f (rw (mul_comm 256 p) at m) in
    rw (g, f, ← div-div-eq-div-mul, a, add-mul-div_left (3 * s) (3 * b) (power_positive k)) (omega arith)

-- ---- the digits of a byte

-- the places of a byte, one place up
split_place : (v k j : ℕ) → v / 2 ^ (8 * k + j + 1) ≡ v / 256 ^ k / 2 / 2 ^ j
split_place v k j =
    let e : 8 * k + j + 1 ≡ 8 * k + (1 + j) = omega arith in
    rw (e, ← shr-shr v (8 * k) (1 + j), ← shr-shr (v / 2 ^ (8 * k)) 1 j, power_of_bytes)

-- the two words whose differences are the digits of byte k
abbrev pub more_of : ℕ → ℕ → ℕ
more_of e k = (3 * (e / 256 ^ k % 256) + triple_carry e k) / 2 + 128 * (e / 256 ^ (k + 1) % 256)

abbrev pub less_of : ℕ → ℕ → ℕ
less_of e k = e / 256 ^ k % 256 / 2 + 128 * (e / 256 ^ (k + 1) % 256)

next_byte : (e k : ℕ) → e / 256 ^ (k + 1) ≡ e / 256 ^ k / 256
next_byte e k = rw (add-one, pow-suc) (sym (div-div-eq-div-mul e (256 ^ k) 256))

-- the words agree, in their low byte, with the quotients of 3 e and e, halved
half_more : (q c : ℕ) → ((3 * (q % 256) + c) / 2 + 128 * (q / 256 % 256)) % 256 ≡ (3 * q + c) / 2 % 256
half_more q c =
    let u : ℕ = q / 256 in
    let z : ℕ = u % 256 + 384 * (u / 256) in
    let whole : (3 * q + c) / 2 ≡ (3 * (q % 256) + c) / 2 + 384 * u = omega arith in
    let low : 384 * u ≡ 128 * (u % 256) + 256 * z = omega arith in
    let sum : (3 * q + c) / 2 ≡ (3 * (q % 256) + c) / 2 + 128 * (u % 256) + 256 * z = omega (arith, whole, low) in
    rw (sum, add-mul-mod_self_left)

half_less : (q : ℕ) → (q % 256 / 2 + 128 * (q / 256 % 256)) % 256 ≡ q / 2 % 256
half_less q = omega arith

pub byte_digit_lem : (e k j : ℕ) → j < 8 → place_byte (canonical (pos e)) (8 * k + j) ≡ difference (more_of e k) (less_of e k) j
unfolding place_byte difference bit
byte_digit_lem e k j h =
    let q : ℕ = e / 256 ^ k in
    let n = next_byte e k in
    let more : more_of e k % 256 ≡ 3 * e / 256 ^ k / 2 % 256 = rw (n, triple_div e k) (half_more q (triple_carry e k)) in
    let less : less_of e k % 256 ≡ q / 2 % 256 = rw n (half_less q) in
    digit_byte_at e (8 * k + j)
    ∙ rw (split_place (3 * e) k j, split_place e k j, low_bits (more_of e k) (3 * e / 256 ^ k / 2) j more h, low_bits (less_of e k) (q / 2) j less h)

-- ---- how many digits

-- one less than three times the number has in binary
pub digit_count : (e : ℕ) → 0 < e → length (canonical (pos e)) + 1 ≡ bit_length (3 * e)
digit_count e some =
    let n : ℕ = length (canonical (pos e)) in
    let most : bit_length (3 * e) ≤ n + 1 = (bit_length_iff (3 * e) (n + 1)).1 ((length_at_most e n).0 (omega arith)) in
    go (bit_length (3 * e)) refl most
  where
    go : (k : ℕ) → bit_length (3 * e) ≡ k → bit_length (3 * e) ≤ length (canonical (pos e)) + 1 → length (canonical (pos e)) + 1 ≡ k
    go zero z h = absurd (omega (arith, (bit_length_iff (3 * e) 0).0 (omega arith)))
    go (suc k) z h =
        let few : length (canonical (pos e)) ≤ k = (length_at_most e k).1 (rw add-one ((bit_length_iff (3 * e) (suc k)).0 (omega arith))) in
        omega arith
