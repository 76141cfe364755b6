-- The low bytes of a number: how many, of which value, and that a string is the low bytes of its own value. Assumes nothing.
use mathlib.Core.Path.{◌≡◌, refl, ap, ◌∙◌}
use mathlib.Core.List.{List, [], ◌∷◌, ◌++◌}
use Prim.Native.Nat.{ℕ, zero, suc, ◌+◌, ◌*◌, ◌/◌, ◌%◌, ◌^◌, ◌<◌}
use native.Mathlib.Nat.{zero-add, suc-add, pow-zero, pow-suc, pow-succ', mul_assoc, one-le-pow, mod-eq_of_lt, div-one, div-div-eq-div-mul}
use native.Mathlib.Omega.{arith}
use lib.Arith.{mod-mul}
use lib.ListN.{length}
use Rattle.integers.specs.Positional.{positional, bytes_value, low_bytes}
use Rattle.integers.proofs.Positional.{Below}

pub length_low : (n v : ℕ) → length (low_bytes n v) ≡ n
unfolding low_bytes
length_low zero v = refl
length_low (suc n) v = ap suc (length_low n (v / 256))

-- what they leave out is a multiple of the next power
pub low_value : (n v : ℕ) → bytes_value (low_bytes n v) ≡ v % 256 ^ n
unfolding low_bytes positional
low_value zero v = rw pow-zero (omega arith)
low_value (suc n) v = rw pow-suc (omega (arith, low_value n (v / 256), mod-mul v {m = 256 ^ n} {c = 256} (one-le-pow n 256 (omega arith)) (omega arith)))

pub low_below : (n v : ℕ) → Below 256 (low_bytes n v)
unfolding low_bytes
low_below zero v i = omega arith
low_below (suc n) v zero = omega arith
low_below (suc n) v (suc i) = low_below n (v / 256) i

pub low_of : (l : List ℕ) → Below 256 l → low_bytes (length l) (bytes_value l) ≡ l
unfolding low_bytes positional
low_of [] b = refl
low_of (x ∷ l) b =
    let v : ℕ = bytes_value l in
    let h : x < 256 = b 0 in
    let low : (x + 256 * v) % 256 ≡ x = omega arith in
    let high : (x + 256 * v) / 256 ≡ v = omega arith in
    rw (low, high, low_of l (λ i. b (suc i)))

-- enough of them have the whole value
pub low_whole : (n v : ℕ) → v < 256 ^ n → bytes_value (low_bytes n v) ≡ v
low_whole n v h = low_value n v ∙ mod-eq_of_lt h

-- the bytes above the m lowest are those of a quotient
pub low_add : (m n v : ℕ) → low_bytes (m + n) v ≡ low_bytes m v ++ low_bytes n (v / 256 ^ m)
unfolding low_bytes
low_add zero n v = rw (zero-add, pow-zero, div-one)
low_add (suc m) n v = rw (suc-add, low_add m n (v / 256), div-div-eq-div-mul, pow-succ')

-- what stands above them changes nothing
pub low_above : (n v r : ℕ) → low_bytes n (v + 256 ^ n * r) ≡ low_bytes n v
unfolding low_bytes
low_above zero v r = refl
low_above (suc n) v r =
    let e : 256 ^ suc n * r ≡ 256 * (256 ^ n * r) = rw (pow-succ', mul_assoc) in
    let m : (v + 256 ^ suc n * r) % 256 ≡ v % 256 = omega (arith, e) in
    let d : (v + 256 ^ suc n * r) / 256 ≡ v / 256 + 256 ^ n * r = omega (arith, e) in
    rw (m, d, low_above n (v / 256) r)
