-- The size of a string's value, a byte at a time with a carry. Assumes nothing.
use mathlib.Core.Path.{◌≡◌, refl, sym, ap, ◌∙◌}
use mathlib.Core.Bool.{Bool, true, false, cond}
use mathlib.Core.List.{List, [], ◌∷◌}
use Prim.Native.Nat.{ℕ, zero, suc, ◌+◌, ◌-◌, ◌*◌, ◌/◌, ◌%◌, ◌^◌, ◌<◌, ◌≤◌}
use native.Mathlib.Decide.{dec_lt}
use native.Mathlib.Nat.{pow-suc, mul-zero, mul-le-mul_left}
use native.Mathlib.Numerals.{add-one}
use native.Mathlib.Omega.{arith}
use lib.Dec.{eqb}
use lib.IntN.{ℤ, pos, negsuc, nat_abs}
use lib.ListN.{length, get_or, set, take, drop, length-take, replicate}
use lib.Seq.{take-set-le, drop-set-lt, get_or-set_same}
use Rattle.rules.specs.Limits.{largest_width}
use Rattle.integers.specs.Positional.{positional, bytes_value}
use Rattle.integers.specs.Signed.{sign_of}
use Rattle.integers.proofs.Bits.{power_of_bytes}
use Rattle.integers.proofs.Positional.{Below, below_take, positional_drop, positional_split, positional_lt, positional_zeros}
use Rattle.signed_digits.proofs.Parts.{positive_part, negative_part}
use Rattle.digit_strings.specs.Admission.{largest_digit, string_value, DigitString}
use Rattle.reading_digits.specs.Sums.{raised_sum, raised_zeros, by_sign, carry_zero}
use Rattle.reading_digits.proofs.Raised.{zeros_none, zeros_add, raised_none, raised_add, value_by_sum}

-- the larger of the two sums of m digits, the sign being right, and the smaller
abbrev more : ℕ → List ℕ → ℕ → ℕ → ℕ
more t l sign m = by_sign sign (raised_sum t l 0 m) (raised_zeros t m)

abbrev less : ℕ → List ℕ → ℕ → ℕ → ℕ
less t l sign m = by_sign sign (raised_zeros t m) (raised_sum t l 0 m)

-- the k low bytes and the carry above them hold the difference of the low m digits' sums, and the other bytes are still 0
pub record Subtracted (t : ℕ) (l : List ℕ) (sign : ℕ) (size : List ℕ) (m k carry : ℕ) : Type 0 where
  pub value : bytes_value size + 256 ^ k * carry + less t l sign m ≡ more t l sign m + 256 ^ k * carry_zero
  pub rest : bytes_value (drop k size) ≡ 0
  pub bytes : Below 256 size

-- a store above all that is not 0
store : (base : ℕ) (l : List ℕ) (k x : ℕ) → k < length l → positional base (drop k l) ≡ 0 → positional base (set l k x) ≡ positional base l + base ^ k * x
store base l k x h z =
    let new : positional base (drop k (set l k x)) ≡ x + base * positional base (drop (suc k) l) =
    positional_drop base (set l k x) k ∙ rw (get_or-set_same l k x 0 h, drop-set-lt (suc k) l k x (omega arith)) in
    let high : base * positional base (drop (suc k) l) ≡ 0 = omega (arith, positional_drop base l k) in
    rw (positional_split base k (set l k x), positional_split base k l, take-set-le k l k x (omega arith), new, high, z, mul-zero) (omega arith)

below_set : (base : ℕ) (l : List ℕ) (k x : ℕ) → x < base → Below base l → Below base (set l k x)
below_set base [] k x h b i = b i
below_set base (y ∷ l) zero x h b zero = h
below_set base (y ∷ l) zero x h b (suc i) = b (suc i)
below_set base (y ∷ l) (suc k) x h b zero = b 0
below_set base (y ∷ l) (suc k) x h b (suc i) = below_set base l k x h (λ j. b (suc j)) i

below_zeros : (base n : ℕ) → 0 < base → Below base (replicate n 0)
below_zeros base zero h i = h
below_zeros base (suc n) h zero = h
below_zeros base (suc n) h (suc i) = below_zeros base n h i

-- both sums, of m digits and of the c above them
add_by_sign : (sign p a b x y : ℕ) → by_sign sign (a + p * x) (b + p * y) ≡ by_sign sign a b + p * by_sign sign x y
unfolding by_sign
add_by_sign sign p a b x y = go (eqb sign 0)
  where
    go : (t : Bool) → cond t (a + p * x) (b + p * y) ≡ cond t a b + p * cond t x y
    go true = refl
    go false = refl

-- One byte more, at p = 256 ^ k: v is what the bytes below hold, m and l the larger and the smaller sum below, u and d those of the byte.
byte_step : (p v l m u d b carry : ℕ) → v + p * carry + l ≡ m + p * carry_zero → b + d ≡ carry + 255 * carry_zero + u
    → v + p * (b % 256) + p * 256 * (b / 256) + (l + p * d) ≡ m + p * u + p * 256 * carry_zero
byte_step p v l m u d b carry e f =
    let g : b % 256 + 256 * (b / 256) + d ≡ carry + 255 * carry_zero + u = omega arith in
    omega (arith, e, ap (λ (x : ℕ). p * x) g)

pub subtracted_none : (t : ℕ) (l : List ℕ) (sign n : ℕ) → Subtracted t l sign (replicate n 0) 0 0 carry_zero
unfolding positional by_sign
subtracted_none t l sign n =
    let z : bytes_value (replicate n 0) ≡ 0 = positional_zeros 256 n [] in
    record { value = rw (z, zeros_none t, raised_none t l 0) (go (eqb sign 0)); rest = z; bytes = below_zeros 256 n (omega arith) }
  where
    go : (b : Bool) → 0 + 256 ^ 0 * carry_zero + cond b 0 0 ≡ cond b 0 0 + 256 ^ 0 * carry_zero
    go true = omega arith
    go false = omega arith

module _ (t : ℕ) (l : List ℕ) (sign : ℕ) (size : List ℕ) (k carry : ℕ) (inv : Subtracted t l sign size (8 * k) k carry) where
  pub subtracted_step : (c b : ℕ) → 8 * k + c ≤ length l → k < length size
      → b + by_sign sign (raised_zeros t c) (raised_sum t l (8 * k) c) ≡ carry + 255 * carry_zero + by_sign sign (raised_sum t l (8 * k) c) (raised_zeros t c)
      → Subtracted t l sign (set size k (b % 256)) (8 * k + c) (k + 1) (b / 256)
  subtracted_step c b h fits e =
      let p : ℕ = 256 ^ k in
      let x : ℕ = b % 256 in
      let sum : raised_sum t l 0 (8 * k + c) ≡ raised_sum t l 0 (8 * k) + p * raised_sum t l (8 * k) c = rw (raised_add t l (8 * k) c h, power_of_bytes) in
      let zeros : raised_zeros t (8 * k + c) ≡ raised_zeros t (8 * k) + p * raised_zeros t c = rw (zeros_add t (8 * k) c, power_of_bytes) in
      let next : 256 ^ (k + 1) ≡ p * 256 = rw (add-one, pow-suc) in
      let low : get_or size k 0 + 256 * bytes_value (drop (suc k) size) ≡ 0 = sym (positional_drop 256 size k) ∙ inv.rest in
      record {
        value =
            rw (sum, zeros, add_by_sign sign p (raised_zeros t (8 * k)), add_by_sign, next, store 256 size k x fits inv.rest)
            (byte_step p (bytes_value size) (less t l sign (8 * k)) (more t l sign (8 * k)) (by_sign sign (raised_sum t l (8 * k) c) (raised_zeros t c)) (by_sign sign (raised_zeros t c) (raised_sum t l (8 * k) c)) b carry inv.value e);
        rest = rw (add-one, drop-set-lt (suc k) size k x (omega arith)) (omega arith);
        bytes = below_set 256 size k x (omega arith) inv.bytes;
      }

-- the difference is the size, where the sign is right
size_by_sign : (v : ℤ) (sum zeros : ℕ) → positive_part v + zeros ≡ sum + negative_part v → nat_abs v + by_sign (sign_of v) zeros sum ≡ by_sign (sign_of v) sum zeros
unfolding by_sign
size_by_sign (pos n) sum of_zeros e = omega arith
size_by_sign (negsuc n) sum of_zeros e = omega arith

-- n digits with zeros alone above them
module _ (w : ℕ) (most : w ≤ largest_width) (l : List ℕ) (n : ℕ) (d : DigitString w l) (within : n ≤ length l) (above : bytes_value (drop n l) ≡ 0) (size : List ℕ) (k carry : ℕ) (inv : Subtracted (largest_digit w) l (sign_of (string_value l)) size n k carry) where
  abbrev p : ℕ
  p = 256 ^ k

  whole : bytes_value size + p * carry ≡ nat_abs (string_value l) + p * carry_zero
  whole =
      let difference = size_by_sign (string_value l) (raised_sum (largest_digit w) l 0 n) (raised_zeros (largest_digit w) n) (value_by_sum w most l n d within above) in
      omega (arith, inv.value)

  -- with the right sign the last carry is not below zero
  pub carry_left : carry_zero ≤ carry
  carry_left =
      let low : bytes_value (take k size) < p = positional_lt 256 k (take k size) (omega (arith, length-take k size)) (below_take 256 k size (omega arith) inv.bytes) in
      let bound : bytes_value size < p = rw (positional_split 256 k size, inv.rest, mul-zero) (omega arith) in
      go bound (dec_lt carry carry_zero)
    where
      go : bytes_value size < p → Dec (carry < carry_zero) → carry_zero ≤ carry
      go b (yes h) =
          let c : suc carry ≤ carry_zero = omega arith in
          absurd (omega (arith, whole, mul-le-mul_left p c))
      go b (no h) = omega arith

  -- and is the highest byte
  pub subtracted_all : k < length size → bytes_value (set size k (carry - carry_zero)) ≡ nat_abs (string_value l)
  subtracted_all fits =
      let e : carry ≡ carry - carry_zero + carry_zero = omega (arith, carry_left) in
      rw (store 256 size k (carry - carry_zero) fits inv.rest) (omega (arith, whole, ap (λ (x : ℕ). p * x) e))
