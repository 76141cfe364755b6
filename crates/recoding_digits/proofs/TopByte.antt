-- How many digits a number's canonical string has, by its highest byte. Assumes nothing.
use mathlib.Core.Path.{◌≡◌, refl, ap, ◌∙◌}
use mathlib.Core.List.{List, [], ◌∷◌, ◌++◌}
use Prim.Native.Nat.{ℕ, zero, suc, ◌+◌, ◌*◌, ◌-◌, ◌/◌, ◌^◌, ◌<◌, ◌≤◌}
use native.Mathlib.Omega.{arith}
use lib.Count.{count_leading_zeros, leading_length}
use lib.IntN.{pos}
use lib.ListN.{length, get_or, length-append}
use lib.Pow.{pow-add}
use lib.Seq.{get_or_at}
use Rattle.integers.specs.Positional.{bytes_value, Unpadded, Significant}
use Rattle.integers.proofs.Positional.{Below, positional_lt, positional_nonzero, all_significant}
use Rattle.integers.proofs.Bits.{power_of_bytes, top_byte, length_from}
use Rattle.signed_digits.specs.Naf.{canonical}
use Rattle.signed_digits.proofs.Length.{length_at_most}
use Rattle.signed_digits.proofs.Steps.{naf_zero}
use Rattle.recoding_digits.specs.Internal.{triple_carry}
use Rattle.recoding_digits.proofs.Triple.{triple_div, carry_small, carry_below, digit_count}

module _ (number : List ℕ) (n : ℕ) (bytes : Below 256 number) (s : Significant number n) (some : 0 < n) where
  top_triple : 3 * get_or number (n - 1) 0 + triple_carry (bytes_value number) (n - 1) ≡ 3 * bytes_value number / 256 ^ (n - 1)
  top_triple = rw (top_byte number n bytes s some, triple_div)

  pub count_is : (top : ℕ) → top ≡ 3 * get_or number (n - 1) 0 + triple_carry (bytes_value number) (n - 1) → top < 2 ^ 64
      → (count_leading_zeros 64 top ≤ 62) × (8 * (n - 1) + (63 - count_leading_zeros 64 top) ≡ length (canonical (pos (bytes_value number))))
  count_is top e h =
      let nonzero : 0 < get_or number (n - 1) 0 = omega (arith, s.top some) in
      let (m, zeros, low, high) = leading_length 64 top h in
      let t : top ≡ 3 * bytes_value number / 256 ^ (n - 1) = e ∙ top_triple in
      let c = length_from (3 * bytes_value number) (n - 1) m (omega arith) (omega arith) (omega arith) in
      let positive : 0 < bytes_value number = go (bytes_value number) refl in
      let d = digit_count (bytes_value number) positive in
      let some_digits : 2 ≤ m = least m low in
      (omega arith, omega arith)
    where
      go : (v : ℕ) → bytes_value number ≡ v → 0 < v
      go zero z = absurd (positional_nonzero 256 number (n - 1) (omega arith) (s.top some) z)
      go (suc v) z = omega arith

      -- a byte that is not 0 gives a triple of two bits at least
      least : (m : ℕ) → top < 2 ^ m → 2 ≤ m
      least zero l = absurd (omega (arith, s.top some))
      least (suc zero) l = absurd (omega (arith, s.top some))
      least (suc (suc m)) l = omega arith

-- the same of an unpadded number, by its highest byte and those below it
module _ (number low : List ℕ) (x : ℕ) (parts : number ≡ low ++ (x ∷ [])) (bytes : Below 256 number) (unpadded : Unpadded number) where
  size : length number ≡ length low + 1
  size = rw parts (length-append low (x ∷ []))

  below_top : length number - 1 ≡ length low
  below_top = omega (arith, size)

  highest : get_or number (length number - 1) 0 ≡ x
  highest = rw (below_top, parts) (get_or_at low x [] 0 (length low) refl)

  pub highest_fits : x < 256
  highest_fits = rw highest at (bytes (length number - 1))

  pub count_by_highest : (top : ℕ) → top ≡ 3 * x + triple_carry (bytes_value low) (length low)
      → (count_leading_zeros 64 top ≤ 62) × (8 * length low + (63 - count_leading_zeros 64 top) ≡ length (canonical (pos (bytes_value number))))
  count_by_highest top e =
      let carry : triple_carry (bytes_value number) (length low) ≡ triple_carry (bytes_value low) (length low) = rw parts (carry_below low (x ∷ [])) in
      let same : top ≡ 3 * get_or number (length number - 1) 0 + triple_carry (bytes_value number) (length number - 1) = rw (highest, below_top, carry) e in
      let small : top < 2 ^ 64 = omega (arith, highest_fits, carry_small (bytes_value low) (length low)) in
      rw below_top at (count_is number (length number) bytes (all_significant number unpadded) (omega (arith, size)) top same small)

-- zero has none
pub count_zero : (number : List ℕ) → bytes_value number ≡ 0 → length (canonical (pos (bytes_value number))) ≡ 0
count_zero number z = ap (λ (e : ℕ). length (canonical (pos e))) z ∙ ap length (naf_zero 2)

-- n bytes have at most 8 n + 1 digits
pub most_digits_lem : (number : List ℕ) → Below 256 number → length (canonical (pos (bytes_value number))) ≤ 8 * length number + 1
most_digits_lem number b =
    let e : ℕ = bytes_value number in
    let h : e < 256 ^ length number = positional_lt 256 (length number) number (omega arith) b in
    let p : 2 ^ (8 * length number + 2) ≡ 256 ^ length number * 4 = rw (power_of_bytes (length number)) (pow-add 2 (8 * length number) 2) in
    let q : 8 * length number + 1 + 1 ≡ 8 * length number + 2 = omega arith in
    (length_at_most e (8 * length number + 1)).1 (rw (q, p) (omega arith))
