-- The 64 bits from a place down, out of the two words that hold them. Assumes nothing.
use Rattle.std.proofs.Common.{◌≡◌, ℕ, zero, suc, ◌+◌, ◌-◌, ◌*◌, ◌/◌, ◌%◌, ◌^◌, ◌<◌, List, ◌∷◌, get_or, drop, sym, ap, ◌∙◌, add-zero, mul_assoc, mul_comm, mul-add, arith, pow_pos, pow-add, shr-shr, shr_lt}
use native.Mathlib.Nat.{mul-mod_left, add-mul-div_left, add-mul-mod_self_left}
use lib.Pow.{shl-shr, high, low, mod-pow-add}
use Rattle.integers.specs.Positional.{positional, words_value}
use Rattle.integers.proofs.Powers.{power_of_power}
use Rattle.integers.proofs.Positional.{Below, positional_drop, positional_div}

-- the low j digits of w above k others
joined : (a w rest j k n : ℕ) → n ≡ j + k → a < 2 ^ k → (a + 2 ^ k * (w + 2 ^ n * rest)) % 2 ^ n ≡ w * 2 ^ k % 2 ^ n + a
joined a w rest j k n sum h =
    let p : ℕ = 2 ^ k in
    let m : ℕ = 2 ^ n in
    let swap : p * (m * rest) ≡ m * (p * rest) = sym (mul_assoc p m rest) ∙ ap (λ (x : ℕ). x * rest) (mul_comm p m) ∙ mul_assoc m p rest in
    let e : a + p * (w + m * rest) ≡ (w * p + a) + m * (p * rest) = omega (arith, mul-add p w (m * rest), mul_comm p w, swap) in
    let both : (w * p + a) % m ≡ (w % 2 ^ j) * p + a = ap (λ (i : ℕ). (w * p + a) % 2 ^ i) sum ∙ mod-pow-add (w * p + a) j k ∙ rw (high w k h, low w k h) in
    let above : w * p % m ≡ (w % 2 ^ j) * p = ap (λ (i : ℕ). w * p % 2 ^ i) sum ∙ mod-pow-add (w * p) j k ∙ rw (shl-shr w k, mul-mod_left w p, add-zero) in
    rw (e, add-mul-mod_self_left (w * p + a) m (p * rest), both, above)

module _ (l : List ℕ) (b : Below (2 ^ 64) l) where
  -- with a word of zeros below
  below_lifted : Below (2 ^ 64) (0 ∷ l)
  below_lifted zero = omega arith
  below_lifted (suc i) = b i

  pub bits_down : (n : ℕ) → get_or l (n / 64) 0 * 2 ^ (63 - n % 64) % 2 ^ 64 + get_or (0 ∷ l) (n / 64) 0 / 2 ^ (n % 64) / 2 ≡ 2 ^ 64 * words_value l / 2 ^ (n + 1) % 2 ^ 64
  unfolding positional
  bits_down n =
      let k : ℕ = n / 64 in
      let r : ℕ = n % 64 in
      let v : ℕ = 2 ^ 64 * words_value l in
      let under : ℕ = get_or (0 ∷ l) k 0 in
      let up : ℕ = words_value (drop k l) in
      let rest : ℕ = words_value (drop (suc k) l) in
      let j : ℕ = r + 1 in
      let i : ℕ = 63 - r in
      let sum : 64 ≡ j + i = omega arith in
      let p : 2 ^ 64 ≡ 2 ^ j * 2 ^ i = ap (λ (x : ℕ). 2 ^ x) sum ∙ pow-add 2 j i in
      let whole : words_value (0 ∷ l) ≡ v = omega arith in
      let q : v / 2 ^ (64 * k) ≡ under + 2 ^ 64 * up =
      ap (λ (x : ℕ). v / x) (sym (power_of_power 2 64 k)) ∙ ap (λ (x : ℕ). x / (2 ^ 64) ^ k) (sym whole) ∙ sym (positional_div (2 ^ 64) (0 ∷ l) k below_lifted) ∙ positional_drop (2 ^ 64) (0 ∷ l) k in
      let place : n + 1 ≡ 64 * k + j = omega arith in
      let m : 2 ^ 64 * up ≡ 2 ^ j * (2 ^ i * up) = ap (λ (x : ℕ). x * up) p ∙ mul_assoc (2 ^ j) (2 ^ i) up in
      let s : v / 2 ^ (n + 1) ≡ under / 2 ^ j + 2 ^ i * up =
      ap (λ (x : ℕ). v / 2 ^ x) place ∙ sym (shr-shr v (64 * k) j) ∙ ap (λ (x : ℕ). x / 2 ^ j) (q ∙ ap (λ (x : ℕ). under + x) m) ∙ add-mul-div_left under (2 ^ i * up) (pow_pos j) in
      let few : under < 2 ^ (i + j) = let c : i + j ≡ 64 = omega arith in rw c (below_lifted k) in
      let small : under / 2 ^ j < 2 ^ i = shr_lt i j few in
      let half : under / 2 ^ r / 2 ≡ under / 2 ^ j = shr-shr under r 1 in
      let next : up ≡ get_or l k 0 + 2 ^ 64 * rest = positional_drop (2 ^ 64) l k in
      rw (half, s, next) (sym (joined (under / 2 ^ j) (get_or l k 0) rest j i 64 sum small))
