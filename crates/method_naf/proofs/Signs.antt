-- How many canonical digits of a number e are 1, and how many -1, by what 3 e and e have in binary. Assumes nothing.
use mathlib.Core.Path.{◌≡◌, refl, sym, ◌∙◌}
use Prim.Native.Nat.{ℕ, zero, suc, ◌+◌, ◌-◌, ◌*◌, ◌/◌, ◌%◌, ◌≤◌, min}
use native.Mathlib.Nat.{min-le_left}
use native.Mathlib.Omega.{arith}
use lib.Bits.{bit_and, and_step, and_le_l}
use lib.Count.{ones, ones_in, ones_step}
use lib.IntN.{pos}
use Rattle.signed_digits.specs.Naf.{low_digit, rest, canonical}
use Rattle.signed_digits.proofs.Steps.{naf_zero, naf_step, low_digit_2, by_four, rest_less}
use Rattle.signed_digits.proofs.Triple.{rest_halved}
use Rattle.methods.specs.Forecast.{is_plus, is_minus, plus_digits, minus_digits}
use Rattle.naf_tally.specs.Tally.{only_in}

-- ---- places that hold 1 in a and 0 in b

less_shared : (x y : ℕ) → x - min x y ≡ x - y
less_shared x y = omega arith

-- the lowest place, and those above
only_in_step : (a b : ℕ) → only_in a b ≡ a % 2 - b % 2 + only_in (a / 2) (b / 2)
unfolding only_in
only_in_step a b =
    let x : ℕ = a - bit_and a b in
    let y : ℕ = bit_and (a / 2) (b / 2) in
    let s : bit_and a b ≡ y * 2 + min (a % 2) (b % 2) = and_step a b in
    let h : y ≤ a / 2 = and_le_l (a / 2) (b / 2) in
    let m : min (a % 2) (b % 2) ≤ a % 2 = min-le_left (a % 2) (b % 2) in
    let low : x % 2 ≡ a % 2 - b % 2 = omega (arith, less_shared (a % 2) (b % 2)) in
    let high : x / 2 ≡ a / 2 - y = omega arith in
    ones_step x ∙ rw (low, high)

-- ---- canonical digits

-- where n lies between 2 a and 2 a + 2, the lowest digit of n is the lowest bit of n + a, less that of a
low_signs : (a n : ℕ) → 2 * a ≤ n → n ≤ 2 * a + 2 → (is_plus (low_digit 2 n) ≡ (n + a) % 2 - a % 2) × (is_minus (low_digit 2 n) ≡ a % 2 - (n + a) % 2)
low_signs a = by_four _ (λ q.
    let d = low_digit_2 q in (
      λ l m. rw d.0 (omega arith),
      λ l m. rw d.1 (omega arith),
      λ l m. rw d.2 (omega arith),
      λ l m. rw d.3 (omega arith),
    ))

-- so with all digits; f is fuel, for which n is enough
signs : (f a n : ℕ) → n ≤ f → 2 * a ≤ n → n ≤ 2 * a + 2 → (plus_digits (canonical (pos n)) ≡ only_in (n + a) a) × (minus_digits (canonical (pos n)) ≡ only_in a (n + a))
unfolding plus_digits minus_digits only_in ones ones_in
signs zero a n h l m =
    let none : n ≡ 0 = omega arith in
    let z : a ≡ 0 = omega arith in
    rw (none, z, naf_zero 2) (refl, refl)
signs (suc f) a zero h l m = let z : a ≡ 0 = omega arith in rw (z, naf_zero 2) (refl, refl)
signs (suc f) a (suc n) h l m =
    let d = low_signs a (suc n) l m in
    let r = rest_halved a (suc n) l m in
    let more = signs f (a / 2) (rest 2 (suc n)) (omega (arith, rest_less 2 (suc n) (omega arith) (omega arith))) r.1 r.2 in
    rw (naf_step 2 (suc n) (omega arith) (omega arith))
    (omega (arith, d.0, rw r.0 at more.0, only_in_step (suc n + a) a), omega (arith, d.1, rw r.0 at more.1, only_in_step a (suc n + a)))

-- 3 e and e agree in their lowest digit
module _ (e : ℕ) where
  sum : 3 * e / 2 ≡ e + e / 2
  sum = omega arith

  pub plus_digits_lem : plus_digits (canonical (pos e)) ≡ only_in (3 * e) e
  plus_digits_lem = (signs e (e / 2) e (omega arith) (omega arith) (omega arith)).0 ∙ sym (omega (arith, rw sum at (only_in_step (3 * e) e)))

  pub minus_digits_lem : minus_digits (canonical (pos e)) ≡ only_in e (3 * e)
  minus_digits_lem = (signs e (e / 2) e (omega arith) (omega arith) (omega arith)).1 ∙ sym (omega (arith, rw sum at (only_in_step e (3 * e))))
