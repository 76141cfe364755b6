-- The form of a natural number, one digit at a time: the lowest digit, then the form of what is left.
use mathlib.Core.Path.{◌≡◌, refl, ap}
use mathlib.Core.Logic.{◌≢◌}
use mathlib.Core.Bool.{Bool, true, false, cond}
use mathlib.Core.List.{List, [], ◌∷◌}
use Prim.Native.Nat.{ℕ, zero, suc, ◌+◌, ◌*◌, ◌-◌, ◌<◌, ◌≤◌, ◌^◌, ◌%◌, ◌/◌}
use native.Mathlib.Omega.{arith}
use native.Mathlib.Numerals.{sub-one}
use native.Mathlib.Nat.{mod-le}
use lib.Dec.{ltb, eqb}
use lib.IntN.{ℤ, pos, negsuc, neg_ℤ, neg_ℤ-neg_ℤ, nat_abs, ◌-ℤ◌}
use borrow.Author.Tests.{ltb-false, le-ltb, eqb-false}
use Rattle.signed_digits.specs.Naf.{residue, low_digit, rest, digits_of, naf}

-- ---- what is left is smaller

-- m - k, where it is not below zero
pub minus_smaller : (m k : ℕ) → k ≤ m → pos m -ℤ pos k ≡ pos (m - k)
minus_smaller m zero h = ap pos (omega arith)
minus_smaller m (suc k) h = rw (le-ltb m (suc k) h)

-- An odd n less its residue is n - r or n + (2 ^ w - r), for the remainder r.
-- In the second case 2 ^ w - r is at most r, so at most n; and it is not n, which would then be 2 ^ (w - 1), an even number. Here h is 2 ^ (w - 2).
minus_residue : (w n h : ℕ) → 2 ^ w ≡ 4 * h → 2 ^ (w - 1) ≡ 2 * h → n % 2 ≢ 0 → nat_abs (pos n -ℤ residue w n) < 2 * n
unfolding residue
minus_residue w n h whole half odd = go (ltb (n % 2 ^ w) (2 ^ (w - 1))) refl (mod-le n (2 ^ w))
  where
    go : (t : Bool) → ltb (n % 2 ^ w) (2 ^ (w - 1)) ≡ t → n % 2 ^ w ≤ n → nat_abs (pos n -ℤ cond t (pos (n % 2 ^ w)) (neg_ℤ (pos (2 ^ w - n % 2 ^ w)))) < 2 * n
    go true e l = rw (minus_smaller n (n % 2 ^ w) l) (omega arith)
    go false e l = rw (neg_ℤ-neg_ℤ (pos (2 ^ w - n % 2 ^ w))) (omega (arith, ltb-false (n % 2 ^ w) (2 ^ (w - 1)) e))

pub rest_less : (w n : ℕ) → 2 ≤ w → 0 < n → rest w n < n
unfolding rest low_digit
rest_less zero n h positive = absurd (omega arith)
rest_less (suc zero) n h positive = absurd (omega arith)
rest_less (suc (suc v)) n h positive = go (eqb (n % 2) 0) refl
  where
    go : (t : Bool) → eqb (n % 2) 0 ≡ t → nat_abs (pos n -ℤ cond t (pos 0) (residue (suc (suc v)) n)) / 2 < n
    go true e = omega arith
    go false e =
        let half : 2 ^ (suc (suc v) - 1) ≡ 2 ^ suc v = simp sub-one in
        omega (arith, minus_residue (suc (suc v)) n (2 ^ v) (omega arith) (omega arith) (eqb-false (n % 2) 0 e))

-- ---- the fuel of `digits_of` does not matter

-- at least n is enough for n
enough : (w f g n : ℕ) → 2 ≤ w → n ≤ f → n ≤ g → digits_of w f n ≡ digits_of w g n
unfolding digits_of
enough w zero zero n h p q = refl
enough w zero (suc g) zero h p q = refl
enough w zero (suc g) (suc n) h p q = absurd (omega arith)
enough w (suc f) zero zero h p q = refl
enough w (suc f) zero (suc n) h p q = absurd (omega arith)
enough w (suc f) (suc g) zero h p q = refl
enough w (suc f) (suc g) (suc n) h p q =
    let less : rest w (suc n) < suc n = rest_less w (suc n) h (omega arith) in
    ap (λ (ds : List ℤ). low_digit w (suc n) ∷ ds) (enough w f g (rest w (suc n)) h (omega arith) (omega arith))

pub naf_zero : (w : ℕ) → naf w (pos 0) ≡ []
unfolding naf digits_of
naf_zero w = refl

pub naf_step : (w n : ℕ) → 2 ≤ w → 0 < n → naf w (pos n) ≡ low_digit w n ∷ naf w (pos (rest w n))
unfolding naf digits_of
naf_step w zero h positive = absurd (omega arith)
naf_step w (suc n) h positive =
    let less : rest w (suc n) < suc n = rest_less w (suc n) h positive in
    ap (λ (ds : List ℤ). low_digit w (suc n) ∷ ds) (enough w n (rest w (suc n)) (rest w (suc n)) h (omega arith) (omega arith))

-- ---- width 2, by the remainder modulo 4

pub low_digit_2 : (q : ℕ) → (low_digit 2 (4 * q) ≡ pos 0) × (low_digit 2 (4 * q + 1) ≡ pos 1) × (low_digit 2 (4 * q + 2) ≡ pos 0) × (low_digit 2 (4 * q + 3) ≡ negsuc 0)
unfolding low_digit residue
low_digit_2 q =
    let even0 : 4 * q % 2 ≡ 0 = omega arith in
    let odd1 : (4 * q + 1) % 2 ≡ 1 = omega arith in
    let even2 : (4 * q + 2) % 2 ≡ 0 = omega arith in
    let odd3 : (4 * q + 3) % 2 ≡ 1 = omega arith in
    let below_half : (4 * q + 1) % 4 ≡ 1 = omega arith in
    let above_half : (4 * q + 3) % 4 ≡ 3 = omega arith in
    (rw even0, rw (odd1, below_half), rw even2, rw (odd3, above_half))

pub rest_2 : (q : ℕ) → (rest 2 (4 * q) ≡ 2 * q) × (rest 2 (4 * q + 1) ≡ 2 * q) × (rest 2 (4 * q + 2) ≡ 2 * q + 1) × (rest 2 (4 * q + 3) ≡ 2 * q + 2)
unfolding rest
rest_2 q =
    let d = low_digit_2 q in
    (rw d.0 (omega arith), rw (d.1, minus_smaller (4 * q + 1) 1 (omega arith)) (omega arith), rw d.2 (omega arith), rw d.3 (omega arith))

-- proof by cases: every number is 4 q + r for an r below 4
pub by_four : (P : ℕ → Type 0) → ((q : ℕ) → P (4 * q) × P (4 * q + 1) × P (4 * q + 2) × P (4 * q + 3)) → (n : ℕ) → P n
by_four P h n = go (n % 4) refl
  where
    go : (r : ℕ) → n % 4 ≡ r → P n
    go zero e = let split : n ≡ 4 * (n / 4) = omega arith in rw split (h (n / 4)).0
    go (suc zero) e = let split : n ≡ 4 * (n / 4) + 1 = omega arith in rw split (h (n / 4)).1
    go (suc (suc zero)) e = let split : n ≡ 4 * (n / 4) + 2 = omega arith in rw split (h (n / 4)).2
    go (suc (suc (suc zero))) e = let split : n ≡ 4 * (n / 4) + 3 = omega arith in rw split (h (n / 4)).3
    go (suc (suc (suc (suc r)))) e = absurd (omega arith)

-- twice what is left, and the digit, make the number
pub data Low (n m : ℕ) : ℤ → Type 0 where
  even : n ≡ 2 * m → Low n m (pos 0)
  plus : n ≡ 2 * m + 1 → Low n m (pos 1)
  minus : n + 1 ≡ 2 * m → Low n m (negsuc 0)

pub low_digit_lem : (n : ℕ) → Low n (rest 2 n) (low_digit 2 n)
low_digit_lem = by_four _ (λ q.
    let d = low_digit_2 q in
    let r = rest_2 q in
    (rw (d.0, r.0) (even (omega arith)), rw (d.1, r.1) (plus (omega arith)), rw (d.2, r.2) (even (omega arith)), rw (d.3, r.3) (minus (omega arith))))
