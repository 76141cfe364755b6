-- What two integers add up to, by signs and sizes. Assumes nothing.
use mathlib.Core.Path.{◌≡◌, refl}
use mathlib.Core.Logic.{◌≢◌}
use mathlib.Core.Bool.{Bool, true, false, cond}
use Prim.Native.Nat.{ℕ, zero, suc, ◌+◌, ◌-◌, ◌≤◌}
use borrow.Author.Tests.{ltb-true, ltb-false, lt-ltb, le-ltb, eqb-true, eqb-false, eq-eqb, ne_eqb}
use native.Mathlib.Omega.{arith}
use lib.Bits.{bit_xor}
use lib.Dec.{ltb, eqb}
use lib.IntN.{ℤ, pos, negsuc, neg_ℤ, nat_abs, ◌+ℤ◌}
use mir.Val.{bool_byte}
use Rattle.integers.specs.Signed.{sign_of, is_same}
use Rattle.integers.proofs.Signed.{negated_size}
use Rattle.chains.specs.Steps.{adding, subtracting}
use Rattle.records.specs.Recording.{distance_of}

-- ---- what a step adds to its first value: the second, or its opposite

abbrev pub addend : ℕ → ℤ → ℤ
addend operation y = cond (eqb operation adding) y (neg_ℤ y)

pub addend_size : (operation : ℕ) (y : ℤ) → nat_abs (addend operation y) ≡ nat_abs y
addend_size operation y = go (eqb operation adding)
  where
    go : (adds : Bool) → nat_abs (cond adds y (neg_ℤ y)) ≡ nat_abs y
    go true = refl
    go false = negated_size y

-- the signs of both values give the operation where what is added has the first one's sign
pub agreeing : (operation : ℕ) (x y : ℤ) → operation ≤ subtracting → y ≢ pos 0 → eqb (bit_xor (sign_of x) (sign_of y)) operation ≡ eqb (sign_of x) (sign_of (addend operation y))
agreeing operation x (pos zero) h d = absurd (d refl)
agreeing zero (pos m) (pos (suc n)) h d = refl
agreeing zero (pos m) (negsuc n) h d = refl
agreeing zero (negsuc m) (pos (suc n)) h d = refl
agreeing zero (negsuc m) (negsuc n) h d = refl
agreeing (suc zero) (pos m) (pos (suc n)) h d = refl
agreeing (suc zero) (pos m) (negsuc n) h d = refl
agreeing (suc zero) (negsuc m) (pos (suc n)) h d = refl
agreeing (suc zero) (negsuc m) (negsuc n) h d = refl
agreeing (suc (suc k)) x (pos (suc n)) h d = absurd (omega arith)
agreeing (suc (suc k)) x (negsuc n) h d = absurd (omega arith)

-- ---- of one sign: the sizes add up, and two are the same if their sizes are

module _ (x w : ℤ) (e : sign_of x ≡ sign_of w) where
  pub same_sign : (sign_of (x +ℤ w) ≡ sign_of x) × (nat_abs (x +ℤ w) ≡ nat_abs x + nat_abs w)
  same_sign = go x w e
    where
      go : (x w : ℤ) → sign_of x ≡ sign_of w → (sign_of (x +ℤ w) ≡ sign_of x) × (nat_abs (x +ℤ w) ≡ nat_abs x + nat_abs w)
      go (pos m) (pos n) e = (refl, refl)
      go (pos m) (negsuc n) e = absurd (omega arith)
      go (negsuc m) (pos n) e = absurd (omega arith)
      go (negsuc m) (negsuc n) e = (refl, omega arith)

  pub same_sizes : is_same x w ≡ eqb (nat_abs x) (nat_abs w)
  same_sizes = go x w e
    where
      down : (m n : ℕ) → eqb m n ≡ eqb (suc m) (suc n)
      down m n = both (eqb m n) refl
        where
          both : (t : Bool) → eqb m n ≡ t → eqb m n ≡ eqb (suc m) (suc n)
          both true q = rw (q, eq-eqb (suc m) (suc n) (omega (arith, eqb-true m n q)))
          both false q = rw (q, ne_eqb (suc m) (suc n) (λ r. eqb-false m n q (omega arith)))

      go : (x w : ℤ) → sign_of x ≡ sign_of w → is_same x w ≡ eqb (nat_abs x) (nat_abs w)
      go (pos m) (pos n) e = refl
      go (pos m) (negsuc n) e = absurd (omega arith)
      go (negsuc m) (pos n) e = absurd (omega arith)
      go (negsuc m) (negsuc n) e = down m n

-- ---- of opposite signs: the sizes are taken from each other, the larger decides, and no two are the same

pub opposite_size : (x w : ℤ) → sign_of x ≢ sign_of w → nat_abs (x +ℤ w) ≡ distance_of (nat_abs x) (nat_abs w)
opposite_size (pos m) (pos n) d = absurd (d refl)
opposite_size (negsuc m) (negsuc n) d = absurd (d refl)
opposite_size (pos m) (negsuc n) d = go (ltb m (suc n)) refl
  where
    go : (t : Bool) → ltb m (suc n) ≡ t → nat_abs (cond t (negsuc (suc n - suc m)) (pos (m - suc n))) ≡ distance_of m (suc n)
    go true l = omega (arith, ltb-true m (suc n) l)
    go false l = omega (arith, ltb-false m (suc n) l)
opposite_size (negsuc m) (pos n) d = go (ltb n (suc m)) refl
  where
    go : (t : Bool) → ltb n (suc m) ≡ t → nat_abs (cond t (negsuc (suc m - suc n)) (pos (n - suc m))) ≡ distance_of (suc m) n
    go true l = omega (arith, ltb-true n (suc m) l)
    go false l = omega (arith, ltb-false n (suc m) l)

pub opposite_sign : (x w : ℤ) → sign_of x ≢ sign_of w → nat_abs (x +ℤ w) ≢ 0 → sign_of (x +ℤ w) ≡ bit_xor (sign_of x) (bool_byte (ltb (nat_abs x) (nat_abs w)))
opposite_sign (pos m) (pos n) d s = absurd (d refl)
opposite_sign (negsuc m) (negsuc n) d s = absurd (d refl)
opposite_sign (pos m) (negsuc n) d s = go (ltb m (suc n))
  where
    go : (t : Bool) → sign_of (cond t (negsuc (suc n - suc m)) (pos (m - suc n))) ≡ bit_xor 0 (bool_byte t)
    go true = refl
    go false = refl
opposite_sign (negsuc m) (pos n) d s = go (ltb n (suc m)) refl s
  where
    go : (t : Bool) → ltb n (suc m) ≡ t → nat_abs (cond t (negsuc (suc m - suc n)) (pos (n - suc m))) ≢ 0
        → sign_of (cond t (negsuc (suc m - suc n)) (pos (n - suc m))) ≡ bit_xor 1 (bool_byte (ltb (suc m) n))
    go true l q = rw (le-ltb (suc m) n (omega (arith, ltb-true n (suc m) l)))
    go false l q = rw (lt-ltb (suc m) n (omega (arith, ltb-false n (suc m) l)))

pub opposite_differ : (x w : ℤ) → sign_of x ≢ sign_of w → is_same x w ≡ false
opposite_differ (pos m) (pos n) d = absurd (d refl)
opposite_differ (negsuc m) (negsuc n) d = absurd (d refl)
opposite_differ (pos m) (negsuc n) d = refl
opposite_differ (negsuc m) (pos n) d = refl
