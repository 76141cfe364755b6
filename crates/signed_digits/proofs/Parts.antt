-- An integer as the difference of two naturals, its positive and its negative part, and the value of a string likewise: this turns a fact about integers into one that omega reads.
use mathlib.Core.Path.{◌≡◌, refl, ap}
use mathlib.Core.Bool.{Bool, true, false, cond}
use mathlib.Core.List.{List, [], ◌∷◌}
use Prim.Native.Nat.{ℕ, zero, suc, ◌+◌, ◌*◌, ◌-◌, ◌≤◌, ◌^◌}
use native.Mathlib.Omega.{arith}
use borrow.Author.Tests.{ltb-true, ltb-false}
use lib.Dec.{ltb}
use lib.IntN.{ℤ, pos, negsuc, neg_ℤ, ◌+ℤ◌, ◌*ℤ◌, ◌-ℤ◌, sub_ℕ, nat_abs}
use Rattle.signed_digits.specs.Strings.{value}

-- both cases of a `cond`
pub cond_cases : {A : Type 0} (c : Bool) (x y : A) (P : A → Type 0) → (c ≡ true → P x) → (c ≡ false → P y) → P (cond c x y)
cond_cases true x y P f g = f refl
cond_cases false x y P f g = g refl

-- n is a multiple of 2 ^ g
abbrev pub Multiple : ℕ → ℕ → Type 0
Multiple g n = (k : ℕ) × (n ≡ 2 ^ g * k)

-- ---- integers
abbrev pub positive_part : ℤ → ℕ
positive_part (pos n) = n
positive_part (negsuc n) = 0

abbrev pub negative_part : ℤ → ℕ
negative_part (pos n) = 0
negative_part (negsuc n) = suc n

-- two integers are equal where their parts are, crosswise
pub from_parts : (a b : ℤ) → positive_part a + negative_part b ≡ positive_part b + negative_part a → a ≡ b
from_parts (pos a) (pos b) h = ap pos (omega arith)
from_parts (pos a) (negsuc b) h = absurd (omega arith)
from_parts (negsuc a) (pos b) h = absurd (omega arith)
from_parts (negsuc a) (negsuc b) h = ap negsuc (omega arith)

-- a rule for omega, which applies it to each digit that is 0
pub zero_parts : (a : ℤ) → a ≡ pos 0 → positive_part a + negative_part a ≡ 0
zero_parts a e = rw e

pub size_parts : (a : ℤ) → nat_abs a ≡ positive_part a + negative_part a
size_parts (pos n) = omega arith
size_parts (negsuc n) = omega arith

pub opposite_parts : (a : ℤ) → (positive_part (neg_ℤ a) ≡ negative_part a) × (negative_part (neg_ℤ a) ≡ positive_part a)
opposite_parts (pos zero) = (refl, refl)
opposite_parts (pos (suc n)) = (refl, refl)
opposite_parts (negsuc n) = (refl, refl)

difference_parts : (a b : ℕ) → (positive_part (sub_ℕ a b) ≡ a - b) × (negative_part (sub_ℕ a b) ≡ b - a)
difference_parts a b =
    cond_cases (ltb a b) (negsuc (b - suc a)) (pos (a - b)) (λ z. (positive_part z ≡ a - b) × (negative_part z ≡ b - a))
    (λ t. omega (arith, ltb-true)) (λ t. omega (arith, ltb-false))

pub sum_parts : (a b : ℤ) → positive_part (a +ℤ b) + (negative_part a + negative_part b) ≡ (positive_part a + positive_part b) + negative_part (a +ℤ b)
sum_parts (pos a) (pos b) = omega arith
sum_parts (pos a) (negsuc b) = omega (arith, difference_parts a (suc b))
sum_parts (negsuc a) (pos b) = omega (arith, difference_parts b (suc a))
sum_parts (negsuc a) (negsuc b) = omega arith

pub product_parts : (a b : ℤ) →
    (positive_part (a *ℤ b) ≡ positive_part a * positive_part b + negative_part a * negative_part b) ×
    (negative_part (a *ℤ b) ≡ positive_part a * negative_part b + negative_part a * positive_part b)
product_parts (pos a) (pos b) = omega arith
product_parts (pos a) (negsuc b) = omega (arith, opposite_parts (pos (a * suc b)))
product_parts (negsuc a) (pos b) = omega (arith, opposite_parts (pos (suc a * b)))
product_parts (negsuc a) (negsuc b) = omega arith

-- the size of n - d, where that is not below zero
pub difference_size : (n : ℕ) (d : ℤ) → positive_part d ≤ n → nat_abs (pos n -ℤ d) + positive_part d ≡ n + negative_part d
difference_size n (pos zero) h = omega arith
difference_size n (pos (suc k)) h = omega (arith, size_parts (sub_ℕ n (suc k)), difference_parts n (suc k))
difference_size n (negsuc k) h = omega arith

-- ---- strings
-- what the positive digits come to, and the negative ones
unfoldable pub positive_sum : List ℤ → ℕ
positive_sum [] = 0
positive_sum (d ∷ ds) = positive_part d + 2 * positive_sum ds

unfoldable pub negative_sum : List ℤ → ℕ
negative_sum [] = 0
negative_sum (d ∷ ds) = negative_part d + 2 * negative_sum ds

pub value_parts : (ds : List ℤ) → positive_part (value ds) + negative_sum ds ≡ positive_sum ds + negative_part (value ds)
unfolding value positive_sum negative_sum
value_parts [] = refl
value_parts (d ∷ ds) = omega (arith, value_parts ds, sum_parts d (pos 2 *ℤ value ds), product_parts (pos 2) (value ds))

-- the same value, as a fact about naturals
abbrev pub SameSums : List ℤ → List ℤ → Type 0
SameSums xs ys = positive_sum xs + negative_sum ys ≡ positive_sum ys + negative_sum xs

pub same_sums : (xs ys : List ℤ) → value xs ≡ value ys → SameSums xs ys
same_sums xs ys e = omega (arith, value_parts xs, value_parts ys, ap positive_part e, ap negative_part e)
