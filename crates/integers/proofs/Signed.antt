-- Whether two integers are the same, and the size of an opposite. Assumes nothing.
use mathlib.Core.Path.{◌≡◌, refl, ap}
use mathlib.Core.Logic.{◌↔◌, ◌≢◌}
use mathlib.Core.Bool.{true, false}
use Prim.Native.Nat.{zero, suc}
use borrow.Author.Tests.{eqb-true, eq-eqb, ne_eqb}
use lib.IntN.{ℤ, pos, negsuc, neg_ℤ, nat_abs}
use Rattle.integers.specs.Signed.{is_same}

pub same_true : (a b : ℤ) → a ≡ b → is_same a b ≡ true
same_true a b e = rw e (go b)
  where
    go : (z : ℤ) → is_same z z ≡ true
    go (pos n) = eq-eqb n n refl
    go (negsuc n) = eq-eqb n n refl

pub same_false : (a b : ℤ) → a ≢ b → is_same a b ≡ false
same_false (pos m) (pos n) d = ne_eqb m n (λ e. d (ap pos e))
same_false (pos m) (negsuc n) d = refl
same_false (negsuc m) (pos n) d = refl
same_false (negsuc m) (negsuc n) d = ne_eqb m n (λ e. d (ap negsuc e))

pub same_is : (a b : ℤ) → is_same a b ≡ true ↔ a ≡ b
same_is a b = (to a b, same_true a b)
  where
    to : (a b : ℤ) → is_same a b ≡ true → a ≡ b
    to (pos m) (pos n) e = ap pos (eqb-true m n e)
    to (pos m) (negsuc n) e = cc
    to (negsuc m) (pos n) e = cc
    to (negsuc m) (negsuc n) e = ap negsuc (eqb-true m n e)

-- an integer and its opposite have the same size
pub negated_size : (a : ℤ) → nat_abs (neg_ℤ a) ≡ nat_abs a
negated_size (pos zero) = refl
negated_size (pos (suc n)) = refl
negated_size (negsuc n) = refl
