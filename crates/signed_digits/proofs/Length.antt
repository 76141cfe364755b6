-- How long the form is. The canonical string of e has at most n places just where 3 e < 2 ^ (n + 1): n places reach 1 0 1 0 .. , which is a third of 2 ^ (n + 1), rounded down.
use mathlib.Core.Path.{◌≡◌}
use mathlib.Core.Logic.Iff
use mathlib.Core.Logic.{◌↔◌, ◌≢◌}
use Prim.Native.Nat.{ℕ, zero, suc, ◌+◌, ◌*◌, ◌-◌, ◌<◌, ◌≤◌, ◌^◌, ◌%◌, ◌/◌}
use native.Mathlib.Omega.{arith}
use native.Mathlib.Numerals.{add-one}
use native.Mathlib.Nat.{suc-le-suc_iff, pow-succ'}
use lib.ListN.{length}
use lib.Pow.{pow_pos}
use lib.IntN.{pos}
use Rattle.signed_digits.specs.Naf.{rest, canonical}
use Rattle.signed_digits.proofs.Steps.{naf_zero, naf_step, rest_2, by_four}

-- a power of two is no multiple of 3: where 2 p is 3 k, p is 3 (p - k)
no_multiple_of_3 : (n : ℕ) → 2 ^ n % 3 ≢ 0
no_multiple_of_3 zero e = omega arith
no_multiple_of_3 (suc n) e =
    let third : 2 ^ n ≡ 3 * (2 ^ n - 2 ^ suc n / 3) = omega arith in
    no_multiple_of_3 n (omega arith)

-- the bound on e and the bound on what is left of it, where p is a power of two
rest_bound : (p : ℕ) → p % 3 ≢ 0 → (e : ℕ) → 3 * rest 2 e < 2 * p ↔ 3 * e < 2 * (2 * p)
rest_bound p h = by_four _ (λ q. omega (arith, rest_2 q))

pub length_at_most : (e n : ℕ) → length (canonical (pos e)) ≤ n ↔ 3 * e < 2 ^ (n + 1)
length_at_most e n = go n e
  where
    go : (n e : ℕ) → length (canonical (pos e)) ≤ n ↔ 3 * e < 2 ^ (n + 1)
    go zero zero = rw (naf_zero 2) (omega arith)
    go zero (suc e) = rw (naf_step 2 (suc e) (omega arith) (omega arith)) (omega arith)
    go (suc n) zero = rw (naf_zero 2) (omega (arith, pow_pos (suc n + 1)))
    go (suc n) (suc e) =
        let bound : 3 * rest 2 (suc e) < 2 ^ (n + 1) ↔ 3 * suc e < 2 ^ (suc n + 1) = simp (add-one, pow-succ') (rest_bound (2 ^ n) (no_multiple_of_3 n) (suc e)) in
        rw (naf_step 2 (suc e) (omega arith) (omega arith)) (Iff.trans suc-le-suc_iff (Iff.trans (go n (rest 2 (suc e))) bound))
