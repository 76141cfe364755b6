-- Sizes: the top word decides whether one is below the bound. Assumes nothing.
use mathlib.Core.Path.{◌≡◌, refl, sym}
use mathlib.Core.Bool.{Bool, true, false}
use mathlib.Core.List.{List}
use Prim.Native.Nat.{ℕ, suc, ◌+◌, ◌*◌, ◌^◌, ◌<◌, ◌≤◌}
use borrow.Author.Tests.{lt-ltb, le-ltb, ltb-true, ltb-false}
use native.Mathlib.Nat.{mul_comm, mul-le-mul_left}
use native.Mathlib.Omega.{arith}
use lib.Arith.{digits_lt}
use lib.Dec.{ltb}
use lib.ListN.{length, get_or, take, length-take}
use lib.Seq.{take_all}
use Rattle.integers.specs.Positional.{words_value}
use Rattle.integers.proofs.Positional.{Below, below_take, positional_take, positional_lt}

below_bound : (P v t : ℕ) → v < P → ltb t 256 ≡ ltb (v + P * t) (256 * P)
below_bound P v t h = go (ltb t 256) refl
  where
    go : (b : Bool) → ltb t 256 ≡ b → b ≡ ltb (v + P * t) (256 * P)
    go true l = let d : t * P + v < 256 * P = digits_lt (ltb-true t 256 l) h in sym (lt-ltb (v + P * t) (256 * P) (omega (arith, mul_comm P t)))
    go false l = let d : P * 256 ≤ P * t = mul-le-mul_left P (ltb-false t 256 l) in sym (le-ltb (v + P * t) (256 * P) (omega arith))

pub top_small : (words : List ℕ) (n : ℕ) → length words ≡ n + 1 → Below (2 ^ 64) words → ltb (get_or words n 0) 256 ≡ ltb (words_value words) (256 * (2 ^ 64) ^ n)
top_small words n long b =
    let low : words_value (take n words) < (2 ^ 64) ^ n = positional_lt (2 ^ 64) n (take n words) (omega (arith, length-take n words)) (below_take (2 ^ 64) n words (omega arith) b) in
    let e : words_value words ≡ words_value (take n words) + (2 ^ 64) ^ n * get_or words n 0 = rw (take_all (suc n) words (omega arith)) at (positional_take (2 ^ 64) n words) in
    rw e (below_bound ((2 ^ 64) ^ n) (words_value (take n words)) (get_or words n 0) low)
