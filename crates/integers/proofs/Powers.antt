-- A power of a power, at any base. Assumes nothing.
use mathlib.Core.Path.{◌≡◌}
use Prim.Native.Nat.{ℕ, zero, suc, ◌*◌, ◌^◌}
use native.Mathlib.Nat.{pow-suc, pow-zero, mul-zero, mul-suc}
use lib.Pow.{pow-add}

pub power_of_power : (a b q : ℕ) → (a ^ b) ^ q ≡ a ^ (b * q)
power_of_power a b zero = rw (pow-zero, mul-zero, pow-zero)
power_of_power a b (suc q) = rw (pow-suc (a ^ b) q, power_of_power a b q, mul-suc, pow-add)
