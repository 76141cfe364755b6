-- A number with zeros above it, and an array of zeros. Assumes nothing.
use mathlib.Core.Path.{◌≡◌, refl}
use mathlib.Core.List.{List, ◌++◌}
use Prim.Native.Nat.{ℕ, zero, suc, ◌*◌, ◌-◌, ◌≤◌, ◌^◌}
use native.Mathlib.Nat.{sub-zero, zero-sub, suc-sub-suc, le_of_lt}
use lib.ListN.{length, drop, replicate}
use Rattle.rules.specs.Memory.{fitted, leaves}
use Rattle.rules.proofs.Fitted.{fits}
use Rattle.integers.specs.Positional.{bytes_value}
use Rattle.integers.proofs.Bits.{power_of_bytes}
use Rattle.integers.proofs.Positional.{Below, positional_lt, positional_zeros}
use Rattle.wide_digits.specs.Form.{Blank}
use native.Mathlib.Omega.{arith}

zeros_drop : (k n : ℕ) → drop {A = ℕ} k (replicate n 0) ≡ replicate (n - k) 0
zeros_drop zero n = rw sub-zero
zeros_drop (suc k) zero = rw zero-sub
zeros_drop (suc k) (suc n) = rw suc-sub-suc (zeros_drop k n)

-- at the start of an array of zeros, a number has its value
pub zeros_above : (number : List ℕ) (room : ℕ) → bytes_value (number ++ drop (length number) (replicate room 0)) ≡ bytes_value number
zeros_above number room = rw (zeros_drop (length number) room) (positional_zeros 256 (room - length number) number)

-- the same put there by `output::put`
pub padded_value : (number : List ℕ) (room : ℕ) → length number ≤ room → bytes_value (leaves (fitted number room) number (replicate room 0)) ≡ bytes_value number
padded_value number room h = rw (fits number room h) (zeros_above number room)

-- a number of n bytes has at most 8 n bits
pub bytes_bits : (number : List ℕ) → Below 256 number → bytes_value number ≤ 2 ^ (8 * length number)
bytes_bits number b = rw (← power_of_bytes) (le_of_lt (positional_lt 256 (length number) number (omega arith) b))

pub zeros_blank : (n : ℕ) → Blank (replicate n 0)
zeros_blank zero i = refl
zeros_blank (suc n) zero = refl
zeros_blank (suc n) (suc i) = zeros_blank n i
