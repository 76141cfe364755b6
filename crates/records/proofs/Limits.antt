-- What the laws need of the limits: facts of the names that compute. Assumes nothing.
use mathlib.Core.Path.{◌≡◌, refl}
use Prim.Native.Nat.{◌+◌, ◌*◌, ◌-◌, ◌^◌, ◌≤◌}
use lib.Dec.{lit≤}
use Rattle.rules.specs.Limits.{value_bytes, value_words, value_bound}

-- the top word holds a single byte
pub top_byte : value_bytes ≡ 8 * (value_words - 1) + 1
top_byte = refl

-- the words hold a size below the bound, and the sum of two
pub bound_once : value_bound ≤ (2 ^ 64) ^ value_words
bound_once = lit≤ tt

pub bound_twice : value_bound + value_bound ≤ (2 ^ 64) ^ value_words
bound_twice = lit≤ tt

pub bound_bytes : value_bound ≡ 256 ^ value_bytes
bound_bytes = refl
