-- What the laws need of the limits: facts of the names that compute. Assumes nothing.
use mathlib.Core.Path.{◌≡◌, refl}
use Prim.Native.Nat.{◌*◌, ◌-◌, ◌^◌}
use Rattle.rules.specs.Limits.{value_words, value_bound}

-- the top word of a size below the bound holds a single byte
pub bound_top : value_bound ≡ 256 * (2 ^ 64) ^ (value_words - 1)
bound_top = refl
