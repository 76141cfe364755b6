-- Records of a work space (docs/RULES.md, 7.4): a sign byte (0, or 1 below zero), then the bytes of the size.
use Rattle.std.specs.Prelude.{ℕ, List, [], ◌∷◌, ◌++◌, ℤ, nat_abs}
use Rattle.rules.specs.Limits.{value_bytes}
use Rattle.integers.specs.Positional.{low_bytes}
use Rattle.integers.specs.Signed.{sign_of}

unfoldable pub record_of : ℤ → List ℕ
record_of z = sign_of z ∷ low_bytes value_bytes (nat_abs z)

-- the records of the values from position 0 on
unfoldable pub records_of : List ℤ → List ℕ
records_of [] = []
records_of (z ∷ values) = record_of z ++ records_of values
