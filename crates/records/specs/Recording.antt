-- A work space in use (docs/RULES.md, "Memory").
use Rattle.std.specs.Prelude.{◌≡◌, List, ◌++◌, ℕ, ◌+◌, ◌*◌, ◌-◌, ◌<◌, ℤ, length, take, drop}
use Rattle.rules.specs.Limits.{value_bytes, record_bytes}
use Rattle.chains.specs.Values.{at}
use Rattle.chains.specs.Sound.{Representable}
use Rattle.chains.specs.Records.{record_of, records_of}

-- the records of these values from the start of a work space; bytes past these records stay
abbrev pub recorded : List ℤ → List ℕ → List ℕ
recorded values space = records_of values ++ drop (record_bytes * length values) space

-- the bytes of a size that stand at `at`
abbrev pub size_bytes : List ℕ → ℕ → List ℕ
size_bytes space at = take value_bytes (drop at space)

-- how far apart two sizes are
abbrev pub distance_of : ℕ → ℕ → ℕ
distance_of m n = m - n + (n - m)

-- the record of z, which is representable, stands at `at`
abbrev pub HasRecord : List ℕ → ℕ → ℤ → Type 0
HasRecord space at z = (take record_bytes (drop at space) ≡ record_of z) × Representable z

-- what was lent holds the records of these values, each representable
pub record Recording (lent here : List ℕ) (values : List ℤ) : Type 0 where
  pub representable : (j : ℕ) → j < length values → Representable (at values j)
  pub bytes : here ≡ recorded values lent
