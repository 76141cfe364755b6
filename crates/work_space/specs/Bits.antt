-- The bits of a size that is recorded.
use Rattle.std.specs.Prelude.{ℕ, ◌+◌, ◌<◌, List, ◌≡◌, ℤ, nat_abs, length}
use Rattle.integers.specs.Bits.{bit}
use Rattle.chains.specs.Values.{at}
use Rattle.records.specs.Recording.{Recording}

-- a number of bits, plus the bit just above them of the size at position i, whatever values are recorded by then
abbrev pub IsGrown : ℕ → ℕ → List ℕ → ℕ → Type 0
IsGrown i bits here r = (lent : List ℕ) (values : List ℤ) → i < length values → Recording lent here values → r ≡ bits + bit (nat_abs (at values i)) bits
