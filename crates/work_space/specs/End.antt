-- The end of a plan: the last value beside the number.
use Rattle.std.specs.Prelude.{ℕ, ◌+◌, ℤ, pos, length, Bool, List, ◌≡◌}
use Rattle.chains.specs.Values.{at}
use Rattle.integers.specs.Positional.{bytes_value}
use Rattle.integers.specs.Signed.{is_same}
use Rattle.records.specs.Recording.{Recording}

-- whether the value after r steps is the number, whatever values are recorded by then
abbrev pub EndsAt : List ℕ → ℕ → List ℕ → Bool → Type 0
EndsAt number r here t = (lent : List ℕ) (values : List ℤ) → length values ≡ r + 1 → Recording lent here values → t ≡ is_same (at values r) (pos (bytes_value number))
