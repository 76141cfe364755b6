-- The last value beside the number. Assumes nothing.
use Prim.Native.Nat.{ℕ, ◌*◌}
use Rattle.rules.specs.Limits.{record_bytes}
use Rattle.integers.specs.Positional.{bytes_value}
use Rattle.integers.specs.Signed.{is_same}
use Rattle.chains.specs.Values.{at}
use lib.IntN.{ℤ, pos}
use mathlib.Core.Bool.{Bool}
use mathlib.Core.List.{List}
use mathlib.Core.Path.{◌≡◌}
use native.Mathlib.Omega.{arith}
use Rattle.work_space.specs.End.{EndsAt}
use Rattle.records.specs.Recording.{HasRecord}
use Rattle.records.proofs.Recording.{has_record}

-- the last record says what the last value is
pub ends_at : (number here : List ℕ) (r : ℕ) (end : ℤ) → ((z : ℤ) → HasRecord here (record_bytes * r) z → end ≡ z) → (t : Bool) → t ≡ is_same end (pos (bytes_value number)) → EndsAt number r here t
ends_at number here r end l t e lent values long w = rw (e, l (at values r) (has_record lent here values w r (omega arith)))
