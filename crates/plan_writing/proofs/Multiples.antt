-- The table that adds 1 at each step holds all multiples. Assumes nothing.
use mathlib.Core.Path.{◌≡◌, refl}
use Prim.Native.Nat.{ℕ, zero, suc}
use Rattle.methods.specs.Tables.{table_by, second_of}
use Rattle.methods.specs.FixedWindows.{multiples}

pub all_multiples : (n : ℕ) → table_by (second_of 0) n ≡ multiples n
all_multiples n = λ j. table_by (λ i. same i j) n
  where
    same : (i : ℕ) → second_of 0 i ≡ 0
    same zero = refl
    same (suc zero) = refl
    same (suc (suc i)) = refl
