-- The value is the sum of each digit times the power of two of its place.
use mathlib.Core.Path.{◌≡◌}
use mathlib.Core.List.{List, [], ◌∷◌}
use Prim.Native.Nat.{ℕ, suc, ◌+◌, ◌*◌, ◌^◌}
use native.Mathlib.Omega.{arith}
use native.Mathlib.Nat.{pow-suc}
use lib.IntN.{ℤ, pos, ◌*ℤ◌}
use Rattle.signed_digits.specs.Strings.{value, sum_from}
use Rattle.signed_digits.proofs.Parts.{positive_part, negative_part, from_parts, sum_parts, product_parts, positive_sum, negative_sum, value_parts}

-- the sum from place k on is 2 ^ k times the value
sum_from_lem : (k : ℕ) (ds : List ℤ) → positive_part (sum_from k ds) + 2 ^ k * negative_sum ds ≡ 2 ^ k * positive_sum ds + negative_part (sum_from k ds)
unfolding sum_from positive_sum negative_sum
sum_from_lem k [] = omega arith
sum_from_lem k (d ∷ ds) =
    omega (arith, rw pow-suc at (sum_from_lem (suc k) ds), sum_parts (d *ℤ pos (2 ^ k)) (sum_from (suc k) ds), product_parts d (pos (2 ^ k)))

pub value_by_places : (ds : List ℤ) → value ds ≡ sum_from 0 ds
value_by_places ds = omega (arith, from_parts, value_parts ds, sum_from_lem 0 ds)
