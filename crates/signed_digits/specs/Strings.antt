-- Signed digit strings and their value (docs/RULES.md, 2.2), of every length.
use Rattle.std.specs.Prelude.{List, [], ◌∷◌, ℕ, suc, ◌^◌, get_or, ℤ, pos, ◌+ℤ◌, ◌*ℤ◌}

-- A string is a list of integers, least significant first, of any length. Its value is the sum of digit times 2 ^ place; it may be below zero.
-- The law `value_by_places` of proofs/Places.antt says that this is `sum_from 0`.
unfoldable pub value : List ℤ → ℤ
value [] = pos 0
value (d ∷ ds) = d +ℤ pos 2 *ℤ value ds

-- the sum itself: the digits ds stand at the places k, k + 1, ..
unfoldable pub sum_from : ℕ → List ℤ → ℤ
sum_from k [] = pos 0
sum_from k (d ∷ ds) = d *ℤ pos (2 ^ k) +ℤ sum_from (suc k) ds

-- the digit at a place: 0 above the string
abbrev pub digit_at : List ℤ → ℕ → ℤ
digit_at ds i = get_or ds i (pos 0)
