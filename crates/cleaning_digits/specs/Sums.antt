-- What the functions of the carry compute. No promise speaks of these.
use Rattle.std.specs.Prelude.{ℕ, zero, suc, ◌+◌, ◌*◌, ◌-◌, ◌%◌, ◌<◌, ◌≤◌, ◌≡◌, ◌≢◌, List, get_or}
use Rattle.signed_digits.specs.Naf.{rest, canonical_width}
use Rattle.digit_strings.specs.Raised.{raised}

-- the digit at a place plus 1: 0, 1 or 2; above the string the digit is 0
unfoldable pub raised_at : List ℕ → ℕ → ℕ
raised_at digits i = raised canonical_width (get_or digits i 0)

-- the digit at a place and the carry into it, plus 2: from 0 to 4; the carry is what the canonical digits below leave
unfoldable pub sum_at : List ℕ → ℕ → ℕ
sum_at digits zero = raised_at digits 0 + 1
sum_at digits (suc i) = rest canonical_width (sum_at digits i + 2 * raised_at digits (suc i))

-- that and the digit above: enough to tell the canonical digit and the next carry
abbrev pub pair_at : List ℕ → ℕ → ℕ
pair_at digits i = sum_at digits i + 2 * raised_at digits (suc i)

-- the highest odd sum from place r on and below i, by the place above it; 0 where all are even
pub record Highest (digits : List ℕ) (r i top : ℕ) : Type 0 where
  pub above : (j : ℕ) → r ≤ j → top ≤ j → j < i → sum_at digits j % 2 ≡ 0
  pub last : 0 < top → (r < top) × (sum_at digits (top - 1) % 2 ≢ 0)
