-- The non-adjacent form of width w, and the canonical string (docs/RULES.md, 2.3), which is the case w = 2.
use Rattle.std.specs.Prelude.{◌≡◌, ◌⊎◌, ◌≢◌, List, ℕ, ◌+◌, ◌-◌, ◌<◌, ◌≤◌, ◌^◌, ◌%◌, ℤ, pos, nat_abs}
use Rattle.lists.specs.Top.{TopOtherThan}
use Rattle.signed_digits.specs.Strings.{digit_at}

-- a nonzero digit of width w: odd, of size below 2 ^ (w - 1)
pub record OddDigit (w : ℕ) (d : ℤ) : Type 0 where
  pub odd : nat_abs d % 2 ≡ 1
  pub small : nat_abs d < 2 ^ (w - 1)

-- the most significant digit is not 0; the empty string has none
abbrev pub TopNonzero : List ℤ → Type 0
TopNonzero ds = TopOtherThan (pos 0) ds

-- each nonzero digit is odd and small, any two stand at least w places apart, and the top digit is not 0
pub record NonAdjacent (w : ℕ) (ds : List ℤ) : Type 0 where
  pub digit : (i : ℕ) → digit_at ds i ≢ pos 0 → OddDigit w (digit_at ds i)
  pub apart : (i j : ℕ) → i < j → digit_at ds i ≢ pos 0 → digit_at ds j ≢ pos 0 → i + w ≤ j
  pub top : TopNonzero ds

-- a string of the digits 0, 1 and -1, of any length
abbrev pub SignedBits : List ℤ → Type 0
SignedBits ds = (i : ℕ) → nat_abs (digit_at ds i) ≤ 1

-- the canonical string: of any two neighbouring digits at least one is 0, and the most significant digit is not 0
pub record Canonical (ds : List ℤ) : Type 0 where
  pub digits : SignedBits ds
  pub neighbours : (i : ℕ) → (digit_at ds i ≡ pos 0) ⊎ (digit_at ds (i + 1) ≡ pos 0)
  pub top : TopNonzero ds
