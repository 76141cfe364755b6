-- The table of odd multiples: what each position holds, and which odd numbers the table for d bits has. Assumes nothing.
use mathlib.Core.Path.{◌≡◌, refl, sym, ap, ◌∙◌}
use mathlib.Core.Logic.{◌≢◌}
use Prim.Native.Nat.{ℕ, zero, suc, ◌+◌, ◌*◌, ◌-◌, ◌/◌, ◌%◌, ◌^◌, ◌<◌, ◌≤◌}
use borrow.Author.Tests.{eqb-true, eqb-false, lt-ltb, le-ltb}
use native.Mathlib.Decide.{dec_lt}
use native.Mathlib.Nat.{pow-succ'}
use native.Mathlib.Omega.{arith}
use lib.Dec.{eqb}
use lib.ListN.{length}
use lib.Pow.{pow_pos, pow_mono}
use Rattle.signed_digits.proofs.Parts.{cond_cases}
use Rattle.chains.proofs.Counts.{position_counts}
use Rattle.methods.specs.Tables.{table_counts}
use Rattle.methods.specs.OddMultiples.{odd_second, odd_table, odd_position, table_length}
use Rattle.methods.proofs.Laws.{Holds}
use Rattle.methods.proofs.Tables.{tabled, length_table, table_holds, table_counts_lem}

pub odd_length : (n : ℕ) → length (odd_table n) ≡ n
odd_length n = length_table odd_second n

-- what position p holds: 1, 2, then the odd numbers from 3 on
unfoldable pub table_value : ℕ → ℕ
table_value zero = 1
table_value (suc zero) = 2
table_value (suc (suc p)) = 2 * p + 3

odd_value : (p : ℕ) → 2 ≤ p → table_value p + 1 ≡ 2 * p
unfolding table_value
odd_value zero h = absurd (omega arith)
odd_value (suc zero) h = absurd (omega arith)
odd_value (suc (suc p)) h = omega arith

pub position_less : (p : ℕ) → p < table_value p
unfolding table_value
position_less zero = omega arith
position_less (suc zero) = omega arith
position_less (suc (suc p)) = omega arith

pub position_value : (v : ℕ) → v % 2 ≡ 1 → table_value (odd_position v) ≡ v
unfolding table_value
position_value v o =
    cond_cases (eqb v 1) 0 ((v + 1) / 2) (λ p. table_value p ≡ v) (λ t. sym (eqb-true v 1 t))
    (λ t. let n : v ≢ 1 = eqb-false v 1 t in omega (arith, odd_value ((v + 1) / 2) (omega arith)))

value_next : (n : ℕ) → table_value (suc n) ≡ table_value n + table_value (odd_second n)
unfolding table_value
value_next zero = refl
value_next (suc zero) = refl
value_next (suc (suc n)) = omega arith

second_before : (n : ℕ) → odd_second n ≤ n - 1
second_before zero = omega arith
second_before (suc zero) = omega arith
second_before (suc (suc n)) = omega arith

odd_holds : {limit : ℕ} (n : ℕ) → table_value n < limit → (p : ℕ) → p ≤ n → Holds limit (tabled odd_second n p) (table_value p)
unfolding table_value
odd_holds = table_holds odd_second table_value refl value_next (λ n. omega (arith, second_before n))

pub odd_counts : (n : ℕ) → position_counts (odd_table n) ≡ table_counts n
odd_counts = table_counts_lem odd_second refl (λ n. omega (arith, second_before (suc n)))

-- the first n steps give v a position
pub record InTable (n v : ℕ) : Type 0 where
  pub odd : v % 2 ≡ 1
  pub within : odd_position v ≤ n

pub entry_holds : {limit : ℕ} (n v : ℕ) → table_value n < limit → InTable n v → Holds limit (tabled odd_second n (odd_position v)) v
entry_holds n v small t = rw (position_value v t.odd) at (odd_holds n small (odd_position v) t.within)

-- ---- the whole table for d bits

-- it holds each odd number below 2 ^ d
pub record Entry (d v : ℕ) : Type 0 where
  pub odd : v % 2 ≡ 1
  pub narrow : v < 2 ^ d

module _ (d : ℕ) (wide : 1 ≤ d) where
  pub halved : 2 ^ d ≡ 2 * 2 ^ (d - 1)
  halved = let s : d ≡ suc (d - 1) = omega arith in ap (λ (n : ℕ). 2 ^ n) s ∙ pow-succ' 2 (d - 1)

  -- no step for d = 1, and otherwise half of 2 ^ d
  size_cases : (P : ℕ → Type 0) → (d ≡ 1 → P 0) → ((h : ℕ) → 2 ≤ h → 2 ^ d ≡ 2 * h → P h) → P (table_length d)
  size_cases P one more =
      elim (dec_lt d 2) [
        | yes l ↦ rw (lt-ltb d 2 l) (one (omega arith))
        | no l ↦ rw (le-ltb d 2 (omega arith)) (more (2 ^ (d - 1)) (pow_mono {i = 1} (omega arith)) halved)
      ]

  -- it ends at d ones
  pub table_last : table_value (table_length d) ≡ 2 ^ d - 1
  unfolding table_value
  table_last = size_cases (λ s. table_value s ≡ 2 ^ d - 1) (λ one. rw one) (λ h two twice. omega (arith, odd_value h two))

  pub table_narrow : table_value (table_length d) ≤ 2 ^ d
  table_narrow = omega (arith, table_last)

  pub last_entry : Entry d (2 ^ d - 1)
  last_entry = record { odd = omega (arith, halved, pow_pos (d - 1)); narrow = omega (arith, pow_pos d) }

  pub entry_in_table : (v : ℕ) → Entry d v → InTable (table_length d) v
  entry_in_table v t = record { odd = t.odd; within = within }
    where
      within : odd_position v ≤ table_length d
      within =
          size_cases (λ s. odd_position v ≤ s) (λ one. let z : v ≡ 1 = omega (arith, rw one at t.narrow) in rw z (omega arith))
          (λ h two twice. cond_cases (eqb v 1) 0 ((v + 1) / 2) (λ p. p ≤ h) (λ u. omega arith) (λ u. omega (arith, t.narrow)))
