-- A table, whatever it adds: its values, that it is sound and hides no doubling, and its counts. Assumes nothing.
use mathlib.Core.Path.{◌≡◌, refl, ◌∙◌}
use Prim.Native.Nat.{ℕ, zero, suc, ◌+◌, ◌<◌, ◌≤◌}
use native.Mathlib.Decide.{dec_lt}
use native.Mathlib.Numerals.{add-one}
use native.Mathlib.Omega.{arith}
use lib.ListN.{length, length-append}
use Rattle.chains.specs.Steps.{add}
use Rattle.chains.specs.Counts.{counts, total, sum_counts}
use Rattle.chains.proofs.Counts.{position_counts}
use Rattle.methods.specs.PartialPlan.{PartialPlan, none, followed, add_at}
use Rattle.methods.specs.Tables.{table_by, table_counts}
use Rattle.methods.proofs.Counted.{counts_double, counts_add}
use Rattle.methods.proofs.Laws.{value_kept, Holds, none_holds, add_holds}

-- n steps of a table, and the latest at position p
abbrev pub tabled : (ℕ → ℕ) → ℕ → ℕ → PartialPlan
tabled second n p = record { steps = table_by second n; latest = p }

module _ (second : ℕ → ℕ) where
  pub length_table : (n : ℕ) → length (table_by second n) ≡ n
  unfolding table_by
  length_table zero = refl
  length_table (suc n) = rw length-append (omega (arith, length_table n))

  pub table_next : (n : ℕ) → tabled second (suc n) (suc n) ≡ add_at (second n) (tabled second n n)
  unfolding table_by followed
  table_next n = rw (length_table n, add-one)

  -- position p holds `value p`
  module _ (value : ℕ → ℕ) (first : value 0 ≡ 1) (next : (n : ℕ) → value (suc n) ≡ value n + value (second n)) (before : (n : ℕ) → second n ≤ n) where
    value_some : (n : ℕ) → 0 < value n
    value_some zero = omega (arith, first)
    value_some (suc n) = omega (arith, next n, value_some n)

    -- each value is above those before it
    value_grows : (n p : ℕ) → p < n → value p < value n
    value_grows zero p h = absurd (omega arith)
    value_grows (suc n) p h =
        elim (dec_lt p n) [
          | yes l ↦ omega (arith, value_grows n p l, next n)
          | no l ↦ let q : p ≡ n = omega arith in rw q (omega (arith, next n, value_some (second n)))
        ]

    pub table_holds : {limit : ℕ} (n : ℕ) → value n < limit → (p : ℕ) → p ≤ n → Holds limit (tabled second n p) (value p)
    unfolding table_by followed
    table_holds zero small p h = let z : p ≡ 0 = omega arith in rw (z, first) none_holds
    table_holds {limit} (suc n) small p h =
        let below = table_holds {limit = limit} n (omega (arith, next n)) in
        let s = below (second n) (before n) in
        let more = rw (← table_next n, ← next n) at (add_holds (tabled second n n) (second n) (value n) (value (second n)) (below n (omega arith)) (record { filled = s.within; value = s.value }) (λ o. omega (arith, value_grows n (second n) (omega (arith, before n)))) (omega (arith, value_some n)) (rw (next n) at small)) in
        elim (dec_lt n p) [
          | yes l ↦ let q : p ≡ suc n = omega arith in rw q more
          | no l ↦
              record {
                sound = more.sound;
                unhidden = more.unhidden;
                within = omega (arith, length_table (suc n));
                value = value_kept (table_by second n) (add n (second n)) p (omega (arith, length_table n)) ∙ (below p (omega arith)).value;
              }
        ]

  -- after the first step no two positions of a step are the same
  pub table_counts_lem : second 0 ≡ 0 → ((n : ℕ) → second (suc n) ≤ n) → (n : ℕ) → position_counts (table_by second n) ≡ table_counts n
  unfolding table_by table_counts position_counts sum_counts followed
  table_counts_lem first before zero = refl
  table_counts_lem first before (suc zero) = rw first (counts_double none 0 0 0 refl)
  table_counts_lem first before (suc (suc n)) =
      counts_add (tabled second (suc n) (suc n)) 1 n 0 (table_counts_lem first before (suc n)) (second (suc n)) (λ e. omega (arith, before n)) ∙ rw add-one

pub table_total : (n : ℕ) → total (table_counts n) ≡ n
unfolding table_counts
table_total zero = refl
table_total (suc n) = omega arith

pub no_subtractions : (n : ℕ) → table_counts n ≡ counts (table_counts n).doublings (table_counts n).additions 0
unfolding table_counts
no_subtractions zero = refl
no_subtractions (suc n) = refl
