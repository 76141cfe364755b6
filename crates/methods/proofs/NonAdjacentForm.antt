-- Method 4: its steps are sound and end at the number, how many there are, their counts, and the bits of the largest size. Assumes nothing.
use mathlib.Core.Path.{◌≡◌, sym, ap, ◌∙◌}
use mathlib.Core.Bool.{and-false}
use mathlib.Core.List.{List}
use Prim.Native.Nat.{ℕ, suc, ◌+◌, ◌*◌, ◌-◌, ◌%◌, ◌^◌, ◌<◌, ◌≤◌}
use borrow.Author.Tests.{lt-ltb, le-ltb, le-leb, lt-leb, eq-eqb, ne_eqb}
use native.Mathlib.Decide.{dec_lt, ℕ_discrete}
use native.Mathlib.Nat.{zero-add, lt-suc_self, lt_of_not-le}
use native.Mathlib.Omega.{arith}
use lib.IntN.{ℤ, pos}
use lib.ListN.{length}
use Rattle.signed_digits.specs.Strings.{digit_at}
use Rattle.signed_digits.specs.Naf.{low_digit, canonical}
use Rattle.signed_digits.proofs.Parts.{size_parts}
use Rattle.signed_digits.proofs.Leading.{canonical_top}
use Rattle.signed_digits.proofs.Width.{low_small}
use Rattle.signed_digits.proofs.Exists.{naf_value}
use Rattle.rules.specs.Limits.{plan_steps}
use Rattle.chains.specs.Counts.{counts, counts_of, NoHiddenDoubling}
use Rattle.chains.specs.Largest.{largest_bits}
use Rattle.integers.specs.Bits.{bit_length}
use Rattle.integers.proofs.Bits.{bit_length_iff, some_bits}
use Rattle.methods.specs.PartialPlan.{none, down_from}
use Rattle.methods.specs.Tables.{table_counts}
use Rattle.methods.specs.DigitSteps.{at_digit}
use Rattle.methods.specs.NonAdjacentForm.{naf_steps}
use Rattle.methods.specs.Forecast.{plus_digits, minus_digits}
use Rattle.methods.specs.Largest.{sliding_largest_bits, naf_largest_bits, wide_largest_bits}
use Rattle.methods.proofs.Laws.{Made, Fit, Plannable, plannable_small}
use Rattle.methods.proofs.OddMultiples.{table_value, halved}
use Rattle.methods.proofs.DigitSteps.{Suited, digits_made, digits_counts, digits_short}
use Rattle.methods.proofs.SignedBits.{digits_down}
use Rattle.methods.proofs.WideNaf.{wide_bits, wide_suited, wide_largest, wide_table_at_2, wide_at_2}

-- ---- the canonical digits: method 5 at width 2

module _ (e : ℕ) (some : 0 < e) where
  abbrev ds : List ℤ
  ds = canonical (pos e)

  suited : {limit : ℕ} → e + 1 < limit → Suited limit 0 ds
  unfolding table_value
  suited {limit} small =
      rw (wide_table_at_2 e) at
      (wide_suited e 2 some (omega arith) {limit = limit} (omega (arith, low_small 2 (omega arith) e, size_parts (low_digit 2 e))) (rw (wide_table_at_2 e) (omega arith)))

  -- where the limit does not matter, the least one
  suited_alone : Suited (suc (e + 1)) 0 ds
  suited_alone = suited (lt-suc_self (e + 1))

  pub top_digit : digit_at (canonical (pos e)) (length (canonical (pos e)) - 1) ≡ pos 1
  top_digit = canonical_top e some

  -- with no table, the steps begin at position 0
  pub naf_down : naf_steps e ≡ (down_from (λ i b. at_digit (digit_at (canonical (pos e)) i) b) (length (canonical (pos e)) - 1) none).steps
  unfolding naf_steps
  naf_down = digits_down ds top_digit

  pub naf_made : {limit : ℕ} → e + 1 < limit → Made limit (naf_steps e) e
  unfolding naf_steps
  naf_made small = rw (naf_value 2 (pos e) (omega arith)) at (digits_made 0 ds (suited small))

  pub naf_unhidden : NoHiddenDoubling (naf_steps e)
  naf_unhidden = (naf_made (lt-suc_self (e + 1))).unhidden

  -- at most two steps for each digit below the top
  pub naf_short : length (naf_steps e) ≤ 2 * (length (canonical (pos e)) - 1)
  unfolding naf_steps
  naf_short = omega (arith, digits_short 0 ds suited_alone)

  -- a doubling for each digit below the top; the digits 1 below it, and the digits -1
  pub naf_counts : counts_of (naf_steps e) ≡ counts (length (canonical (pos e)) - 1) (plus_digits (canonical (pos e)) - 1) (minus_digits (canonical (pos e)))
  unfolding naf_steps table_counts
  naf_counts = simp zero-add at (digits_counts 0 ds suited_alone)

-- ---- the bits of the largest size

module _ (e : ℕ) (some : 0 < e) where
  -- less than 2 below 2 ^ L stands only 2 ^ L - 1, which is odd
  same_largest : wide_largest_bits e 2 ≡ naf_largest_bits e
  same_largest =
      elim (ℕ_discrete (e + 1) (2 ^ bit_length e)) [
        | yes ones ↦
            let odd : e % 2 ≡ 1 = omega (arith, halved (bit_length e) (some_bits e some)) in
            rw (eq-eqb (e + 1) (2 ^ bit_length e) ones, eq-eqb (e % 2) 1 odd, lt-ltb (2 ^ bit_length e) (e + 2) (omega arith)) (elim (dec_lt 1 e) [
              | yes more ↦ rw (lt-ltb 1 e more, le-leb 2 (bit_length e) (lt_of_not-le (λ l. omega (arith, (bit_length_iff e 1).0 l))))
              | no n ↦ rw (le-ltb 1 e (omega arith), lt-leb 2 (bit_length e) (omega (arith, (bit_length_iff e 1).1 (omega arith)))) own
            ])
        | no n ↦
            let small : e < 2 ^ bit_length e = (bit_length_iff e (bit_length e)).0 (omega arith) in
            rw (ne_eqb (e + 1) (2 ^ bit_length e) n, le-ltb (2 ^ bit_length e) (e + 2) (omega arith)) (simp and-false own)
      ]
    where
      own : sliding_largest_bits e 1 ≡ bit_length e
      own = rw (le-ltb (bit_length e) 1 (some_bits e some), and-false)

  pub naf_largest : largest_bits (naf_steps e) ≡ naf_largest_bits e
  naf_largest = ap largest_bits (sym (wide_at_2 e)) ∙ wide_largest e 2 some (omega arith) ∙ same_largest

-- ---- within the limits of the rules

-- a number of L bits has at most L + 1 digits
pub naf_bits : (e : ℕ) → length (canonical (pos e)) ≤ bit_length e + 1
naf_bits e = wide_bits e 2 (omega arith)

module _ (e : ℕ) (plannable : Plannable e) where
  pub naf_few : length (naf_steps e) ≤ plan_steps
  naf_few = omega (arith, naf_short e plannable.some, naf_bits e, plannable.bits)

  pub naf_fit : Fit (naf_steps e) e
  naf_fit = record { made = naf_made e plannable.some (plannable_small plannable); few = naf_few }
