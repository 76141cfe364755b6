-- Method 5: its steps are sound and end at the number, how many there are, their counts, and the bits of the largest size; at width 2 it is method 4.
-- Assumes nothing.
use mathlib.Core.Path.{◌≡◌, refl, ap}
use mathlib.Core.Logic.{◌↔◌, ◌≢◌}
use mathlib.Core.Bool.{cond}
use mathlib.Core.List.{List, [], ◌∷◌}
use Prim.Native.Nat.{ℕ, suc, ◌+◌, ◌*◌, ◌-◌, ◌%◌, ◌^◌, ◌<◌, ◌≤◌}
use borrow.Author.Tests.{eq-eqb, ne_eqb, le-leb, lt-leb, lt-ltb, le-ltb}
use native.Mathlib.Decide.{dec_le, dec_lt, ℕ_discrete}
use native.Mathlib.Nat.{pow-suc, le_of_lt, lt_of_le_of_lt, lt_of_lt_of_le}
use native.Mathlib.Omega.{arith}
use lib.Dec.{eqb}
use lib.IntN.{ℤ, pos, nat_abs}
use lib.ListN.{length}
use lib.Pow.{pow_pos, pow_mono}
use Rattle.signed_digits.specs.Strings.{digit_at}
use Rattle.signed_digits.specs.Naf.{low_digit, naf}
use Rattle.signed_digits.proofs.Parts.{positive_part, negative_part, size_parts, zero_parts}
use Rattle.signed_digits.proofs.Exists.{naf_value, naf_form}
use Rattle.signed_digits.proofs.Single.{single_form, single_length}
use Rattle.signed_digits.proofs.Left.{some_digits, value_left, some_left, before_le, lowest, digit_left}
use Rattle.signed_digits.proofs.Width.{low_even, low_small, low_near, form_length}
use Rattle.rules.specs.Limits.{plan_steps, largest_width}
use Rattle.chains.specs.Counts.{counts, counts_of, NoHiddenDoubling}
use Rattle.chains.specs.Largest.{largest_bits}
use Rattle.integers.specs.Bits.{bit_length}
use Rattle.integers.proofs.Bits.{bit_length_iff}
use Rattle.methods.specs.PartialPlan.{down_from}
use Rattle.methods.specs.Tables.{table_by, table_counts}
use Rattle.methods.specs.OddMultiples.{odd_position, table_length}
use Rattle.methods.specs.DigitSteps.{digit_steps}
use Rattle.methods.specs.NonAdjacentForm.{naf_steps}
use Rattle.methods.specs.WideNaf.{wide_table, wide_naf_steps}
use Rattle.methods.specs.Forecast.{plus_digits, minus_digits}
use Rattle.methods.specs.Largest.{wide_largest_bits, sliding_largest_bits}
use Rattle.methods.proofs.Laws.{Made, Fit, Plannable, plannable_near, made_bits, own_bits}
use Rattle.methods.proofs.OddMultiples.{table_value, position_less, position_value, InTable, Entry, halved, table_last, last_entry, entry_in_table}
use Rattle.methods.proofs.DigitSteps.{Suited, digits_made, digits_plus, digits_before, digits_entry, digits_counts, digits_short}
use Rattle.methods.proofs.SlidingWindows.{largest_cases}

-- a number of L bits has at most L + 1 digits
pub wide_bits : (e w : ℕ) → 2 ≤ w → length (naf w (pos e)) ≤ bit_length e + 1
wide_bits e w wide = form_length w wide (bit_length e) (pos e) (le_of_lt ((bit_length_iff e (bit_length e)).0 (omega arith)))

-- ---- the table

module _ (e w : ℕ) where
  -- it is cut at the number where that is an entry
  table_cases : (P : ℕ → Type 0) → (Entry (w - 1) e → P (odd_position e)) → ((Entry (w - 1) e → ⊥) → P (table_length (w - 1))) → P (wide_table e w)
  unfolding wide_table
  table_cases P cut whole =
      elim (ℕ_discrete (e % 2) 1) [
        | yes o ↦ rw (eq-eqb (e % 2) 1 o) (elim (dec_lt e (2 ^ (w - 1))) [
          | yes l ↦ rw (lt-ltb e (2 ^ (w - 1)) l) (cut (record { odd = o; narrow = l }))
          | no m ↦ rw (le-ltb e (2 ^ (w - 1)) (omega arith)) (whole (λ t. m t.narrow))
        ])
        | no z ↦ rw (ne_eqb (e % 2) 1 z) (whole (λ t. z t.odd))
      ]

  pub wide_whole_table : e % 2 ≡ 0 → wide_table e w ≡ table_length (w - 1)
  wide_whole_table even = table_cases (λ n. n ≡ table_length (w - 1)) (λ t. absurd (omega (arith, t.odd))) (λ more. refl)

module _ (e w : ℕ) (wide : 2 ≤ w) where
  -- the number is then its own digit
  cut_form : Entry (w - 1) e → naf w (pos e) ≡ pos e ∷ []
  cut_form t = single_form w wide (pos e) (record { odd = t.odd; small = t.narrow })

  -- and no other number has one digit
  pub wide_cut : length (naf w (pos e)) ≡ 1 ↔ Entry (w - 1) e
  wide_cut =
      (λ h. let o = (single_length w wide (pos e)).0 h in record { odd = o.odd; narrow = o.small }, λ t. ap length (cut_form t))

  pub wide_table_by_length : wide_table e w ≡ cond (eqb (length (naf w (pos e))) 1) (odd_position (nat_abs (digit_at (naf w (pos e)) 0))) (table_length (w - 1))
  wide_table_by_length =
      table_cases e w (λ n. n ≡ cond (eqb (length (naf w (pos e))) 1) (odd_position (nat_abs (digit_at (naf w (pos e)) 0))) (table_length (w - 1)))
      (λ t. rw (cut_form t)) (λ more. rw (ne_eqb (length (naf w (pos e))) 1 (λ h. more (wide_cut.0 h))))

  -- no value of the table has w bits
  table_narrow : table_value (wide_table e w) < 2 ^ (w - 1)
  table_narrow =
      table_cases e w (λ n. table_value n < 2 ^ (w - 1)) (λ t. rw (position_value e t.odd) t.narrow)
      (λ more. omega (arith, table_last (w - 1) (omega arith), pow_pos (w - 1)))

  -- nor is so much added to the number to get what its lowest digit is subtracted from
  before_near : e + negative_part (low_digit w e) < e + 2 ^ (w - 1)
  before_near = omega (arith, low_small w wide e, size_parts (low_digit w e))

module _ (e w : ℕ) (some : 0 < e) (wide : 2 ≤ w) where
  abbrev ds : List ℤ
  ds = naf w (pos e)

  in_table : (i : ℕ) → i < length ds → digit_at ds i ≢ pos 0 → InTable (wide_table e w) (nat_abs (digit_at ds i))
  in_table i h s = table_cases e w (λ n. InTable n (nat_abs (digit_at ds i))) cut whole
    where
      cut : Entry (w - 1) e → InTable (odd_position e) (nat_abs (digit_at ds i))
      cut t =
          let f = cut_form e w wide t in
          let z : i ≡ 0 = omega (arith, ap length f) in
          rw (z, f) (record { odd = t.odd; within = omega arith })

      whole : (Entry (w - 1) e → ⊥) → InTable (table_length (w - 1)) (nat_abs (digit_at ds i))
      whole more = let o = (naf_form w (pos e) wide).digit i s in entry_in_table (w - 1) (omega arith) _ (record { odd = o.odd; narrow = o.small })

  -- with any limit that is above the table, and above what the lowest digit is subtracted from, if it is below zero
  pub wide_suited : {limit : ℕ} → e + negative_part (low_digit w e) < limit → table_value (wide_table e w) < limit → Suited limit (wide_table e w) (naf w (pos e))
  wide_suited small small-table = record {
    some = some_digits w wide e some;
    positive = λ i h. rw (value_left w wide i e) (some_left w wide i e h);
    small = λ i h. rw (value_left w wide i e, digit_left w wide i e) (omega (arith, before_le w wide i e));
    entry = in_table;
    table = small-table;
    single = λ h. rw (wide_table_by_length e w wide, eq-eqb (length ds) 1 h);
  }

  pub wide_made : {limit : ℕ} → e + negative_part (low_digit w e) < limit → table_value (wide_table e w) < limit → Made limit (wide_naf_steps e w) e
  unfolding wide_naf_steps
  wide_made small small-table = rw (naf_value w (pos e) wide) at (digits_made (wide_table e w) ds (wide_suited small small-table))

  -- where the limit does not matter
  suited_alone : Suited (suc (e + negative_part (low_digit w e) + table_value (wide_table e w))) (wide_table e w) ds
  suited_alone = wide_suited (omega arith) (omega arith)

  pub wide_unhidden : NoHiddenDoubling (wide_naf_steps e w)
  unfolding wide_naf_steps
  wide_unhidden = (digits_made (wide_table e w) ds suited_alone).unhidden

  pub wide_plus : 1 ≤ plus_digits (naf w (pos e))
  wide_plus = digits_plus (wide_table e w) ds suited_alone

  -- the table; a doubling for each digit below the top; an addition for each of them above zero, and a subtraction for each below
  pub wide_counts : counts_of (wide_naf_steps e w) ≡ counts ((table_counts (wide_table e w)).doublings + (length (naf w (pos e)) - 1)) ((table_counts (wide_table e w)).additions + (plus_digits (naf w (pos e)) - 1)) (minus_digits (naf w (pos e)))
  unfolding wide_naf_steps
  wide_counts = digits_counts (wide_table e w) ds suited_alone

  -- at most 2 ^ (w - 1) steps for the table, and two for each digit below the top, of which there are at most as many as bits
  pub wide_short : length (wide_naf_steps e w) ≤ 2 ^ (w - 1) + 2 * bit_length e
  unfolding wide_naf_steps
  wide_short = omega (arith, digits_short (wide_table e w) ds suited_alone, position_less (wide_table e w), table_narrow e w wide, wide_bits e w wide)

  -- ---- the bits of the largest size

  -- an even number shorter than the table's last value, which stands
  table_largest : e % 2 ≡ 0 → bit_length e < w - 1 → largest_bits (wide_naf_steps e w) ≡ w - 1
  unfolding wide_naf_steps
  table_largest even l =
      let narrow : 1 ≤ w - 1 = omega arith in
      let small : e < 2 ^ (w - 1) = (bit_length_iff e (w - 1)).0 (omega arith) in
      let last : InTable (wide_table e w) (2 ^ (w - 1) - 1) = rw (wide_whole_table e w even) (entry_in_table (w - 1) narrow _ (last_entry (w - 1) narrow)) in
      let high = digits_entry (wide_table e w) ds suited_alone {k = w - 1 - 1} _ last (omega (arith, halved (w - 1) narrow, pow_pos (w - 1 - 1))) in
      let zero = zero_parts (low_digit w e) (low_even w wide e even) in
      omega (arith, made_bits narrow (wide_made (omega arith) (table_narrow e w wide)))

  -- 2 ^ L stands before the last subtraction
  power_largest : e % 2 ≡ 1 → w ≤ bit_length e → 2 ^ bit_length e < e + 2 ^ (w - 1) → largest_bits (wide_naf_steps e w) ≡ bit_length e + 1
  unfolding wide_naf_steps
  power_largest odd l near =
      let small : e < 2 ^ bit_length e = (bit_length_iff e (bit_length e)).0 (omega arith) in
      let table : 2 ^ (w - 1) ≤ 2 ^ bit_length e = pow_mono (omega arith) in
      let power = low_near w wide (bit_length e) e l (omega arith) near in
      let low = ap negative_part (lowest w wide e) in
      let value = ap positive_part (naf_value w (pos e) wide) in
      let high = digits_before (wide_table e w) ds suited_alone {k = bit_length e} (omega arith) (omega arith) in
      let twice = pow-suc 2 (bit_length e) in
      omega (arith, made_bits {k = suc (bit_length e)} (omega arith) (wide_made (omega (arith, before_near e w wide)) (omega (arith, table_narrow e w wide))))

  -- no other value has more bits than the number
  own_largest : (e % 2 ≡ 1 → w ≤ bit_length e → e + 2 ^ (w - 1) ≤ 2 ^ bit_length e) → (bit_length e < w - 1 → e % 2 ≡ 1) → largest_bits (wide_naf_steps e w) ≡ bit_length e
  own_largest far odd = own_bits some (λ small. wide_made (before small (ℕ_discrete (e % 2) 0) (dec_le w (bit_length e))) (table small))
    where
      short : e < 2 ^ bit_length e → bit_length e ≤ w - 1 → e < 2 ^ (w - 1)
      short small l = lt_of_lt_of_le small (pow_mono l)

      before : e < 2 ^ bit_length e → Dec (e % 2 ≡ 0) → Dec (w ≤ bit_length e) → e + negative_part (low_digit w e) < 2 ^ bit_length e
      before small (yes z) _ = omega (arith, zero_parts (low_digit w e) (low_even w wide e z))
      before small (no o) (yes l) = omega (arith, before_near e w wide, far (omega arith) l)
      before small (no o) (no l) =
          let f = cut_form e w wide (record { odd = omega arith; narrow = short small (omega arith) }) in
          omega (arith, ap negative_part (lowest w wide e), ap (λ (ds : List ℤ). negative_part (digit_at ds 0)) f)

      table : e < 2 ^ bit_length e → table_value (wide_table e w) < 2 ^ bit_length e
      table small =
          elim (dec_lt (bit_length e) (w - 1)) [
            | yes l ↦
                table_cases e w (λ n. table_value n < 2 ^ bit_length e) (λ t. rw (position_value e t.odd) small)
                (λ more. absurd (more (record { odd = odd l; narrow = short small (omega arith) })))
            | no l ↦ lt_of_lt_of_le (table_narrow e w wide) (pow_mono (omega arith))
          ]

  pub wide_largest : largest_bits (wide_naf_steps e w) ≡ wide_largest_bits e w
  wide_largest =
      elim (ℕ_discrete (e % 2) 1) [
        | yes o ↦ rw (eq-eqb (e % 2) 1 o) (elim (dec_le w (bit_length e)) [
          | yes l ↦ rw (le-leb w (bit_length e) l) (elim (dec_lt (2 ^ bit_length e) (e + 2 ^ (w - 1))) [
            | yes n ↦ rw (lt-ltb (2 ^ bit_length e) (e + 2 ^ (w - 1)) n) (power_largest o l n)
            | no n ↦ rw (le-ltb (2 ^ bit_length e) (e + 2 ^ (w - 1)) (omega arith)) (others (λ o l. omega arith))
          ])
          | no l ↦ rw (lt-leb w (bit_length e) (omega arith)) (others (λ o m. absurd (l m)))
        ])
        | no z ↦ rw (ne_eqb (e % 2) 1 z) (others (λ o. absurd (z o)))
      ]
    where
      others : (e % 2 ≡ 1 → w ≤ bit_length e → e + 2 ^ (w - 1) ≤ 2 ^ bit_length e) → largest_bits (wide_naf_steps e w) ≡ sliding_largest_bits e (w - 1)
      others far = largest_cases e (w - 1) (λ bits. largest_bits (wide_naf_steps e w) ≡ bits) table_largest (own_largest far)

-- ---- 1 takes no step, and width 2 is method 4

pub wide_one : (w : ℕ) → 2 ≤ w → wide_naf_steps 1 w ≡ []
unfolding wide_naf_steps digit_steps table_by down_from
wide_one w wide =
    let one : Entry (w - 1) 1 = record { odd = refl; narrow = omega (arith, pow_mono {i = 1} {j = w - 1} (omega arith)) } in
    rw (wide_table_by_length 1 w wide, cut_form 1 w wide one)

-- with no table: below 2 only 1 is odd
pub wide_table_at_2 : (e : ℕ) → wide_table e 2 ≡ 0
wide_table_at_2 e = table_cases e 2 (λ n. n ≡ 0) (λ t. let one : e ≡ 1 = omega (arith, t.odd, t.narrow) in rw one) (λ more. refl)

pub wide_at_2 : (e : ℕ) → wide_naf_steps e 2 ≡ naf_steps e
unfolding wide_naf_steps naf_steps
wide_at_2 e = ap (λ (n : ℕ). digit_steps n (naf 2 (pos e))) (wide_table_at_2 e)

-- ---- within the limits of the rules

module _ (e w : ℕ) (plannable : Plannable e) (wide : 2 ≤ w) (narrow : w ≤ largest_width) where
  pub wide_few : length (wide_naf_steps e w) ≤ plan_steps
  wide_few = omega (arith, wide_short e w plannable.some wide, plannable.bits, pow_mono {i = w - 1} {j = largest_width - 1} (omega arith))

  pub wide_fit : Fit (wide_naf_steps e w) e
  wide_fit =
      let near = plannable_near plannable (w - 1) (omega arith) in
      record {
        made = wide_made e w plannable.some wide (lt_of_lt_of_le (before_near e w wide) (le_of_lt near)) (lt_of_le_of_lt (omega (arith, table_narrow e w wide)) near);
        few = wide_few;
      }
