-- The steps of a signed digit string over a table of odd multiples: sound, with the string's value at the end, how many there are, their counts,
-- and sizes that the largest one is not below. Assumes nothing.
use mathlib.Core.Path.{◌≡◌, refl, sym, ap, ◌∙◌}
use mathlib.Core.Logic.{◌≢◌}
use mathlib.Core.List.{List, [], ◌∷◌}
use Prim.Native.Nat.{ℕ, zero, suc, ◌+◌, ◌*◌, ◌-◌, ◌^◌, ◌<◌, ◌≤◌}
use native.Mathlib.Nat.{add_assoc, add-zero, zero-add, sub_self, sub-zero}
use native.Mathlib.Omega.{arith}
use lib.IntN.{ℤ, pos, negsuc, nat_abs, ◌+ℤ◌, ◌*ℤ◌, +ℤ_idr}
use lib.ListN.{length, drop, drop_of_length-le}
use lib.Seq.{drop-cons}
use Rattle.signed_digits.specs.Strings.{value, digit_at}
use Rattle.signed_digits.proofs.Parts.{positive_part, negative_part, sum_parts}
use Rattle.chains.specs.Steps.{Step, add, subtract}
use Rattle.chains.specs.Counts.{counts, counts_of, total}
use Rattle.chains.specs.Largest.{largest_bits}
use Rattle.chains.proofs.Counts.{length_counted, position_counts, unhidden_counts}
use Rattle.methods.specs.PartialPlan.{PartialPlan, double, down_from}
use Rattle.methods.specs.Tables.{table_counts}
use Rattle.methods.specs.OddMultiples.{odd_second, odd_position}
use Rattle.methods.specs.DigitSteps.{at_digit, at_top, digit_steps}
use Rattle.methods.specs.Forecast.{is_plus, is_minus, plus_digits, minus_digits}
use Rattle.methods.proofs.Laws.{Holds, Stands, Made, double_holds, double_add, double_subtract, stands_followed, latest_followed, length_followed, down_from_lem, made, stands_bits}
use Rattle.methods.proofs.Counted.{counts_in, counts_double, counts_add, counts_subtract, not_before}
use Rattle.methods.proofs.Tables.{tabled, table_total, no_subtractions}
use Rattle.methods.proofs.OddMultiples.{odd_length, table_value, odd_counts, InTable, entry_holds}

-- how many steps a digit takes
pub length_at_digit : (d : ℤ) (b : PartialPlan) → length (at_digit d b).steps ≡ length b.steps + is_plus d + is_minus d + 1
length_at_digit (pos zero) b = omega (arith, length_followed b (add b.latest b.latest))
length_at_digit (pos (suc n)) b = omega (arith, length_followed b (add b.latest b.latest), length_followed (double b) (add (double b).latest (odd_position (suc n))))
length_at_digit (negsuc n) b = omega (arith, length_followed b (add b.latest b.latest), length_followed (double b) (subtract (double b).latest (odd_position (suc n))))

-- a digit is above zero or below it, or neither
signs_le : (ds : List ℤ) → plus_digits ds + minus_digits ds ≤ length ds
unfolding plus_digits minus_digits
signs_le [] = omega arith
signs_le (pos zero ∷ ds) = omega (arith, signs_le ds)
signs_le (pos (suc n) ∷ ds) = omega (arith, signs_le ds)
signs_le (negsuc n ∷ ds) = omega (arith, signs_le ds)

-- the value of the digits from place i on, where it is above zero
abbrev pub value_from : List ℤ → ℕ → ℕ
value_from ds i = positive_part (value (drop i ds))

-- A string whose steps can follow n steps of the table. Each value from a place on is above zero and below the limit, and so is that from which a
-- digit below zero is subtracted. The table has each digit that is not 0, and ends at a digit that is the whole string.
pub record Suited (limit n : ℕ) (ds : List ℤ) : Type 0 where
  pub some : 0 < length ds
  pub positive : (i : ℕ) → i < length ds → 0 < value_from ds i
  pub small : (i : ℕ) → i < length ds → value_from ds i + negative_part (digit_at ds i) < limit
  pub entry : (i : ℕ) → i < length ds → digit_at ds i ≢ pos 0 → InTable n (nat_abs (digit_at ds i))
  pub table : table_value n < limit
  pub single : length ds ≡ 1 → odd_position (nat_abs (digit_at ds 0)) ≡ n

-- an integer above zero is its positive part
is_positive : (z : ℤ) → 0 < positive_part z → z ≡ pos (positive_part z)
is_positive (pos v) h = refl
is_positive (negsuc v) h = absurd (omega arith)

-- values above zero from every place on
module _ (ds : List ℤ) (positive : (i : ℕ) → i < length ds → 0 < value_from ds i) where
  is_from : (i : ℕ) → i < length ds → value (drop i ds) ≡ pos (value_from ds i)
  is_from i h = is_positive (value (drop i ds)) (positive i h)

  -- from a place on: twice the value from the next one on, and the digit
  from_down : (i : ℕ) → i < length ds → value (drop i ds) ≡ digit_at ds i +ℤ pos 2 *ℤ value (drop (suc i) ds)
  unfolding value
  from_down i h = ap value (drop-cons ds i (pos 0) h)

  pub value_down : (i : ℕ) → suc i < length ds → value_from ds i + negative_part (digit_at ds i) ≡ positive_part (digit_at ds i) + 2 * value_from ds (suc i)
  value_down i h =
      let f : pos (value_from ds i) ≡ digit_at ds i +ℤ pos (2 * value_from ds (suc i)) = sym (is_from i (omega arith)) ∙ from_down i (omega arith) ∙ rw (is_from (suc i) h) in
      omega (arith, sum_parts (digit_at ds i) (pos (2 * value_from ds (suc i))), ap positive_part f, ap negative_part f)

module _ {limit : ℕ} (n : ℕ) (ds : List ℤ) (suited : Suited limit n ds) where
  abbrev top : ℕ
  top = length ds - 1

  -- nothing stands above the top
  top_alone : drop top ds ≡ digit_at ds top ∷ []
  top_alone = let some = suited.some in drop-cons ds top (pos 0) (omega arith) ∙ rw (drop_of_length-le ds {i = suc top} (omega arith))

  pub top_above_zero : digit_at ds top ≡ pos (value_from ds top)
  unfolding value
  top_above_zero = let some = suited.some in sym (ap value top_alone ∙ +ℤ_idr (digit_at ds top)) ∙ is_from ds suited.positive top (omega arith)

  -- Above place i: the latest holds the value of the digits from i on, and the table stands. Each digit below the top took a doubling, and one step
  -- more where it is not 0. What a digit below zero was subtracted from stands.
  record Above (i : ℕ) (b : PartialPlan) : Type 0 where
    holds : Holds limit b (value_from ds i)
    stands : (v : ℕ) → InTable n v → Stands b (odd_position v) v
    before : 0 < negative_part (digit_at ds i) → (p : ℕ) × Stands b p (value_from ds i + negative_part (digit_at ds i))
    latest : (i ≡ top → top ≡ 0) → b.latest ≡ length b.steps
    some : 1 ≤ plus_digits (drop i ds)
    counted : counts_in b ≡ counts ((table_counts n).doublings + (top - i)) ((table_counts n).additions + (plus_digits (drop i ds) - 1)) (minus_digits (drop i ds))

  at_digit_lem : (i : ℕ) (d : ℤ) (b : PartialPlan) → i < top → digit_at ds i ≡ d → Above (suc i) b → Above i (at_digit d b)
  unfolding plus_digits minus_digits
  at_digit_lem i d b l y a = go d y (rw y at (value_down ds suited.positive i (omega arith))) (rw y at (drop-cons ds i (pos 0) (omega arith)))
    where
      v : ℕ
      v = value_from ds (suc i)

      twice : Step
      twice = add b.latest b.latest

      more : (table_counts n).doublings + (top - i) ≡ (table_counts n).doublings + (top - suc i) + 1
      more = omega arith

      small : (w : ℕ) → w ≤ value_from ds i + negative_part (digit_at ds i) → w < limit
      small w h = omega (arith, suited.small i (omega arith))

      positive : 0 < v
      positive = suited.positive (suc i) (omega arith)

      entry : (w : ℕ) → nat_abs (digit_at ds i) ≡ w → 0 < w → InTable n w
      entry w e h = rw e at (suited.entry i (omega arith) (λ z. omega (arith, ap nat_abs z)))

      go : (d : ℤ) → digit_at ds i ≡ d → value_from ds i + negative_part d ≡ positive_part d + 2 * v → drop i ds ≡ d ∷ drop (suc i) ds → Above i (at_digit d b)
      go (pos zero) y q c =
          let r : value_from ds i ≡ 2 * v = omega arith in
          record {
            holds = rw r (double_holds b v a.holds positive (small (2 * v) (omega arith)));
            stands = λ w t. stands_followed b twice (odd_position w) w (a.stands w t);
            before = λ s. absurd (omega (arith, ap negative_part y));
            latest = λ h. latest_followed b twice;
            some = rw c (simp zero-add a.some);
            counted = rw (more, c) (simp zero-add (counts_double b _ _ _ a.counted));
          }
      go (pos (suc k)) y q c =
          let r : value_from ds i ≡ 2 * v + suc k = omega arith in
          let t : InTable n (suc k) = entry (suc k) (ap nat_abs y) (omega arith) in
          let p : ℕ = odd_position (suc k) in
          let one : 1 + plus_digits (drop (suc i) ds) - 1 ≡ plus_digits (drop (suc i) ds) - 1 + 1 = omega (arith, a.some) in
          record {
            holds = rw r (double_add b p v (suc k) a.holds (a.stands (suc k) t) (omega (arith, t.odd)) positive (small (2 * v + suc k) (omega arith)));
            stands = λ w t. stands_followed (double b) (add (double b).latest p) (odd_position w) w (stands_followed b twice (odd_position w) w (a.stands w t));
            before = λ s. absurd (omega (arith, ap negative_part y));
            latest = λ h. latest_followed (double b) (add (double b).latest p);
            some = rw c (omega arith);
            counted =
                rw (more, c, one, ← add_assoc)
                (simp zero-add (counts_add (double b) _ _ _ (counts_double b _ _ _ a.counted) p (not_before b twice p (a.stands (suc k) t).filled)));
          }
      go (negsuc k) y q c =
          let r : value_from ds i ≡ 2 * v - suc k = omega arith in
          let t : InTable n (suc k) = entry (suc k) (ap nat_abs y) (omega arith) in
          let p : ℕ = odd_position (suc k) in
          let one : 1 + minus_digits (drop (suc i) ds) ≡ minus_digits (drop (suc i) ds) + 1 = omega arith in
          let sum : value_from ds i + negative_part (digit_at ds i) ≡ 2 * v = omega (arith, ap negative_part y) in
          let held : Holds limit (double b) (2 * v) = double_holds b v a.holds positive (small (2 * v) (omega arith)) in
          record {
            holds = rw r (double_subtract b p v (suc k) a.holds (a.stands (suc k) t) (omega (arith, suited.positive i (omega arith))) (small (2 * v) (omega (arith, ap negative_part y))));
            stands = λ w t. stands_followed (double b) (subtract (double b).latest p) (odd_position w) w (stands_followed b twice (odd_position w) w (a.stands w t));
            before = λ s. rw sum ((double b).latest, stands_followed (double b) (subtract (double b).latest p) _ _ (record { filled = held.within; value = held.value }));
            latest = λ h. latest_followed (double b) (subtract (double b).latest p);
            some = rw c (simp zero-add a.some);
            counted = rw (more, c, one) (simp zero-add (counts_subtract (double b) _ _ _ (counts_double b _ _ _ a.counted) p));
          }

  top_signs : (plus_digits (drop top ds) ≡ 1) × (minus_digits (drop top ds) ≡ 0)
  unfolding plus_digits minus_digits
  top_signs = rw (top_alone, top_above_zero) (go (value_from ds top) (suited.positive top (omega (arith, suited.some))))
    where
      go : (m : ℕ) → 0 < m → (plus_digits (pos m ∷ []) ≡ 1) × (minus_digits (pos m ∷ []) ≡ 0)
      go zero h = absurd (omega arith)
      go (suc m) h = (refl, refl)

  at_top_lem : Above top (at_top n ds)
  at_top_lem =
      let some = suited.some in
      let d : nat_abs (digit_at ds top) ≡ value_from ds top = ap nat_abs top_above_zero in
      let positive = suited.positive top (omega arith) in
      let holds : (v : ℕ) → InTable n v → Holds limit (tabled odd_second n (odd_position v)) v = λ v t. entry_holds n v suited.table t in
      record {
        holds = rw (← d) (holds (nat_abs (digit_at ds top)) (suited.entry top (omega arith) (λ z. omega (arith, ap nat_abs z))));
        stands = λ v t. record { filled = (holds v t).within; value = (holds v t).value };
        before = λ s. absurd (omega (arith, ap negative_part top_above_zero));
        latest = λ h. let z : top ≡ 0 = h refl in rw (z, odd_length n) (suited.single (omega arith));
        some = rw top_signs.0 (omega arith);
        counted = rw (top_signs.0, top_signs.1, sub_self top) (odd_counts n ∙ no_subtractions n ∙ simp add-zero);
      }

  all : Above 0 (down_from (λ i b. at_digit (digit_at ds i) b) top (at_top n ds))
  all = down_from_lem Above (λ i b. at_digit (digit_at ds i) b) top (at_top n ds) (λ i b l a. at_digit_lem i (digit_at ds i) b l refl a) at_top_lem

  pub digits_made : Made limit (digit_steps n ds) (positive_part (value ds))
  unfolding digit_steps
  digits_made = made _ _ all.holds (all.latest (λ e. sym e))

  -- the top digit is above zero
  pub digits_plus : 1 ≤ plus_digits ds
  digits_plus = all.some

  -- what a lowest digit below zero is subtracted from is among the values
  pub digits_before : {k : ℕ} → 0 < negative_part (digit_at ds 0) → 2 ^ k ≤ positive_part (value ds) + negative_part (digit_at ds 0) → k < largest_bits (digit_steps n ds)
  unfolding digit_steps
  digits_before s h = let (p, t) = all.before s in stands_bits _ p _ t h

  -- and so is each entry of the table
  pub digits_entry : {k : ℕ} (v : ℕ) → InTable n v → 2 ^ k ≤ v → k < largest_bits (digit_steps n ds)
  unfolding digit_steps
  digits_entry v t h = stands_bits _ (odd_position v) v (all.stands v t) h

  digits_positions : position_counts (digit_steps n ds) ≡ counts ((table_counts n).doublings + (length ds - 1)) ((table_counts n).additions + (plus_digits ds - 1)) (minus_digits ds)
  unfolding digit_steps
  digits_positions = rw sub-zero at all.counted

  -- a doubling for each digit below the top; an addition for each of them above zero, and a subtraction for each below
  pub digits_counts : counts_of (digit_steps n ds) ≡ counts ((table_counts n).doublings + (length ds - 1)) ((table_counts n).additions + (plus_digits ds - 1)) (minus_digits ds)
  digits_counts = unhidden_counts (digit_steps n ds) digits_made.unhidden ∙ digits_positions

  pub digits_length : length (digit_steps n ds) ≡ n + (length ds - 1) + (plus_digits ds - 1) + minus_digits ds
  digits_length = omega (arith, length_counted (digit_steps n ds), ap total digits_counts, table_total n, ap total (no_subtractions n))

  -- at most two steps for each digit below the top
  pub digits_short : length (digit_steps n ds) ≤ n + 2 * (length ds - 1)
  digits_short = omega (arith, digits_length, digits_plus, signs_le ds)
