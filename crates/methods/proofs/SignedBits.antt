-- The steps of a string of the digits 0, 1 and -1 with 1 on top, which needs no table: it is suited, and how many steps there are. Assumes nothing.
use mathlib.Core.Path.{◌≡◌, refl, ap, ◌∙◌}
use mathlib.Core.Logic.{◌≢◌}
use mathlib.Core.List.{List, [], ◌∷◌}
use Prim.Native.Nat.{ℕ, zero, suc, ◌+◌, ◌-◌, ◌<◌, ◌≤◌}
use native.Mathlib.Omega.{arith}
use lib.IntN.{ℤ, pos, negsuc, nat_abs}
use lib.ListN.{length, drop}
use Rattle.signed_digits.specs.Strings.{value, digit_at}
use Rattle.signed_digits.specs.Form.{SignedBits}
use Rattle.signed_digits.specs.Weight.{nonzero, nonzeros}
use Rattle.signed_digits.specs.Modified.{top_digit}
use Rattle.signed_digits.proofs.Parts.{positive_part, negative_part, from_parts, size_parts}
use Rattle.signed_digits.proofs.Tops.{some_digit, top_positive, dropped_top, dropped_bits}
use Rattle.methods.specs.PartialPlan.{none, down_from}
use Rattle.methods.specs.Tables.{table_by}
use Rattle.methods.specs.OddMultiples.{odd_position}
use Rattle.methods.specs.DigitSteps.{at_digit, digit_steps}
use Rattle.methods.specs.Forecast.{plus_digits, minus_digits}
use Rattle.methods.proofs.OddMultiples.{table_value, InTable}
use Rattle.methods.proofs.DigitSteps.{value_from, Suited, value_down, digits_plus, digits_length}

-- a digit other than 0 is above zero or below it
nonzero_signs : (ds : List ℤ) → nonzeros ds ≡ plus_digits ds + minus_digits ds
unfolding nonzeros nonzero plus_digits minus_digits
nonzero_signs [] = refl
nonzero_signs (pos zero ∷ ds) = omega (arith, nonzero_signs ds)
nonzero_signs (pos (suc n) ∷ ds) = omega (arith, nonzero_signs ds)
nonzero_signs (negsuc n ∷ ds) = omega (arith, nonzero_signs ds)

-- 1 stands at position 0
one_in_table : (d : ℤ) → nat_abs d ≤ 1 → d ≢ pos 0 → InTable 0 (nat_abs d)
one_in_table d small other =
    let some : nat_abs d ≢ 0 = λ z. other (omega (arith, from_parts, size_parts d)) in
    let one : nat_abs d ≡ 1 = omega arith in
    rw one (record { odd = refl; within = omega arith })

-- so the steps begin there, with 1 on top, whatever the digits below are
pub digits_down : (ds : List ℤ) → top_digit ds ≡ pos 1 → digit_steps 0 ds ≡ (down_from (λ i b. at_digit (digit_at ds i) b) (length ds - 1) none).steps
unfolding digit_steps table_by
digits_down ds top =
    ap (λ (d : ℤ). (down_from (λ i b. at_digit (digit_at ds i) b) (length ds - 1) (record { steps = []; latest = odd_position (nat_abs d) })).steps) top

module _ (ds : List ℤ) (bits : SignedBits ds) (top : top_digit ds ≡ pos 1) where
  positive : (i : ℕ) → i < length ds → 0 < value_from ds i
  positive i h = top_positive (drop i ds) (dropped_bits ds i bits) (dropped_top ds i h ∙ top)

  -- what a digit below zero is subtracted from, or else the value from there on, is largest at the lowest place
  lowest_largest : (i : ℕ) → i < length ds → value_from ds i + negative_part (digit_at ds i) ≤ positive_part (value ds) + negative_part (digit_at ds 0)
  lowest_largest zero h = omega arith
  lowest_largest (suc i) h =
      omega (arith, lowest_largest i (omega arith), value_down ds positive i h, positive (suc i) h, bits (suc i), size_parts (digit_at ds (suc i)))

  -- with any limit that is above what the lowest digit is subtracted from, if it is below zero, and otherwise above the value
  pub bits_suited : {limit : ℕ} → positive_part (value ds) + negative_part (digit_at ds 0) < limit → Suited limit 0 ds
  unfolding table_value
  bits_suited small =
      let some = some_digit ds top in
      record {
        some = some;
        positive = positive;
        small = λ i h. omega (arith, lowest_largest i h);
        entry = λ i h. one_in_table (digit_at ds i) (bits i);
        table = omega (arith, positive 0 some);
        single = λ h. let z : length ds - 1 ≡ 0 = omega arith in rw (rw z at top);
      }

  -- a doubling for each digit below the top, and one step more for each of them that is not 0
  pub bits_length : length (digit_steps 0 ds) + 2 ≡ length ds + nonzeros ds
  bits_length =
      let suited : Suited (suc (positive_part (value ds) + negative_part (digit_at ds 0))) 0 ds = bits_suited (omega arith) in
      omega (arith, some_digit ds top, digits_length 0 ds suited, digits_plus 0 ds suited, nonzero_signs ds)
