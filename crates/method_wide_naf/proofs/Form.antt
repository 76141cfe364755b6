-- The form of a number by the bytes of its digits: the counts, the table, and the steps. Assumes nothing.
use mathlib.Core.Path.{◌≡◌, refl, sym, ap, ◌∙◌}
use mathlib.Core.Logic.{◌≢◌}
use mathlib.Core.Bool.{cond}
use mathlib.Core.List.{List, ◌∷◌}
use Prim.Native.Nat.{ℕ, zero, suc, ◌+◌, ◌-◌, ◌/◌, ◌%◌, ◌<◌, ◌≤◌}
use borrow.Author.Tests.{eq-eqb, ne_eqb}
use native.Mathlib.Decide.{ℕ_discrete}
use native.Mathlib.Numerals.{add-one}
use native.Mathlib.Omega.{arith}
use lib.Dec.{eqb}
use lib.IntN.{ℤ, pos, negsuc, nat_abs}
use lib.ListN.{length, drop, get_or, drop_of_length-le}
use lib.Seq.{drop-cons}
use Rattle.rules.specs.Limits.{least_width, largest_width, plan_steps}
use Rattle.rules.specs.declared.Counts.{Counts}
use Rattle.signed_digits.specs.Strings.{digit_at}
use Rattle.signed_digits.specs.Form.{OddDigit}
use Rattle.signed_digits.specs.Naf.{naf}
use Rattle.signed_digits.specs.Bytes.{digit_byte, byte_digit}
use Rattle.signed_digits.proofs.Exists.{naf_form}
use Rattle.signed_digits.proofs.Left.{some_digits}
use Rattle.digit_strings.specs.Places.{place_byte}
use Rattle.digit_strings.proofs.Digits.{bound_fits}
use Rattle.digit_strings.proofs.Bytes.{place_back}
use Rattle.wide_digits.specs.Form.{FormIn}
use Rattle.chains.specs.Counts.{counts, counts_of, total}
use Rattle.chains.proofs.Counts.{length_counted}
use Rattle.methods.specs.PartialPlan.{PartialPlan, down_from}
use Rattle.methods.specs.Tables.{table_counts}
use Rattle.methods.specs.OddMultiples.{odd_table, odd_position, table_length}
use Rattle.methods.specs.DigitSteps.{at_digit, at_top, digit_steps}
use Rattle.methods.specs.Forecast.{is_plus, is_minus, plus_digits, minus_digits}
use Rattle.methods.specs.WideNaf.{wide_table, wide_naf_steps}
use Rattle.methods.proofs.Laws.{Plannable, down_grows}
use Rattle.methods.proofs.OddMultiples.{odd_length}
use Rattle.methods.proofs.DigitSteps.{length_at_digit}
use Rattle.methods.proofs.WideNaf.{wide_table_by_length, wide_plus, wide_counts, wide_few}
use Rattle.plan_writing.specs.declared.Cursor.{Cursor}
use Rattle.plan_writing.specs.Writing.{Writing}

-- the n digits of a number above zero stand in an array
pub record Recoded (e w : ℕ) (digits : List ℕ) (n : ℕ) : Type 0 where
  pub some : 0 < e
  pub wide : least_width ≤ w
  pub narrow : w ≤ largest_width
  pub form : FormIn w (pos e) digits n

-- ---- the bytes of digits

-- odd if the digit is not 0, and 128 or more if it is below zero
byte_signs : (w : ℕ) → w ≤ largest_width → (d : ℤ) → (d ≢ pos 0 → OddDigit w d) → (digit_byte d % 2 ≡ is_plus d + is_minus d) × (digit_byte d / 128 ≡ is_minus d)
byte_signs w narrow (pos zero) o = (refl, refl)
byte_signs w narrow (pos (suc n)) o =
    let d = o (λ e. omega (arith, ap nat_abs e)) in
    (omega (arith, d.odd), omega (arith, d.small, bound_fits w narrow))
byte_signs w narrow (negsuc n) o =
    let d = o (λ e. omega (arith, ap nat_abs e)) in
    (omega (arith, d.odd, d.small, bound_fits w narrow), omega (arith, d.small, bound_fits w narrow))

one_sign : (d : ℤ) → is_plus d + is_minus d ≤ 1
one_sign (pos zero) = omega arith
one_sign (pos (suc n)) = omega arith
one_sign (negsuc n) = omega arith

module _ {e w n : ℕ} {digits : List ℕ} (h : Recoded e w digits n) where
  pub some_places : 1 ≤ n
  some_places = omega (arith, h.form.count, some_digits w h.wide e h.some)

  pub read : (i : ℕ) → byte_digit (get_or digits i 0) ≡ digit_at (naf w (pos e)) i
  read i = rw (h.form.digit i) (place_back w h.narrow (pos e) h.wide i)

  pub signs : (i : ℕ) → (get_or digits i 0 % 2 ≡ is_plus (digit_at (naf w (pos e)) i) + is_minus (digit_at (naf w (pos e)) i)) × (get_or digits i 0 / 128 ≡ is_minus (digit_at (naf w (pos e)) i))
  unfolding place_byte
  signs i = rw (h.form.digit i) (byte_signs w h.narrow (digit_at (naf w (pos e)) i) ((naf_form w (pos e) h.wide).digit i))

  -- ---- the table, by the position of the top digit

  module _ {top table : ℕ} (at : top ≡ odd_position (nat_abs (byte_digit (get_or digits (n - 1) 0)))) (by_length : table ≡ cond (eqb n 1) top (table_length (w - 1))) where
    pub table_is : table ≡ wide_table e w
    table_is = by_length ∙ sym (wide_table_by_length e w h.wide ∙ rw (← h.form.count) (go (ℕ_discrete n 1)))
      where
        go : Dec (n ≡ 1) → cond (eqb n 1) (odd_position (nat_abs (digit_at (naf w (pos e)) 0))) (table_length (w - 1)) ≡ cond (eqb n 1) top (table_length (w - 1))
        go (yes one) = rw (eq-eqb n 1 one) (sym (at ∙ rw (read (n - 1), one)))
        go (no more) = rw (ne_eqb n 1 more)

    -- once it is written, the latest is that position
    pub table_written : {lent here : List ℕ} {c : Cursor} → Writing lent here c (record { steps = odd_table table; latest = table }) → Writing lent here (record { steps = c.steps; latest = top }) (at_top (wide_table e w) (naf w (pos e)))
    table_written written = record {
      steps = rw (← table_is) written.steps;
      latest = at ∙ rw (read (n - 1), h.form.count);
      bytes = rw (← table_is) written.bytes;
    }

-- ---- the counts

-- the digits below place i are counted
pub record Counted (e w i plus minus : ℕ) : Type 0 where
  pub few : plus + minus ≤ i
  pub above : plus + plus_digits (drop i (naf w (pos e))) ≡ plus_digits (naf w (pos e))
  pub below : minus + minus_digits (drop i (naf w (pos e))) ≡ minus_digits (naf w (pos e))

pub counted_none : (e w : ℕ) → Counted e w 0 0 0
counted_none e w = record { few = omega arith; above = omega arith; below = omega arith }

module _ {e w n : ℕ} {digits : List ℕ} (h : Recoded e w digits n) {i plus minus : ℕ} (so_far : Counted e w i plus minus) where
  abbrev ds : List ℤ
  ds = naf w (pos e)

  pub counted_next : i < n → Counted e w (i + 1) (plus + (get_or digits i 0 % 2 - get_or digits i 0 / 128)) (minus + get_or digits i 0 / 128)
  unfolding plus_digits minus_digits
  counted_next l =
      let next : drop i ds ≡ digit_at ds i ∷ drop (i + 1) ds = drop-cons ds i (pos 0) (omega (arith, h.form.count)) ∙ rw add-one in
      record {
        few = omega (arith, signs h i, so_far.few, one_sign (digit_at ds i));
        above = omega (arith, signs h i, so_far.above, ap plus_digits next);
        below = omega (arith, signs h i, so_far.below, ap minus_digits next);
      }

  module _ (past : n ≤ i) where
    all : (plus ≡ plus_digits ds) × (minus ≡ minus_digits ds)
    unfolding plus_digits minus_digits
    all =
        let none = drop_of_length-le ds {i = i} (omega (arith, h.form.count)) in
        (omega (arith, so_far.above, ap plus_digits none), omega (arith, so_far.below, ap minus_digits none))

    pub plus_some : 1 ≤ plus
    plus_some = omega (arith, all, wide_plus e w h.some h.wide)

    module _ {t : Counts} (table : t ≡ table_counts (wide_table e w)) where
      pub counts_are : counts (t.doublings + (n - 1)) (t.additions + (plus - 1)) minus ≡ counts_of (wide_naf_steps e w)
      counts_are = rw (table, h.form.count, all.0, all.1) (sym (wide_counts e w h.some h.wide))

      pub counts_few : Plannable e → (t.doublings + (n - 1)) + (t.additions + (plus - 1)) + minus ≤ plan_steps
      counts_few p = omega (arith, ap total counts_are, length_counted (wide_naf_steps e w), wide_few e w p h.wide h.narrow)

-- ---- the steps

-- those of the digit at a place
abbrev pub at_place : ℕ → ℕ → ℕ → PartialPlan → PartialPlan
at_place e w i b = at_digit (digit_at (naf w (pos e)) i) b

pub place_grows : (e w i : ℕ) (b : PartialPlan) → length b.steps ≤ length (at_place e w i b).steps
place_grows e w i b = omega (arith, length_at_digit (digit_at (naf w (pos e)) i) b)

module _ {e w n : ℕ} {digits : List ℕ} (h : Recoded e w digits n) where
  pub steps_are : (down_from (at_place e w) (n - 1) (at_top (wide_table e w) (naf w (pos e)))).steps ≡ wide_naf_steps e w
  unfolding wide_naf_steps digit_steps
  steps_are = rw h.form.count

  -- the table is among them
  pub table_room : wide_table e w ≤ length (wide_naf_steps e w)
  table_room =
      omega (arith, ap length steps_are, down_grows (at_place e w) (n - 1) (at_top (wide_table e w) (naf w (pos e))) (place_grows e w), odd_length (wide_table e w))
