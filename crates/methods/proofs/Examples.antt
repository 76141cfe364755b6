-- The plans for 43 and 3 (docs/RULES.md, 3.3 and 5.10), chains of source document 004, and ends of longer plans, by computation from the definitions. Assumes nothing.
use mathlib.Core.Path.{◌≡◌, refl}
use mathlib.Core.List.{[], ◌∷◌, map}
use Prim.Native.Nat.{◌^◌, ◌-◌}
use lib.IntN.{pos}
use lib.ListN.{length}
use Rattle.rules.specs.Limits.{largest_width}
use Rattle.signed_digits.specs.Naf.{residue, low_digit, rest, digits_of, naf}
use Rattle.signed_digits.specs.Modified.{leads, shortened, modified}
use Rattle.chains.specs.Steps.{plan_bytes_of, step_bytes_of}
use Rattle.chains.specs.Values.{values_of, extend, step_value, end_of}
use Rattle.methods.specs.PartialPlan.{followed, doubled, down_from}
use Rattle.integers.specs.Bits.{bit, length_up_to, bit_length}
use Rattle.methods.specs.Binary.{binary_steps}
use Rattle.methods.specs.Widths.{fixed_window_bits}
use Rattle.methods.specs.Tables.{table_by}
use Rattle.methods.specs.DigitSteps.{digit_steps}
use Rattle.methods.specs.FixedWindows.{window_steps, fixed_window_steps}
use Rattle.methods.specs.SlidingWindows.{longest, slide, sliding_window_steps}
use Rattle.methods.specs.NonAdjacentForm.{naf_steps}
use Rattle.methods.specs.WideNaf.{wide_table, wide_naf_steps}
use Rattle.methods.specs.ModifiedNaf.{modified_naf_steps}

pub steps_for_43 : (length (binary_steps 43) ≡ 8) × (length (fixed_window_steps 43 2) ≡ 8) × (length (sliding_window_steps 43 3) ≡ 8) × (length (naf_steps 43) ≡ 9)
unfolding binary_steps fixed_window_steps sliding_window_steps naf_steps window_steps table_by longest slide digit_steps followed doubled down_from length_up_to bit_length bit residue low_digit rest digits_of naf
steps_for_43 = (refl, refl, refl, refl)

pub naf_values_for_43 : values_of (naf_steps 43) ≡ map pos (1 ∷ 2 ∷ 4 ∷ 3 ∷ 6 ∷ 12 ∷ 11 ∷ 22 ∷ 44 ∷ 43 ∷ [])
unfolding naf_steps digit_steps table_by followed down_from residue low_digit rest digits_of naf values_of extend step_value
naf_values_for_43 = refl

pub plan_for_3 : plan_bytes_of (binary_steps 3) ≡ 0 ∷ 0 ∷ 0 ∷ 0 ∷ 0 ∷ 0 ∷ 1 ∷ 0 ∷ 0 ∷ 0 ∷ []
unfolding binary_steps down_from followed bit bit_length length_up_to plan_bytes_of step_bytes_of
plan_for_3 = refl

-- the corners: numbers below 2 ^ d, even and odd; width 1; a number of 255 bits; digits beyond 1, with a table
pub corner_ends : (end_of (fixed_window_steps 6 3) ≡ pos 6) × (end_of (sliding_window_steps 5 3) ≡ pos 5) × (end_of (sliding_window_steps 6 3) ≡ pos 6) × (end_of (fixed_window_steps 77 1) ≡ pos 77) × (end_of (sliding_window_steps 77 1) ≡ pos 77) × (end_of (fixed_window_steps (2 ^ 255 - 19) fixed_window_bits) ≡ pos (2 ^ 255 - 19)) × (end_of (sliding_window_steps (2 ^ 255 - 19) 5) ≡ pos (2 ^ 255 - 19)) × (end_of (digit_steps 2 (naf 3 (pos 43))) ≡ pos 43)
unfolding binary_steps fixed_window_steps sliding_window_steps naf_steps window_steps table_by longest slide digit_steps followed doubled down_from length_up_to bit_length bit residue low_digit rest digits_of naf values_of extend step_value
corner_ends = (refl, refl, refl, refl, refl, refl, refl, refl)

-- method 5: the table 1, 2, 3, then the digits 1 0 0 -3 0 0 3 from the top
pub wide_values_for_43 : values_of (wide_naf_steps 43 3) ≡ map pos (1 ∷ 2 ∷ 3 ∷ 2 ∷ 4 ∷ 8 ∷ 5 ∷ 10 ∷ 20 ∷ 40 ∷ 43 ∷ [])
unfolding wide_naf_steps wide_table digit_steps table_by followed down_from residue low_digit rest digits_of naf values_of extend step_value
wide_values_for_43 = refl

-- the table is cut at 5, and whole for 6; 15 is made from 16; a number of 255 bits
pub wide_corners : (values_of (wide_naf_steps 5 4) ≡ map pos (1 ∷ 2 ∷ 3 ∷ 5 ∷ [])) × (values_of (wide_naf_steps 6 4) ≡ map pos (1 ∷ 2 ∷ 3 ∷ 5 ∷ 7 ∷ 6 ∷ [])) × (values_of (wide_naf_steps 15 3) ≡ map pos (1 ∷ 2 ∷ 3 ∷ 2 ∷ 4 ∷ 8 ∷ 16 ∷ 15 ∷ [])) × (end_of (wide_naf_steps (2 ^ 255 - 19) largest_width) ≡ pos (2 ^ 255 - 19))
unfolding wide_naf_steps wide_table digit_steps table_by followed down_from residue low_digit rest digits_of naf values_of extend step_value
wide_corners = (refl, refl, refl, refl)

-- method 6: 43 takes 8 steps, and 1 none; source document 004's chains by the modified form
pub modified_steps_for_43 : (length (modified_naf_steps 43) ≡ 8) × (modified_naf_steps 1 ≡ [])
unfolding modified_naf_steps leads shortened modified digit_steps table_by followed down_from residue low_digit rest digits_of naf
modified_steps_for_43 = (refl, refl)

pub modified_chains : (values_of (modified_naf_steps 15) ≡ map pos (1 ∷ 2 ∷ 4 ∷ 8 ∷ 16 ∷ 15 ∷ [])) × (values_of (modified_naf_steps 23) ≡ map pos (1 ∷ 2 ∷ 3 ∷ 6 ∷ 12 ∷ 24 ∷ 23 ∷ [])) × (values_of (modified_naf_steps 27) ≡ map pos (1 ∷ 2 ∷ 4 ∷ 8 ∷ 7 ∷ 14 ∷ 28 ∷ 27 ∷ [])) × (values_of (modified_naf_steps 43) ≡ map pos (1 ∷ 2 ∷ 3 ∷ 6 ∷ 12 ∷ 11 ∷ 22 ∷ 44 ∷ 43 ∷ [])) × (values_of (modified_naf_steps 47) ≡ map pos (1 ∷ 2 ∷ 3 ∷ 6 ∷ 12 ∷ 24 ∷ 48 ∷ 47 ∷ []))
unfolding modified_naf_steps leads shortened modified digit_steps table_by followed down_from residue low_digit rest digits_of naf values_of extend step_value
modified_chains = (refl, refl, refl, refl, refl)
