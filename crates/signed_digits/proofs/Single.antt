-- The form of one digit: an odd digit of width w is its own form, and no other integer has a form of one digit. Assumes nothing.
use mathlib.Core.Path.{◌≡◌, refl, sym, ap, ◌∙◌}
use mathlib.Core.Logic.{◌↔◌}
use mathlib.Core.List.{List, [], ◌∷◌}
use Prim.Native.Nat.{ℕ, ◌≤◌}
use native.Mathlib.Omega.{arith}
use lib.ListN.{length}
use lib.IntN.{ℤ, +ℤ_idr}
use Rattle.signed_digits.specs.Strings.{value}
use Rattle.signed_digits.specs.Form.{OddDigit}
use Rattle.signed_digits.specs.Naf.{naf}
use Rattle.signed_digits.proofs.Spaced.{Spaced, empty, blank, digit, spaced_of_form, form_of_spaced}
use Rattle.signed_digits.proofs.Exists.{naf_value, naf_form}
use Rattle.signed_digits.proofs.Unique.{naf_only}

one_odd : {w : ℕ} {ds : List ℤ} → Spaced w 0 ds → length ds ≡ 1 → OddDigit w (value ds)
unfolding value
one_odd empty h = absurd (omega arith)
one_odd (blank e l s) h = absurd (omega arith)
one_odd {w} (digit {d = d} e o empty) h = rw (+ℤ_idr d) o
one_odd (digit e o (blank f l s)) h = absurd (omega arith)
one_odd (digit e o (digit f p s)) h = absurd (omega arith)

module _ (w : ℕ) (wide : 2 ≤ w) (z : ℤ) where
  pub single_form : OddDigit w z → naf w z ≡ z ∷ []
  unfolding value
  single_form o = sym (naf_only w (z ∷ []) wide (form_of_spaced w (z ∷ []) (digit refl o empty)) ∙ ap (naf w) (+ℤ_idr z))

  pub single_length : length (naf w z) ≡ 1 ↔ OddDigit w z
  single_length = (λ h. rw (naf_value w z wide) at (one_odd (spaced_of_form w (naf w z) (naf_form w z wide)) h), λ o. ap length (single_form o))
