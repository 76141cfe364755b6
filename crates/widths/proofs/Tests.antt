-- Each verdict on a width with what it is given for, and no other. Assumes nothing.
use Rattle.rules.specs.declared.Refusal.{Refusal}
use Rattle.std.specs.Prelude.{Result, Ok, Err}
use mathlib.Core.Path.{◌≡◌, refl}
use mathlib.Core.Logic.{◌↔◌}
use mathlib.Core.Bool.{or-true}
use mathlib.Core.List.{List}
use Prim.Native.Nat.{ℕ, ◌<◌, ◌≤◌}
use borrow.Author.Tests.{lt-ltb, le-ltb}
use native.Mathlib.Decide.{dec_lt}
use native.Mathlib.Omega.{arith}
use Rattle.rules.specs.Limits.{least_width, largest_width}
use Rattle.rules.specs.declared.Refusal.TheVariants.{MethodOrWidth}
use Rattle.digit_strings.specs.Admission.{string_verdict}
use Rattle.widths.specs.Width.{AllowedWidth, width_verdict, wide_verdict}

module _ (w : ℕ) where
  pub data WidthTest : Result Unit Refusal → Type 0 where
    not_allowed : ¬ AllowedWidth w → WidthTest (Err MethodOrWidth)
    allowed : AllowedWidth w → WidthTest (Ok tt)

  pub too_narrow : w < least_width → width_verdict w ≡ Err MethodOrWidth
  unfolding width_verdict
  too_narrow h = rw (lt-ltb w least_width h)

  pub too_wide : largest_width < w → width_verdict w ≡ Err MethodOrWidth
  unfolding width_verdict
  too_wide h = rw (lt-ltb largest_width w h, or-true)

  pub in_limits : least_width ≤ w → w ≤ largest_width → width_verdict w ≡ Ok tt
  unfolding width_verdict
  in_limits h k = rw (le-ltb w least_width h, le-ltb largest_width w k)

  passes : AllowedWidth w → width_verdict w ≡ Ok tt
  passes a = in_limits a.least a.most

  pub width_test : WidthTest (width_verdict w)
  width_test = go (dec_lt w least_width) (dec_lt largest_width w)
    where
      go : Dec (w < least_width) → Dec (largest_width < w) → WidthTest (width_verdict w)
      go (yes h) _ = rw (too_narrow h) (not_allowed (λ a. omega (arith, a.least)))
      go (no h) (yes k) = rw (too_wide k) (not_allowed (λ a. omega (arith, a.most)))
      go (no h) (no k) = let a : AllowedWidth w = record { least = omega arith; most = omega arith } in rw (passes a) (allowed a)

  -- a width is let in just where it is allowed
  pub allowed_is : width_verdict w ≡ Ok tt ↔ AllowedWidth w
  allowed_is = (λ e. elim (rw e at width_test) [ allowed a ↦ a ], passes)

  -- and refused just where it is not
  pub not_allowed_is : width_verdict w ≡ Err MethodOrWidth ↔ ¬ AllowedWidth w
  not_allowed_is = (λ e. elim (rw e at width_test) [ not_allowed n ↦ n ], λ n. go n width_test)
    where
      go : {v : Result Unit Refusal} → ¬ AllowedWidth w → WidthTest v → v ≡ Err MethodOrWidth
      go n (not_allowed _) = refl
      go n (allowed a) = absurd (n a)

  -- refusal 3 comes before all else, whatever the string
  pub width_first : ¬ AllowedWidth w → (string : List ℕ) → wide_verdict w string ≡ Err MethodOrWidth
  width_first n string = rw (not_allowed_is.1 n)

  -- past it the tests are those of the digit string
  pub wide_tests : AllowedWidth w → (string : List ℕ) → wide_verdict w string ≡ string_verdict w string
  wide_tests a string = rw (passes a)
