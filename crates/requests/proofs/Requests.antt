-- What a request comes to, and what for. Assumes nothing.
use Rattle.std.specs.Prelude.{Result, Ok, Err}
use mathlib.Core.Path.{◌≡◌, refl}
use mathlib.Core.Logic.{◌≢◌}
use mathlib.Core.List.{List}
use Prim.Native.Nat.{ℕ, zero, suc, ◌<◌, ◌≤◌}
use borrow.Author.Tests.{eq-eqb, ne_eqb}
use Rattle.rules.specs.declared.Refusal.{Refusal}
use Rattle.rules.specs.declared.Refusal.TheVariants.{MethodOrWidth}
use Rattle.rules.specs.Limits.{least_width, largest_width}
use Rattle.integers.specs.Positional.{bytes_value}
use Rattle.numbers.specs.Admission.{Positive, positive_verdict}
use Rattle.numbers.proofs.Tests.{PositiveTest, admitted, number_only, refused, is_zero, positive, positive_test}
use Rattle.methods.specs.declared.Method.{Method}
use Rattle.methods.specs.Method.{within, numbered, method_of, Allowed}
use Rattle.methods.specs.declared.Method.TheVariants.{Binary, FixedWindows, SlidingWindows, Naf, WideNaf, ModifiedNaf}
use Rattle.methods.specs.Widths.{fixed_window_bits, sliding_window_bits}
use Rattle.methods.proofs.Every.{within_only, allowed, too_narrow, too_wide, is_allowed}
use Rattle.requests.specs.Request.{request}

module _ (number : List ℕ) (method width : ℕ) where
  pub data Requests : Result Method Refusal → Type 0 where
    stopped : {r : Refusal} → PositiveTest number (Err r) → Requests (Err r)
    chosen : {c : Result Method Refusal} → Positive number → method_of method width ≡ c → Requests c

  pub requests_only : {c : Result Method Refusal} → Requests c → request number method width ≡ c
  unfolding request positive_verdict
  requests_only (stopped (refused t)) = rw (number_only number t)
  requests_only (stopped (is_zero a z)) = rw (number_only number (admitted a), eq-eqb (bytes_value number) 0 z)
  requests_only (chosen p e) = rw (number_only number (admitted p.admitted), ne_eqb (bytes_value number) 0 p.nonzero, e)

  pub requests_one : Requests (request number method width)
  requests_one = go (positive_verdict number) (positive_test number)
    where
      go : (v : Result Unit Refusal) → PositiveTest number v → Requests (request number method width)
      go (Err r) t = let s = stopped t in rw (requests_only s) s
      go (Ok tt) (positive p) = let s = chosen p refl in rw (requests_only s) s

  -- a method is granted for a number that is above zero, and is the one asked for
  pub granted : {m : Method} → request number method width ≡ Ok m → Positive number × (method_of method width ≡ Ok m)
  granted e = elim (rw e at requests_one) [ chosen p q ↦ (p, q) ]

  pub granted_allowed : {m : Method} → request number method width ≡ Ok m → Positive number × Allowed m
  granted_allowed e = let g = granted e in (g.0, is_allowed method width g.1)

-- ---- what the code's arms say: the method of each number, if it allows the width

module _ (method width : ℕ) where
  pub binary : method ≡ 1 → method_of method width ≡ within Binary width 0 0
  unfolding method_of numbered
  binary e = rw e

  pub fixed_windows : method ≡ 2 → method_of method width ≡ within (FixedWindows width) width 1 fixed_window_bits
  unfolding method_of numbered
  fixed_windows e = rw e

  pub sliding_windows : method ≡ 3 → method_of method width ≡ within (SlidingWindows width) width 1 sliding_window_bits
  unfolding method_of numbered
  sliding_windows e = rw e

  pub naf : method ≡ 4 → method_of method width ≡ within Naf width 0 0
  unfolding method_of numbered
  naf e = rw e

  pub wide_naf : method ≡ 5 → method_of method width ≡ within (WideNaf width) width least_width largest_width
  unfolding method_of numbered
  wide_naf e = rw e

  pub modified_naf : method ≡ 6 → method_of method width ≡ within ModifiedNaf width 0 0
  unfolding method_of numbered
  modified_naf e = rw e

-- no method has any other number
pub no_method : (method width : ℕ) → method ≢ 1 → method ≢ 2 → method ≢ 3 → method ≢ 4 → method ≢ 5 → method ≢ 6 → method_of method width ≡ Err MethodOrWidth
unfolding numbered method_of
no_method zero width one two three four five six = refl
no_method (suc zero) width one two three four five six = absurd (one refl)
no_method (suc (suc zero)) width one two three four five six = absurd (two refl)
no_method (suc (suc (suc zero))) width one two three four five six = absurd (three refl)
no_method (suc (suc (suc (suc zero)))) width one two three four five six = absurd (four refl)
no_method (suc (suc (suc (suc (suc zero))))) width one two three four five six = absurd (five refl)
no_method (suc (suc (suc (suc (suc (suc zero)))))) width one two three four five six = absurd (six refl)
no_method (suc (suc (suc (suc (suc (suc (suc n))))))) width one two three four five six = refl

module _ (method : Method) (width least most : ℕ) where
  pub width_allowed : least ≤ width → width ≤ most → within method width least most ≡ Ok method
  width_allowed l h = within_only method width least most (allowed refl l h)

  pub width_too_narrow : width < least → within method width least most ≡ Err MethodOrWidth
  width_too_narrow h = within_only method width least most (too_narrow refl h)

  pub width_too_wide : least ≤ width → most < width → within method width least most ≡ Err MethodOrWidth
  width_too_wide l h = within_only method width least most (too_wide refl l h)
