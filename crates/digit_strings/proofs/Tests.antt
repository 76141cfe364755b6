-- Each verdict on a digit string with what it is given for, and no other. Assumes nothing.
use Rattle.rules.specs.declared.Refusal.{Refusal}
use Rattle.std.specs.Prelude.{Result, Ok, Err}
use mathlib.Core.Path.{◌≡◌, sym}
use mathlib.Core.Logic.{◌↔◌}
use mathlib.Core.List.{List}
use Prim.Native.Nat.{ℕ, ◌<◌, ◌≤◌}
use borrow.Author.Tests.{lt-ltb, le-ltb}
use native.Mathlib.Decide.{dec_lt}
use native.Mathlib.Omega.{arith}
use lib.ListN.{length}
use Rattle.rules.specs.Limits.{string_digits}
use Rattle.rules.specs.declared.Refusal.TheVariants.{NotADigit, StringTooLong}
use Rattle.digit_strings.specs.Admission.{first_bad, string_verdict, DigitString, LowestBad}
use Rattle.digit_strings.proofs.Scan.{bad_is, bad_only, all_digits, none_bad}

module _ (w : ℕ) (s : List ℕ) where
  pub data StringTest : Result Unit Refusal → Type 0 where
    too_long : string_digits < length s → StringTest (Err StringTooLong)
    bad_digit : {p : ℕ} → length s ≤ string_digits → LowestBad w s p → StringTest (Err (NotADigit p))
    digits : DigitString w s → StringTest (Ok tt)

  pub string_only : {v : Result Unit Refusal} → StringTest v → string_verdict w s ≡ v
  unfolding string_verdict
  string_only (too_long h) = rw (lt-ltb string_digits (length s) h)
  string_only (bad_digit h l) =
      let e = bad_only w s l in
      rw (le-ltb string_digits (length s) h, e, lt-ltb _ (length s) l.within)
  string_only (digits d) = rw (le-ltb string_digits (length s) d.within, le-ltb (first_bad w s) (length s) (none_bad w s d))

  pub string_test : StringTest (string_verdict w s)
  string_test = go (dec_lt string_digits (length s)) (dec_lt (first_bad w s) (length s))
    where
      go : Dec (string_digits < length s) → Dec (first_bad w s < length s) → StringTest (string_verdict w s)
      go (yes h) _ = let t = too_long h in rw (string_only t) t
      go (no h) (yes l) = let t = bad_digit (omega arith) (bad_is w s l) in rw (string_only t) t
      go (no h) (no l) = let t = digits (all_digits w s (omega arith) (omega arith)) in rw (string_only t) t

  pub digit_string_is : string_verdict w s ≡ Ok tt ↔ DigitString w s
  digit_string_is = (λ e. elim (rw e at string_test) [ digits d ↦ d ], λ d. string_only (digits d))

  -- ---- what the code's tests say of refusals 5 and 4

  pub verdict_too_long : string_digits < length s → Err StringTooLong ≡ string_verdict w s
  verdict_too_long h = sym (string_only (too_long h))

  pub verdict_bad_digit : (p : ℕ) → length s ≤ string_digits → p ≡ first_bad w s → p < length s → Err (NotADigit p) ≡ string_verdict w s
  verdict_bad_digit p h f l = sym (string_only (bad_digit h (rw (← f) at (bad_is w s (rw (← f) l)))))

  pub verdict_passed : length s ≤ string_digits → length s ≤ first_bad w s → Ok tt ≡ string_verdict w s
  verdict_passed h l = sym (string_only (digits (all_digits w s h l)))
