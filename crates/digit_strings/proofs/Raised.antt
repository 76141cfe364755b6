-- A digit by its raised byte. Assumes nothing.
use mathlib.Core.Path.{◌≡◌}
use mathlib.Core.Logic.{◌⊎◌, inl, inr}
use mathlib.Core.Bool.{true}
use Prim.Native.Nat.{ℕ, ◌+◌, ◌*◌, ◌<◌, ◌≤◌}
use borrow.Author.Tests.{lt-ltb, le-ltb}
use native.Mathlib.Decide.{dec_lt}
use native.Mathlib.Omega.{arith}
use Rattle.rules.specs.Limits.{largest_width}
use Rattle.signed_digits.specs.Bytes.{byte_digit}
use Rattle.signed_digits.proofs.Parts.{positive_part, negative_part}
use Rattle.digit_strings.specs.Admission.{largest_digit, is_digit}
use Rattle.digit_strings.specs.Raised.{raised}
use Rattle.digit_strings.proofs.Digits.{OddUpTo, up_to_is, bound_fits}

pub raised_is : (w b : ℕ) → w ≤ largest_width → is_digit w b ≡ true
    → (positive_part (byte_digit b) + largest_digit w ≡ raised w b + negative_part (byte_digit b)) × (raised w b ≤ 2 * largest_digit w)
raised_is w b h e = go ((up_to_is (largest_digit w) b).0 e).1 (dec_lt b 128)
  where
    go : (b ≡ 0) ⊎ OddUpTo (largest_digit w) b → Dec (b < 128)
        → (positive_part (byte_digit b) + largest_digit w ≡ raised w b + negative_part (byte_digit b)) × (raised w b ≤ 2 * largest_digit w)
    go (inl z) d = rw z (omega (arith, bound_fits w h))
    go (inr o) (yes l) = let p = rw (lt-ltb b 128 l) at o in rw (lt-ltb b 128 l) (omega (arith, bound_fits w h))
    go (inr o) (no l) =
        let below = ((up_to_is (largest_digit w) b).0 e).0 in
        let p = rw (le-ltb b 128 (omega arith)) at o in
        rw (le-ltb b 128 (omega arith)) (omega (arith, bound_fits w h))
