-- Digits that are bytes, and their steps. Assumes nothing.
use mathlib.Core.Path.{◌≡◌, sym, ap, ◌∙◌}
use mathlib.Core.List.{List}
use Prim.Native.Nat.{ℕ, zero, suc, ◌+◌, ◌-◌, ◌<◌, ◌≤◌}
use native.Mathlib.Omega.{arith}
use lib.IntN.{ℤ, pos, negsuc, nat_abs}
use lib.ListN.{length, get_or, take, drop, length-drop, length-map, get_or-map}
use lib.Seq.{length-take-le, get_or-take, get_or-drop, ext_get_or}
use Rattle.signed_digits.specs.Strings.{digit_at}
use Rattle.signed_digits.specs.Form.{SignedBits}
use Rattle.signed_digits.specs.Bytes.{byte_digit, string_of}
use Rattle.digit_strings.specs.Places.{place_byte}
use Rattle.digit_strings.proofs.Bytes.{back}
use Rattle.methods.specs.PartialPlan.{PartialPlan}
use Rattle.methods.specs.OddMultiples.{odd_position}
use Rattle.methods.specs.DigitSteps.{at_digit}
use Rattle.methods.specs.Forecast.{is_plus, is_minus}
use Rattle.methods.proofs.DigitSteps.{length_at_digit}

pub digit_of : (bytes : List ℕ) (i : ℕ) → byte_digit (get_or bytes i 0) ≡ digit_at (string_of bytes) i
digit_of bytes i = sym (get_or-map byte_digit bytes i 0)

-- a string stands one place up in an array if the bytes of its places do
pub raised : (ds : List ℤ) (bytes : List ℕ) (n : ℕ) → n ≡ length ds → n < length bytes → SignedBits ds → ((i : ℕ) → i < n → get_or bytes (i + 1) 0 ≡ place_byte ds i) → string_of (take (n + 1 - 1) (drop 1 bytes)) ≡ ds
unfolding place_byte
raised ds bytes n e h bits at =
    let m : n + 1 - 1 ≡ n = omega arith in
    let part : List ℕ = take n (drop 1 bytes) in
    let long : length (string_of part) ≡ n = length-map part byte_digit ∙ length-take-le n (drop 1 bytes) (omega (arith, length-drop 1 bytes)) in
    rw m (ext_get_or (pos 0) (string_of part) ds (long ∙ e) (λ i l.
    let below : i < n = omega (arith, long) in
    let s : 1 + i ≡ i + 1 = omega arith in
    sym (digit_of part i) ∙ ap byte_digit (get_or-take n (drop 1 bytes) i 0 below ∙ get_or-drop 1 bytes i 0 ∙ ap (λ (k : ℕ). get_or bytes k 0) s ∙ at i below) ∙ (back (digit_at ds i) (omega (arith, bits i))).1))

-- 1 stands at position 0
pub at_one : (d : ℤ) → nat_abs d ≤ 1 → is_plus d + is_minus d ≡ 1 → 0 ≡ odd_position (nat_abs d)
at_one (pos zero) small some = absurd (omega arith)
at_one (pos (suc zero)) small some = omega arith
at_one (pos (suc (suc n))) small some = absurd (omega arith)
at_one (negsuc zero) small some = omega arith
at_one (negsuc (suc n)) small some = absurd (omega arith)

-- the steps of the digit at a place
abbrev pub at_place : List ℤ → ℕ → PartialPlan → PartialPlan
at_place ds i b = at_digit (digit_at ds i) b

pub place_grows : (ds : List ℤ) (i : ℕ) (b : PartialPlan) → length b.steps ≤ length (at_place ds i b).steps
place_grows ds i b = omega (arith, length_at_digit (digit_at ds i) b)
