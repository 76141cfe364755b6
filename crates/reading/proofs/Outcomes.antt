-- What read back reads and writes: the significant digits, and the bytes of the size. Assumes nothing.
use mathlib.Core.Path.{◌≡◌, refl, ap, ◌∙◌}
use mathlib.Core.List.{List, [], ◌∷◌}
use Prim.Native.Nat.{ℕ, zero, suc}
use native.Mathlib.Omega.{arith}
use lib.IntN.{ℤ, pos, nat_abs, ◌+ℤ◌, ◌*ℤ◌}
use lib.ListN.{take, drop, length-take}
use Rattle.std.proofs.lemmas.List.{get_or-take}
use Rattle.integers.specs.Positional.{positional, bytes_value, bytes_of, Significant}
use Rattle.integers.proofs.Positional.{Below}
use Rattle.integers.proofs.Shortest.{bytes_significant}
use Rattle.signed_digits.specs.Strings.{value}
use Rattle.signed_digits.specs.Bytes.{byte_digit}
use Rattle.digit_strings.specs.Admission.{string_value, DigitString}
use Rattle.reading.specs.ReadBack.{size_bytes}

-- a front of a digit string is one
pub front_digits : (w : ℕ) (l : List ℕ) (n : ℕ) → DigitString w l → DigitString w (take n l)
front_digits w l n d =
    record {
      within = omega (arith, length-take n l, d.within);
      digits = λ i h. rw (get_or-take n l i 0 (omega (arith, length-take n l))) (d.digits i (omega (arith, length-take n l)));
    }

-- and has the value of the whole, where only zeros are left out
front_whole : (l : List ℕ) (n : ℕ) → bytes_value (drop n l) ≡ 0 → string_value (take n l) ≡ string_value l
unfolding positional value
front_whole [] zero z = refl
front_whole [] (suc n) z = refl
front_whole (x ∷ l) zero z =
    let e : x ≡ 0 = omega arith in
    let rest : pos 0 ≡ string_value l = front_whole l zero (omega arith) in
    rw (e, ← rest) refl
front_whole (x ∷ l) (suc n) z = ap (λ (v : ℤ). byte_digit x +ℤ pos 2 *ℤ v) (front_whole l n z)

pub front_value : (l : List ℕ) (n : ℕ) → Significant l n → string_value (take n l) ≡ string_value l
front_value l n s = front_whole l n s.whole

-- the bytes written are the n significant ones of a number that has the size
pub size_is : (digits size : List ℕ) (n : ℕ) → bytes_value size ≡ nat_abs (string_value digits) → Below 256 size → Significant size n
    → take n size ≡ size_bytes digits
unfolding size_bytes
size_is digits size n e b s = bytes_significant size n b s ∙ ap bytes_of e
