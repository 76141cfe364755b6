-- The form in an array, as bytes. Assumes nothing.
use mathlib.Core.Path.{◌≡◌, sym, ◌∙◌}
use mathlib.Core.List.{List}
use Prim.Native.Nat.{ℕ}
use native.Mathlib.Omega.{arith}
use lib.IntN.{ℤ, pos}
use lib.ListN.{length, take, length-map, get_or-map}
use lib.Seq.{ext_get_or, get_or-take, length-take-le}
use Rattle.signed_digits.specs.Naf.{naf}
use Rattle.signed_digits.specs.Bytes.{digit_byte, digit_bytes}
use Rattle.digit_strings.specs.Places.{place_byte}
use Rattle.wide_digits.specs.Form.{FormIn}

pub form_bytes : (w : ℕ) (z : ℤ) (digits : List ℕ) (n : ℕ) → FormIn w z digits n → take n digits ≡ digit_bytes (naf w z)
unfolding place_byte
form_bytes w z digits n form =
    let long : length (take n digits) ≡ n = length-take-le n digits form.within in
    ext_get_or 0 (take n digits) (digit_bytes (naf w z)) (long ∙ form.count ∙ sym (length-map (naf w z) digit_byte))
    (λ i h. get_or-take n digits i 0 (omega arith) ∙ form.digit i ∙ sym (get_or-map digit_byte (naf w z) i (pos 0)))
