-- The non-adjacent form of width w of an integer, in an array: what the calls of a wide form share. No promise speaks of these.
use Rattle.std.specs.Prelude.{◌≡◌, cond, List, ℕ, ◌≤◌, eqb, ℤ, neg_ℤ, length, get_or}
use Rattle.signed_digits.specs.Naf.{naf}
use Rattle.digit_strings.specs.Places.{place_byte}

-- every byte is 0
abbrev pub Blank : List ℕ → Type 0
Blank l = (i : ℕ) → get_or l i 0 ≡ 0

-- an integer, or its opposite where the sign is not 0
abbrev pub turned : ℕ → ℤ → ℤ
turned sign z = cond (eqb sign 0) z (neg_ℤ z)

-- the n digits of the form of z stand in an array, one byte each, and zeros above them
pub record FormIn (w : ℕ) (z : ℤ) (digits : List ℕ) (n : ℕ) : Type 0 where
  pub count : n ≡ length (naf w z)
  pub within : n ≤ length digits
  pub digit : (i : ℕ) → get_or digits i 0 ≡ place_byte (naf w z) i
