-- The modified form of a number (docs/RULES.md, 2.13): the canonical string, except that leading digits 1 0 -1 become 1 1.
-- Strings are least significant first, so the leading digits stand last.
use Rattle.std.specs.Prelude.{Bool, ◌&&◌, cond, List, [], ◌∷◌, ◌++◌, ℕ, ◌-◌, eqb, ℤ, pos, negsuc, nat_abs, ◌-ℤ◌, length, take}
use Rattle.signed_digits.specs.Strings.{digit_at}
use Rattle.signed_digits.specs.Naf.{canonical}

-- the most significant digit; 0 where there is none
abbrev pub top_digit : List ℤ → ℤ
top_digit ds = digit_at ds (length ds - 1)

-- whether a digit is d
abbrev pub is_digit : ℤ → ℤ → Bool
is_digit d a = eqb (nat_abs (a -ℤ d)) 0

-- whether the leading digits are 1 0 -1. In a string of fewer digits the last two of these would be one digit.
unfoldable pub leads : List ℤ → Bool
leads ds =
    is_digit (pos 1) (digit_at ds (length ds - 1))
    && is_digit (pos 0) (digit_at ds (length ds - 2))
    && is_digit (negsuc 0) (digit_at ds (length ds - 3))

-- these three as 1 1: the same value with one digit fewer
unfoldable pub shortened : List ℤ → List ℤ
shortened ds = cond (leads ds) (take (length ds - 3) ds ++ (pos 1 ∷ pos 1 ∷ [])) ds

-- zero has no digits in this form either
unfoldable pub modified : ℕ → List ℤ
modified n = shortened (canonical (pos n))

-- how many digits fewer than the canonical string it has
abbrev pub saved : ℕ → ℕ
saved n = cond (leads (canonical (pos n))) 1 0
