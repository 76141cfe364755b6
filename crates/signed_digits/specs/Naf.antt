-- The non-adjacent form of width w of an integer, computed from the low end, digit by digit, as docs/RULES.md, 2.4, does for w = 2.
-- proofs/Exists.antt shows that it has the form and the value, proofs/Unique.antt that no other string has both.
use Rattle.std.specs.Prelude.{cond, List, [], ◌∷◌, map, ℕ, zero, suc, ◌-◌, ◌^◌, ◌%◌, ◌/◌, ltb, eqb, ℤ, pos, negsuc, neg_ℤ, nat_abs, ◌-ℤ◌}

-- the residue of n modulo 2 ^ w that is nearest to zero
unfoldable pub residue : ℕ → ℕ → ℤ
residue w n = cond (ltb (n % 2 ^ w) (2 ^ (w - 1))) (pos (n % 2 ^ w)) (neg_ℤ (pos (2 ^ w - n % 2 ^ w)))

-- the lowest digit of n: 0 where n is even
unfoldable pub low_digit : ℕ → ℕ → ℤ
low_digit w n = cond (eqb (n % 2) 0) (pos 0) (residue w n)

-- what is left of n once its lowest digit is taken off
unfoldable pub rest : ℕ → ℕ → ℕ
rest w n = nat_abs (pos n -ℤ low_digit w n) / 2

-- the digits of n, at most f of them; n itself is enough
unfoldable pub digits_of : ℕ → ℕ → ℕ → List ℤ
digits_of w zero n = []
digits_of w (suc f) zero = []
digits_of w (suc f) (suc n) = low_digit w (suc n) ∷ digits_of w f (rest w (suc n))

-- an integer below zero has the opposite digits of its size
unfoldable pub naf : ℕ → ℤ → List ℤ
naf w (pos n) = digits_of w n n
naf w (negsuc n) = map neg_ℤ (digits_of w (suc n) (suc n))

-- the canonical string of an integer: that of width 2, whose digits are 0, 1 and -1
abbrev pub canonical_width : ℕ
canonical_width = 2

abbrev pub canonical : ℤ → List ℤ
canonical z = naf canonical_width z
