-- Integers in a buffer: a sign beside a size; and whether two are the same.
use Rattle.std.specs.Prelude.{ℕ, Bool, true, false, eqb, ℤ, pos, negsuc, neg_ℤ}

-- the sign: 0, or 1 below zero; zero has 0
abbrev pub sign_of : ℤ → ℕ
sign_of (pos n) = 0
sign_of (negsuc n) = 1

-- the integer of a size, below zero or not
abbrev pub signed : Bool → ℕ → ℤ
signed false n = pos n
signed true n = neg_ℤ (pos n)

-- two integers are the same
abbrev pub is_same : ℤ → ℤ → Bool
is_same (pos a) (pos b) = eqb a b
is_same (pos a) (negsuc b) = false
is_same (negsuc a) (pos b) = false
is_same (negsuc a) (negsuc b) = eqb a b
