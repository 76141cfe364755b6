-- The number of nonzero digits of a string.
use Rattle.std.specs.Prelude.{List, [], ◌∷◌, ℕ, zero, suc, ◌+◌, ℤ, pos, negsuc}

-- 1 for a digit other than 0
unfoldable pub nonzero : ℤ → ℕ
nonzero (pos zero) = 0
nonzero (pos (suc n)) = 1
nonzero (negsuc n) = 1

unfoldable pub nonzeros : List ℤ → ℕ
nonzeros [] = 0
nonzeros (d ∷ ds) = nonzero d + nonzeros ds
