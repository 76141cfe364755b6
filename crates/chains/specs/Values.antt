-- The values at the positions of a chain. A value below zero is a value, not an error.
use Rattle.std.specs.Prelude.{ℕ, cond, List, [], ◌∷◌, ◌++◌, eqb, ℤ, pos, ◌+ℤ◌, ◌-ℤ◌, length, get_or}
use Rattle.chains.specs.Steps.{Step, adding}

-- the value at a position, of the values from position 0 on
abbrev pub at : List ℤ → ℕ → ℤ
at values i = get_or values i (pos 0)

-- what a step gives: a(j) + a(k), or a(j) - a(k)
unfoldable pub step_value : List ℤ → Step → ℤ
step_value values s = cond (eqb s.operation adding) (at values s.first +ℤ at values s.second) (at values s.first -ℤ at values s.second)

-- step by step, each fills the next position
unfoldable pub extend : List ℤ → List Step → List ℤ
extend values [] = values
extend values (s ∷ steps) = extend (values ++ (step_value values s ∷ [])) steps

-- position 0 holds 1
abbrev pub start : List ℤ
start = pos 1 ∷ []

unfoldable pub values_of : List Step → List ℤ
values_of steps = extend start steps

-- the plan ends at the value of the last position, which has as many positions below it as there are steps
abbrev pub end_of : List Step → ℤ
end_of steps = at (values_of steps) (length steps)
