-- What makes a plan sound, for any list of steps: by the places of its steps, apart from the order in which a checker looks.
use Rattle.std.specs.Prelude.{◌≢◌, List, ℕ, suc, ◌<◌, ◌≤◌, ℤ, pos, nat_abs, length, get_or}
use Rattle.rules.specs.Limits.{value_bound}
use Rattle.chains.specs.Steps.{Step, add, subtracting}
use Rattle.chains.specs.Values.{at, values_of}

-- step i, for i = 1 to r, is the one with i - 1 steps before it
abbrev pub step_at : List Step → ℕ → Step
step_at steps n = get_or steps n (add 0 0)

-- the operation is known, and both positions are below the step's own
pub record WellFormed (i : ℕ) (s : Step) : Type 0 where
  pub operation : s.operation ≤ subtracting
  pub first : s.first < i
  pub second : s.second < i

-- not zero, which is the point at infinity, and of size below a limit
pub record RepresentableBelow (limit : ℕ) (z : ℤ) : Type 0 where
  pub nonzero : z ≢ pos 0
  pub small : nat_abs z < limit

-- a representable value: the limit is that of the rules
abbrev pub Representable : ℤ → Type 0
Representable z = RepresentableBelow value_bound z

-- Each step is well formed and gives such a value. Any limit will do, so that the laws of the methods are about numbers of any size.
pub record SoundBelow (limit : ℕ) (steps : List Step) : Type 0 where
  pub formed : (n : ℕ) → n < length steps → WellFormed (suc n) (step_at steps n)
  pub representable : (n : ℕ) → n < length steps → RepresentableBelow limit (at (values_of steps) (suc n))

-- a sound plan: the limit is that of the rules
abbrev pub Sound : List Step → Type 0
Sound steps = SoundBelow value_bound steps
