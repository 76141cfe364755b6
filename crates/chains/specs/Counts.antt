-- The counts of a plan, by the values that its steps take: an add step of equal values and a subtract step of opposite ones are doublings, whatever
-- their positions are; any other add step is an addition, any other subtract step a subtraction.
use Rattle.std.specs.Prelude.{ℕ, ◌+◌, ◌<◌, ◌≡◌, ◌≢◌, Bool, cond, List, [], ◌∷◌, eqb, ℤ, neg_ℤ, length}
use Rattle.rules.specs.declared.Counts.{Counts}
use Rattle.integers.specs.Signed.{is_same}
use Rattle.chains.specs.Steps.{Step, adding}
use Rattle.chains.specs.Values.{at, values_of}
use Rattle.chains.specs.Sound.{step_at}

abbrev pub counts : ℕ → ℕ → ℕ → Counts
counts d a s = record { doublings = d; additions = a; subtractions = s }

-- a step adds equal values, or subtracts opposite ones
unfoldable pub is_doubling : List ℤ → Step → Bool
is_doubling values s =
    cond (eqb s.operation adding)
    (is_same (at values s.first) (at values s.second))
    (is_same (at values s.first) (neg_ℤ (at values s.second)))

-- the counts of one step, by whether it is a doubling
abbrev pub one_step : Bool → Step → Counts
one_step doubling s = cond doubling (counts 1 0 0) (cond (eqb s.operation adding) (counts 0 1 0) (counts 0 0 1))

abbrev pub step_counts : List ℤ → Step → Counts
step_counts values s = one_step (is_doubling values s) s

abbrev pub plus : Counts → Counts → Counts
plus c d = counts (c.doublings + d.doublings) (c.additions + d.additions) (c.subtractions + d.subtractions)

-- how many steps are counted
abbrev pub total : Counts → ℕ
total c = c.doublings + c.additions + c.subtractions

-- all steps, with the counts f of each
unfoldable pub sum_counts : (Step → Counts) → List Step → Counts
sum_counts f [] = counts 0 0 0
sum_counts f (s ∷ steps) = plus (f s) (sum_counts f steps)

unfoldable pub counts_of : List Step → Counts
counts_of steps = sum_counts (step_counts (values_of steps)) steps

-- A hidden doubling (source document 000) is one at two different positions. A step hides none if values at different positions that it adds are
-- different, and values that it subtracts are not opposite.
pub record HidesNone (values : List ℤ) (s : Step) : Type 0 where
  pub sums : s.operation ≡ adding → s.first ≢ s.second → at values s.first ≢ at values s.second
  pub differences : s.operation ≢ adding → at values s.first ≢ neg_ℤ (at values s.second)

-- no step of a plan is a hidden doubling
abbrev pub NoHiddenDoubling : List Step → Type 0
NoHiddenDoubling steps = (n : ℕ) → n < length steps → HidesNone (values_of steps) (step_at steps n)
