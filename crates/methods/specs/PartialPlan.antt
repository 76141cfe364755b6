-- A plan in the making: the steps so far, and the position called latest.
use Rattle.std.specs.Prelude.{ℕ, zero, suc, ◌+◌, List, [], ◌∷◌, ◌++◌, length}
use Rattle.chains.specs.Steps.{Step, add, subtract}

pub record PartialPlan : Type 0 where
  pub steps : List Step
  pub latest : ℕ

-- no steps: position 0, which holds 1, is the latest
abbrev pub none : PartialPlan
none = record { steps = []; latest = 0 }

-- one step more; latest is the position filled last, and step i fills position i
unfoldable pub followed : PartialPlan → Step → PartialPlan
followed b s = record { steps = b.steps ++ (s ∷ []); latest = length b.steps + 1 }

-- "double" means add(latest, latest)
abbrev pub double : PartialPlan → PartialPlan
double b = followed b (add b.latest b.latest)

-- add(latest, p) and subtract(latest, p)
abbrev pub add_at : ℕ → PartialPlan → PartialPlan
add_at p b = followed b (add b.latest p)

abbrev pub subtract_at : ℕ → PartialPlan → PartialPlan
subtract_at p b = followed b (subtract b.latest p)

-- n times
unfoldable pub doubled : ℕ → PartialPlan → PartialPlan
doubled zero b = b
doubled (suc n) b = doubled n (double b)

-- for i = n - 1 down to 0
unfoldable pub down_from : (ℕ → PartialPlan → PartialPlan) → ℕ → PartialPlan → PartialPlan
down_from f zero b = b
down_from f (suc i) b = down_from f i (f i b)
