-- The tables of multiples that methods begin with.
use Rattle.std.specs.Prelude.{ℕ, zero, suc, List, [], ◌∷◌, ◌++◌}
use Rattle.rules.specs.declared.Counts.{Counts}
use Rattle.chains.specs.Steps.{Step, add}
use Rattle.chains.specs.Counts.{counts}

-- The first n steps of a table. Each adds to the position filled last what stands at another one: the step that fills position i + 1 is add(i, second i).
unfoldable pub table_by : (ℕ → ℕ) → ℕ → List Step
table_by second zero = []
table_by second (suc n) = table_by second n ++ (add n (second n) ∷ [])

-- their counts, where only the first one, add(0,0), is a doubling
unfoldable pub table_counts : ℕ → Counts
table_counts zero = counts 0 0 0
table_counts (suc n) = counts 1 n 0

-- position 0 in the first two steps, which make 2 and 3, and the same position in each later one
abbrev pub second_of : ℕ → ℕ → ℕ
second_of later zero = 0
second_of later (suc zero) = 0
second_of later (suc (suc i)) = later
