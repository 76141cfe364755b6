-- The table of odd multiples: add(0,0), add(1,0), then add(i-1, 1) for i = 3 on. Odd v above 1 stands at position (v+1)/2, and 1 at position 0.
use Rattle.std.specs.Prelude.{ℕ, ◌+◌, ◌-◌, ◌/◌, ◌^◌, cond, List, ltb, eqb}
use Rattle.chains.specs.Steps.{Step}
use Rattle.methods.specs.Tables.{table_by, second_of}

abbrev pub odd_second : ℕ → ℕ
odd_second i = second_of 1 i

-- its first n steps
abbrev pub odd_table : ℕ → List Step
odd_table n = table_by odd_second n

abbrev pub odd_position : ℕ → ℕ
odd_position v = cond (eqb v 1) 0 ((v + 1) / 2)

-- the whole table for d of 2 or more goes to i = 2^(d-1); for d = 1 there is no table
abbrev pub table_length : ℕ → ℕ
table_length d = cond (ltb d 2) 0 (2 ^ (d - 1))
