-- Method 2, fixed windows of d bits, cut from the low end.
use Rattle.std.specs.Prelude.{ℕ, zero, suc, ◌*◌, ◌-◌, ◌/◌, ◌%◌, ◌^◌, cond, List, ltb}
use Rattle.chains.specs.Steps.{Step}
use Rattle.methods.specs.PartialPlan.{PartialPlan, doubled, add_at, down_from}
use Rattle.methods.specs.Tables.{table_by}
use Rattle.integers.specs.Bits.{bit_length}

-- the steps add(i-1, 0) for i = 1 to n, so value v stands at position v-1
abbrev pub multiples : ℕ → List Step
multiples n = table_by (λ i. 0) n

-- the value of window i, and the place of the top window, the one that holds the top bit
abbrev pub window : ℕ → ℕ → ℕ → ℕ
window e d i = e / 2 ^ (d * i) % 2 ^ d

abbrev pub top_window : ℕ → ℕ → ℕ
top_window e d = (bit_length e - 1) / d

-- for each lower window: double d times; if its value v is not 0, add(latest, v-1)
abbrev pub at_fixed_window : ℕ → ℕ → PartialPlan → PartialPlan
at_fixed_window d zero b = doubled d b
at_fixed_window d (suc p) b = add_at p (doubled d b)

-- The table first: add(i-1, 0) for i = 1 to 2^d - 2. Latest then becomes the position of the value of the top window.
unfoldable pub window_steps : ℕ → ℕ → List Step
window_steps e d =
    (down_from (λ i b. at_fixed_window d (window e d i) b) (top_window e d)
    (record { steps = multiples (2 ^ d - 2); latest = window e d (top_window e d) - 1 })).steps

-- if the number is below 2^d: steps add(i-1, 0) for i = 1 to e-1, and no more
unfoldable pub fixed_window_steps : ℕ → ℕ → List Step
fixed_window_steps e d = cond (ltb e (2 ^ d)) (multiples (e - 1)) (window_steps e d)
