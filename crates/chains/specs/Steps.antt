-- A step and its bytes (docs/RULES.md, 3.3): an operation byte, then positions j and k, two bytes each, least significant first.
use Rattle.std.specs.Prelude.{ℕ, zero, suc, ◌/◌, ◌%◌, List, [], ◌∷◌, ◌++◌, length, get_or, take, drop}
use Rattle.rules.specs.Limits.{step_bytes}
use Rattle.integers.specs.Positional.{bytes_value}

pub record Step : Type 0 where
  pub operation : ℕ
  pub first : ℕ
  pub second : ℕ

-- the operations
abbrev pub adding : ℕ
adding = 0

abbrev pub subtracting : ℕ
subtracting = 1

abbrev pub add : ℕ → ℕ → Step
add j k = record { operation = adding; first = j; second = k }

abbrev pub subtract : ℕ → ℕ → Step
subtract j k = record { operation = subtracting; first = j; second = k }

-- the step whose bytes stand at the start of a list
unfoldable pub read_step : List ℕ → Step
read_step bytes = record { operation = get_or bytes 0 0; first = bytes_value (take 2 (drop 1 bytes)); second = bytes_value (take 2 (drop 3 bytes)) }

-- the first r steps of a plan's bytes
unfoldable pub read_steps : ℕ → List ℕ → List Step
read_steps zero bytes = []
read_steps (suc r) bytes = read_step bytes ∷ read_steps r (drop step_bytes bytes)

-- all steps of a plan: as many as its bytes make
unfoldable pub steps_of : List ℕ → List Step
steps_of plan = read_steps (length plan / step_bytes) plan

-- the bytes of a step, and of a plan
unfoldable pub step_bytes_of : Step → List ℕ
step_bytes_of s = s.operation ∷ s.first % 256 ∷ s.first / 256 % 256 ∷ s.second % 256 ∷ s.second / 256 % 256 ∷ []

unfoldable pub plan_bytes_of : List Step → List ℕ
plan_bytes_of [] = []
plan_bytes_of (s ∷ steps) = step_bytes_of s ++ plan_bytes_of steps
