-- A step as people write it: the word add(J,K) or subtract(J,K), with decimal positions J and K.
use Rattle.std.specs.Prelude.{ℕ, ◌+◌, ◌^◌, Bool, true, false, cond, List, [], ◌∷◌, eqb, ltb, length, get_or, take, drop, Option, Some, None}
use Rattle.chains.specs.Steps.{Step, adding, subtracting}
use Rattle.decimal.specs.Decimal.{leading, decimal_value}
use Rattle.step_reading.specs.declared.Step.{Step as StepFields}
use Rattle.step_reading.specs.Fields.{as_step}

-- what is no step: an operation that no step has
abbrev pub no_step : Step
no_step = record { operation = 2; first = 0; second = 0 }

-- the step that was read, if one was
abbrev pub step_or_none : Option StepFields → Step
step_or_none None = no_step
step_or_none (Some s) = as_step s

-- a position is a number of two bytes
abbrev pub position_limit : ℕ
position_limit = 2 ^ 16

-- how many digits a position has, at the start of a text and with this byte behind it; 0 where there is none
unfoldable pub position_digits : List ℕ → ℕ → ℕ
position_digits text end = cond (eqb (get_or text (leading text) 0) end) (cond (ltb (decimal_value (take (leading text) text)) position_limit) (leading text) 0) 0

-- the step of an operation and a first position, by the text behind it: the second one, a closing bracket, and nothing more
unfoldable pub step_behind : ℕ → ℕ → List ℕ → Step
step_behind operation first text =
    cond (eqb (position_digits text 41) 0) no_step
    (cond (eqb (length text) (position_digits text 41 + 1))
    record { operation = operation; first = first; second = decimal_value (take (position_digits text 41) text) }
    no_step)

-- the step of an operation, by the text of its positions: the first one, a comma, and what is behind it
unfoldable pub step_in : ℕ → List ℕ → Step
step_in operation text =
    cond (eqb (position_digits text 44) 0) no_step
    (step_behind operation (decimal_value (take (position_digits text 44) text)) (drop (position_digits text 44 + 1) text))

-- whether a word begins with a name
unfoldable pub begins : List ℕ → List ℕ → Bool
begins [] word = true
begins (c ∷ name) [] = false
begins (c ∷ name) (d ∷ word) = cond (eqb c d) (begins name word) false

-- add( and subtract(
abbrev pub add_name : List ℕ
add_name = 97 ∷ 100 ∷ 100 ∷ 40 ∷ []

abbrev pub subtract_name : List ℕ
subtract_name = 115 ∷ 117 ∷ 98 ∷ 116 ∷ 114 ∷ 97 ∷ 99 ∷ 116 ∷ 40 ∷ []

-- the step that a word is
unfoldable pub word_step : List ℕ → Step
word_step word =
    cond (begins add_name word) (step_in adding (drop (length add_name) word))
    (cond (begins subtract_name word) (step_in subtracting (drop (length subtract_name) word)) no_step)
