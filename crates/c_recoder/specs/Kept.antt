-- A recoder in words that the caller keeps: the number that it stands for, whatever they hold, and what start and take do to it.
use Rattle.std.specs.Prelude.{ℕ, ◌+◌, ◌≡◌, cond, not, List, [], ◌∷◌, eqb, take, get_or, Option, Some, None}
use mir.Val.{bool_byte}
use Rattle.rules.specs.Limits.{number_words}
use Rattle.rules.specs.Outcome.{Outcome, answered, done}
use Rattle.integers.specs.Positional.{words_value}
use Rattle.taking.specs.Take.{take_answer, take_leaves}

-- the number: that of the first words, least significant first, plus one where it carries, which is where the last word is not 0
unfoldable pub kept_number : List ℕ → ℕ
kept_number kept = words_value (take number_words kept) + bool_byte (not (eqb (get_or kept number_words 0) 0))

-- the answer of a take as C takes it: the digit's byte, or a number above all bytes
abbrev pub done_number : ℕ
done_number = 256

abbrev pub taken_number : Option ℕ → ℕ
taken_number (Some d) = d
taken_number None = done_number

-- the same number as an outcome
abbrev pub taken_outcome : ℕ → Outcome
taken_outcome n = cond (eqb n done_number) done (answered (n ∷ []))

-- A take of a kept recoder: the answer and the number left go by the number that it stood for, and done leaves every word unchanged.
pub record IsKeptTake (before after : List ℕ) (r : ℕ) : Type 0 where
  pub answer : r ≡ taken_number (take_answer (kept_number before))
  pub next : kept_number after ≡ take_leaves (kept_number before)
  pub done : kept_number before ≡ 0 → after ≡ before
