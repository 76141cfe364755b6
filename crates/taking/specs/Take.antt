-- Taking digits singly (docs/RULES.md, "Calls").
use Rattle.rules.specs.declared.Refusal.{Refusal}
use Rattle.std.specs.Prelude.{◌≡◌, List, [], ◌∷◌, ℕ, zero, suc, ◌+◌, pos, Result, Ok, Err, Option, Some, None}
use mir.Val.{bool_byte}
use Rattle.rules.specs.Outcome.{Outcome, answered, done, refusal, unless_failed, and_then}
use Rattle.integers.specs.Positional.{bytes_value, words_value}
use Rattle.numbers.specs.Admission.{number_verdict}
use Rattle.signed_digits.specs.Naf.{low_digit, rest, canonical, canonical_width}
use Rattle.signed_digits.specs.Bytes.{digit_byte, digit_bytes}
use Rattle.taking.specs.declared.Recoder.{Recoder}
use Rattle.taking.specs.declared.Started.{Started}

-- The number that a recoder stands for: the value of its words, plus one where it carries. Every recoder stands for one, also one put together by hand:
-- its digits to come are those of the canonical string of that number.
unfoldable pub stands_for : Recoder → ℕ
stands_for r = words_value r.words + bool_byte r.carry

-- the answer at the start, and the number that the recoder handed back stands for: zero after a refusal
abbrev pub start_answer : List ℕ → Result Unit Refusal
start_answer number = and_then (number_verdict number) (Ok tt)

abbrev pub start_number : List ℕ → ℕ
start_number number = unless_failed (λ _. 0) (number_verdict number) (bytes_value number)

-- what a take answers where the recoder stands for n: the lowest digit, or done where nothing is left
abbrev pub take_answer : ℕ → Option ℕ
take_answer zero = None
take_answer (suc n) = Some (digit_byte (low_digit canonical_width (suc n)))

-- what the recoder stands for after it
abbrev pub take_leaves : ℕ → ℕ
take_leaves zero = 0
take_leaves (suc n) = rest canonical_width (suc n)

-- What a recoder holds inside may differ from one correct program to another. What is fixed is the number that it stands for, and with it every take to
-- come (proofs/Takes.antt); and that done leaves the recoder itself unchanged.
pub record IsStart (number : List ℕ) (r : Started) : Type 0 where
  pub answer : r.answer ≡ start_answer number
  pub recoder : stands_for r.recoder ≡ start_number number

-- the recoder before a take and after it, and the answer
pub record IsTake (before after : Recoder) (r : Option ℕ) : Type 0 where
  pub answer : r ≡ take_answer (stands_for before)
  pub next : stands_for after ≡ take_leaves (stands_for before)
  pub done : stands_for before ≡ 0 → after ≡ before

-- the answers in the rules' numbers: ready has no values, a digit has its byte, and done is neither
abbrev pub start_outcome : Result Unit Refusal → Outcome
start_outcome (Ok tt) = answered []
start_outcome (Err r) = refusal r

abbrev pub take_outcome : Option ℕ → Outcome
take_outcome (Some d) = answered (d ∷ [])
take_outcome None = done

-- takes one after the other: the k-th, counted from 0, finds the recoder w k, leaves w (k + 1) and answers a k
abbrev pub Run : (ℕ → Recoder) → (ℕ → Option ℕ) → Type 0
Run w a = (k : ℕ) → IsTake (w k) (w (suc k)) (a k)

-- the outcome of the k-th take, by the bytes of a digit string: its digits, lowest first, then done
abbrev pub digit_outcome : List ℕ → ℕ → Outcome
digit_outcome [] k = done
digit_outcome (d ∷ ds) zero = answered (d ∷ [])
digit_outcome (d ∷ ds) (suc k) = digit_outcome ds k

-- the digits that a recoder stands for, in bytes
unfoldable pub digits_to_come : Recoder → List ℕ
digits_to_come r = digit_bytes (canonical (pos (stands_for r)))
