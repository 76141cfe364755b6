-- What a call comes to, in numbers: the definition through which every promise about an answer goes.
use Rattle.std.specs.Prelude.{ℕ, List, [], ◌∷◌, ◌++◌, Result, Ok, Err}
use Rattle.rules.specs.declared.Refusal.{Refusal}
use Rattle.rules.specs.declared.Counts.{Counts}
use Rattle.rules.specs.declared.Accepted.{Accepted}
use Rattle.rules.specs.Refusals.{refusal_number, refusal_place}

-- a refusal answers its number and place and nothing else; any other answer has values; a take after the last digit is done
pub data Outcome : Type 0 where
  refused : ℕ → ℕ → Outcome
  answered : List ℕ → Outcome
  done : Outcome

abbrev pub refusal : Refusal → Outcome
refusal r = refused (refusal_number r) (refusal_place r)

-- of an answer: its values, or its refusal
abbrev pub outcome_of : {A : Type 0} → (A → List ℕ) → Result A Refusal → Outcome
outcome_of values (Ok a) = answered (values a)
outcome_of values (Err r) = refusal r

-- of a call that writes: the length alone
abbrev pub length_value : ℕ → List ℕ
length_value n = n ∷ []

abbrev pub written_outcome : Result ℕ Refusal → Outcome
written_outcome w = outcome_of length_value w

-- the three counts: doublings, additions, subtractions
abbrev pub count_values : Counts → List ℕ
count_values c = c.doublings ∷ c.additions ∷ c.subtractions ∷ []

abbrev pub counted_outcome : Result Counts Refusal → Outcome
counted_outcome c = outcome_of count_values c

-- the three counts, and then how many bits the largest size has
abbrev pub checked_values : Accepted → List ℕ
checked_values a = count_values a.counts ++ (a.largest_bits ∷ [])

abbrev pub checked_outcome : Result Accepted Refusal → Outcome
checked_outcome a = outcome_of checked_values a

-- ---- tests before an answer

-- what a call comes to, unless a test before it failed
abbrev pub unless_failed : {A : Type 0} → (Refusal → A) → Result Unit Refusal → A → A
unless_failed refuse (Ok _) answer = answer
unless_failed refuse (Err r) answer = refuse r

-- one test after the other, and then the answer: the first test that fails decides
abbrev pub and_then : {A : Type 0} → Result Unit Refusal → Result A Refusal → Result A Refusal
and_then (Ok _) answer = answer
and_then (Err r) answer = Err r
