-- Output into a lent buffer: refusal 6, and the memory rule for calls that write an answer's bytes.
use Rattle.rules.specs.declared.Refusal.{Refusal}
use Rattle.std.specs.Prelude.{ℕ, cond, List, ◌++◌, ltb, length, drop, Result, Ok, Err}
use Rattle.rules.specs.declared.Refusal.TheVariants.{RoomTooSmall}
use Rattle.rules.specs.Outcome.{and_then}

-- the answer of a call that has these bytes to write and is lent this many: it needs more than lent, or it writes them all
unfoldable pub fitted : List ℕ → ℕ → Result ℕ Refusal
fitted bytes room = cond (ltb room (length bytes)) (Err (RoomTooSmall (length bytes))) (Ok (length bytes))

-- the same after the tests that come before: what every call that writes answers
abbrev pub written : Result Unit Refusal → List ℕ → ℕ → Result ℕ Refusal
written tests bytes room = and_then tests (fitted bytes room)

-- the buffer afterwards: a refusal changes nothing; on success only the answer's bytes change, and those above stay
abbrev pub leaves : Result ℕ Refusal → List ℕ → List ℕ → List ℕ
leaves (Ok n) bytes buffer = bytes ++ drop n buffer
leaves (Err r) bytes buffer = buffer

-- how many bytes were written; none by a refusal
abbrev pub length_written : Result ℕ Refusal → ℕ
length_written (Ok n) = n
length_written (Err r) = 0
