-- `integers::significant` meets its contract. Assumes nothing.
use Rattle.std.proofs.Common.{◌≡◌, ◌≢◌, ℕ, ◌+◌, ◌<◌, ◌≤◌, length, get_or, arith}
use native.Mathlib.Numerals.{unary_clauses}
use Rattle.std.proofs.lemmas.Grind.{common_steps}
use Rattle.integers.proofs.Positional.{zero_above}
use Rattle.integers.proofs.significant.Goals as goal

pub returns-in-Some : goal.returns-in-Some
returns-in-Some c =
    let number = c.args.number.now in
    let within : c.in-Some.top < length number = grind (arith, common_steps) in
    let zeros : (k : ℕ) → c.in-Some.top + 1 ≤ k → k < length number → get_or number k 0 ≡ 0 = λ k above below. grind (arith, common_steps) in
    let top : get_or number c.in-Some.top 0 ≢ 0 = λ z. grind (arith, common_steps) in
    record { within = omega arith; whole = zero_above number (c.in-Some.top + 1) zeros; top = λ h. simp unary_clauses top }

pub returns-in-None : goal.returns-in-None
returns-in-None c =
    let number = c.args.number.now in
    let zeros : (k : ℕ) → 0 ≤ k → k < length number → get_or number k 0 ≡ 0 = λ k above below. grind (arith, common_steps) in
    record { within = omega arith; whole = zero_above number 0 zeros; top = λ h. absurd (omega arith) }
