-- `step_values::sum_step` meets its contract. Assumes nothing.
use mathlib.Core.Path.{◌≡◌, sym, ◌∙◌}
use Prim.Native.Nat.{◌+◌}
use Rattle.integers.specs.Positional.{bytes_value, words_value}
use Rattle.records.specs.Recording.{size_bytes}
use native.Mathlib.Omega.{arith}
use Rattle.step_values.proofs.Outcomes.{sum_too_large, sum_stored}
use Rattle.step_values.proofs.sum_step.Goals.{After-sum-words}
use Rattle.step_values.proofs.sum_step.Goals as goal

-- the sum, the first size first
total : (c : After-sum-words) → let args = c.args in
    words_value c.sum-words.result ≡ bytes_value (size_bytes args.space.now (args.a + 1)) + bytes_value (size_bytes args.space.now (args.b + 1))
total c = omega (arith, c.sum-words.ensures)

pub returns-then-not-is_small : goal.returns-then-not-is_small
returns-then-not-is_small c s n names agree =
    rw names.next
    (sum_too_large s n c.args.space.now names.formed (omega (arith, names.next, c.requires.2)) (rw (names.first, names.second) at agree)
    (rw (total (goal.at.returns-then-not-is_small c).After-sum-words, names.first, names.second) at (sym c.is_small.ensures ∙ c.if-not-is_small.true)))

pub returns : goal.returns
returns c s n names agree =
    sum_stored s n c.args.space.now names.formed (omega (arith, names.next, c.requires.2)) (rw (names.first, names.second) at agree) c.store.new.space c.store.auto.space
    (rw (total (goal.at.returns c).After-sum-words, names.first, names.second) at (sym c.is_small.ensures ∙ c.if-not-is_small.false))
    (rw (total (goal.at.returns c).After-sum-words, names.first, names.second, names.next) at c.store.ensures)
    c.same_size.result (rw (names.first, names.second) at c.same_size.ensures)
