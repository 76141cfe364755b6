-- `step_values::difference_step` meets its contract. Assumes nothing.
use mathlib.Core.Path.{sym, ◌∙◌}
use native.Mathlib.Omega.{arith}
use Rattle.step_values.proofs.Outcomes.{apart_zero, apart_stored}
use Rattle.step_values.proofs.difference_step.Goals as goal

pub returns-then-is_zero : goal.returns-then-is_zero
returns-then-is_zero c s n names differ =
    rw names.next
    (apart_zero s n c.args.space.now names.formed (omega (arith, names.next, c.requires.2)) (rw (names.first, names.second) at differ)
    (rw (c.distance_between-apart.ensures.0, names.first, names.second) at (sym c.is_zero.ensures ∙ c.if-is_zero.true)))

pub returns : goal.returns
returns c s n names differ =
    apart_stored s n c.args.space.now names.formed (omega (arith, names.next, c.requires.2)) (rw (names.first, names.second) at differ) c.store.new.space
    (rw (c.distance_between-apart.ensures.0, names.first, names.second) at (sym c.is_zero.ensures ∙ c.if-is_zero.false))
    (rw (c.from.ensures, c.distance_between-apart.ensures.0, c.distance_between-apart.ensures.1, names.first, names.second, names.next) at c.store.ensures)
