-- `step_checking::check_step` meets its contract. Assumes nothing.
use mathlib.Core.Path.{refl}
use Prim.Native.Nat.{◌+◌, ◌*◌}
use Rattle.rules.specs.Limits.{record_bytes}
use Rattle.step_reading.specs.Fields.{as_step}
use Rattle.step_values.specs.Verdicts.{is_well_formed, Names}
use Rattle.step_values.proofs.Tested.{well_formed_is}
use Rattle.step_values.proofs.Outcomes.{malformed_checked}
use Rattle.step_checking.proofs.check_step.Goals.{Else-not-well_formed}
use Rattle.step_checking.proofs.check_step.Goals as goal

pub returns-then-not-well_formed : goal.returns-then-not-well_formed
unfolding is_well_formed
returns-then-not-well_formed c =
    let args = c.args in
    let s = as_step args.step in
    malformed_checked s args.n args.space.now c.if-not-well_formed.true

-- past refusal 9
named : (c : Else-not-well_formed) → let args = c.args in Names (as_step args.step) args.n (record_bytes * args.step.first) (record_bytes * args.step.second) (args.n + 1)
unfolding is_well_formed
named c = record { formed = (well_formed_is _ _).0 (c.if-not-well_formed.false); first = refl; second = refl; next = refl }

pub returns-then-space-a : goal.returns-then-space-a
returns-then-space-a c =
    c.sum_step.ensures _ _ (named (goal.at.returns-then-space-a c).Else-not-well_formed) c.if-space-a.true

pub returns-else-space-a : goal.returns-else-space-a
returns-else-space-a c =
    c.difference_step.ensures _ _ (named (goal.at.returns-else-space-a c).Else-not-well_formed) c.if-space-a.false
