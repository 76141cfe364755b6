-- `checking::check` meets its contract: n steps are checked and counted. Assumes nothing.
use Rattle.std.specs.Prelude.{Ok, Err}
use mathlib.Core.Path.{◌≡◌, ap, ◌∙◌}
use mathlib.Core.Bool.{cond, ◌||◌}
use Prim.Native.Nat.{◌+◌, ◌/◌, ◌≤◌}
use native.Mathlib.Omega.{arith}
use lib.Dec.{eqb}
use Rattle.chains.specs.Steps.{subtracting}
use lib.ListN.{length}
use mir.Val.{bool_byte}
use Rattle.std.proofs.lemmas.Grind.{common_steps}
use Rattle.rules.specs.Limits.{step_bytes}
use Rattle.rules.specs.declared.Refusal.TheVariants.{WrongEnd}
use Rattle.step_reading.specs.Fields.{as_step}
use Rattle.check_admission.specs.Admission.{room_for, admission}
use Rattle.check_admission.proofs.Admission.{Checkable, checkable_is}
use Rattle.checking.proofs.Underway.{Done, done_answer, done_space}
use Rattle.checking.proofs.Turn.{turn_none, turn_few, turn_refused, turn_counted, turn_more, turn_few_counts, turn_done, turn_accepted}
use Rattle.checking.proofs.check.Goals.{In_ok-number, At-loop-n, In_err-doubling, In_ok-doubling, After-loop-n, After-ends_at}
use Rattle.checking.proofs.check.Goals as goal

-- past refusals 1, 13, 2, 7 and 8
passed : (c : In_ok-number) → let args = c.args in admission args.number.now (length args.plan.now) (length args.space.now) ≡ Ok tt
passed c = c.in_ok-number.ensures.0

admitted : (c : In_ok-number) → let args = c.args in Checkable args.number.now (length args.plan.now) (length args.space.now)
admitted c = (checkable_is _ _ _).0 (passed c)

pub begin-requires : goal.begin-requires
begin-requires c = omega (arith, (admitted (goal.at.begin-requires c).In_ok-number).fits)

pub loop-n-init : goal.loop-n-init
loop-n-init c = turn_none c.args.plan.now c.begin.new.space

-- at each turn: what was lent keeps its length, which is enough
room : (c : At-loop-n) → room_for (length c.args.plan.now) ≤ length c.loop-n.space
room c = rw (c.loop-n.auto.space, c.begin.auto.space) (admitted (goal.at.At-loop-n c).In_ok-number).fits

pub check_step-requires : goal.check_step-requires
check_step-requires c = omega (arith, room (goal.at.check_step-requires c).At-loop-n)

refused : (c : In_err-doubling) → let args = c.args in Done args.number.now args.plan.now args.space.now c.check_step.new.space (Err c.in_err-doubling.field-0.0)
refused c =
    let args = c.args in
    turn_refused args.number.now args.plan.now c.begin.new.space c.loop-n.space args.space.now c.loop-n.n _ _ _ c.loop-n.invariant c.begin.ensures (omega arith) (as_step c.read_step-step.result) c.read_step-step.ensures c.check_step.result c.check_step.new.space c.check_step.ensures c.in_err-doubling.was

pub returns-in_err-doubling-clause-answer : goal.returns-in_err-doubling-clause-answer
returns-in_err-doubling-clause-answer c =
    let e : c.from_residual-in_err-doubling.result ≡ Err c.in_err-doubling.field-0.0 = grind (arith, common_steps) in
    e ∙ done_answer (passed (goal.at.returns-in_err-doubling-clause-answer c).In_ok-number) (refused (goal.at.returns-in_err-doubling-clause-answer c).In_err-doubling)

pub returns-in_err-doubling-clause-space : goal.returns-in_err-doubling-clause-space
returns-in_err-doubling-clause-space c = done_space (passed (goal.at.returns-in_err-doubling-clause-space c).In_ok-number) (refused (goal.at.returns-in_err-doubling-clause-space c).In_err-doubling)

-- a step that passes is counted
counted : (c : In_ok-doubling)
    → (c.loop-n.doublings + bool_byte c.in_ok-doubling.doubling ≤ c.loop-n.n + 1) × (c.loop-n.not_additions + bool_byte (c.in_ok-doubling.doubling || eqb c.read_step-step.result.operation subtracting) ≤ c.loop-n.n + 1)
counted c =
    let args = c.args in
    turn_counted args.number.now args.plan.now c.begin.new.space c.loop-n.space args.space.now c.loop-n.n _ _ _ c.loop-n.invariant c.begin.ensures (omega arith) (as_step c.read_step-step.result) c.read_step-step.ensures c.check_step.result c.check_step.new.space c.check_step.ensures c.in_ok-doubling.was

pub overflow_add-doublings : goal.overflow_add-doublings
overflow_add-doublings c = rw c.from-doublings.ensures (omega (arith, counted (goal.at.overflow_add-doublings c).In_ok-doubling))

pub overflow_add-not_additions : goal.overflow_add-not_additions
overflow_add-not_additions c = rw c.from-not_additions.ensures (omega (arith, counted (goal.at.overflow_add-not_additions c).In_ok-doubling))

pub grown_bits-largest_bits-requires : goal.grown_bits-largest_bits-requires
grown_bits-largest_bits-requires c =
    let args = c.args in
    record {
      record_bytes_in_bounds = omega (arith, room (goal.at.grown_bits-largest_bits-requires c).At-loop-n, c.check_step.auto.space);
      bits_bound = omega (arith, turn_few args.number.now args.plan.now c.begin.new.space c.loop-n.space args.space.now c.loop-n.n _ _ _ c.loop-n.invariant c.begin.ensures);
    }

pub loop-n-preserved : goal.loop-n-preserved
loop-n-preserved c =
    let args = c.args in
    rw (c.from-doublings.ensures, c.from-not_additions.ensures)
    (turn_more args.number.now args.plan.now c.begin.new.space c.loop-n.space args.space.now c.loop-n.n _ _ _ c.loop-n.invariant c.begin.ensures (omega arith) (as_step c.read_step-step.result) c.read_step-step.ensures c.check_step.result c.check_step.new.space c.check_step.ensures c.in_ok-doubling.was c.grown_bits-largest_bits.result c.grown_bits-largest_bits.ensures)

pub ends_at-requires : goal.ends_at-requires
ends_at-requires c = omega (arith, room (goal.at.ends_at-requires c).At-loop-n)

-- the verdict after the last step
ended : (c : After-ends_at)
    → let args = c.args in
    Done args.number.now args.plan.now args.space.now c.loop-n.space (cond c.ends_at.result (Ok tt) (Err (WrongEnd (length args.plan.now / step_bytes))))
ended c =
    let args = c.args in
    turn_done args.number.now args.plan.now c.begin.new.space c.loop-n.space args.space.now c.loop-n.n _ _ _ c.loop-n.invariant c.begin.ensures (omega arith) (rw c.in_ok-number.ensures.1 at c.ends_at.ensures)

pub returns-then-not-ends_at-clause-answer : goal.returns-then-not-ends_at-clause-answer
returns-then-not-ends_at-clause-answer c =
    done_answer (passed (goal.at.returns-then-not-ends_at-clause-answer c).In_ok-number) (rw c.if-not-ends_at.true at (ended (goal.at.returns-then-not-ends_at-clause-answer c).After-ends_at))

pub returns-then-not-ends_at-clause-space : goal.returns-then-not-ends_at-clause-space
returns-then-not-ends_at-clause-space c = done_space (passed (goal.at.returns-then-not-ends_at-clause-space c).In_ok-number) (ended (goal.at.returns-then-not-ends_at-clause-space c).After-ends_at)

-- no count is below zero
few : (c : After-loop-n) → (c.loop-n.doublings ≤ c.loop-n.not_additions) × (c.loop-n.not_additions ≤ length c.args.plan.now / step_bytes)
few c =
    let args = c.args in
    turn_few_counts args.number.now args.plan.now c.begin.new.space c.loop-n.space args.space.now c.loop-n.n _ _ _ c.loop-n.invariant c.begin.ensures (omega arith)

pub overflow_sub-additions : goal.overflow_sub-additions
overflow_sub-additions c = omega (arith, few (goal.at.overflow_sub-additions c).After-loop-n)

pub overflow_sub-subtractions : goal.overflow_sub-subtractions
overflow_sub-subtractions c = omega (arith, few (goal.at.overflow_sub-subtractions c).After-loop-n)

pub returns-clause-answer : goal.returns-clause-answer
returns-clause-answer c =
    let args = c.args in
    ap Ok (turn_accepted args.number.now args.plan.now c.begin.new.space c.loop-n.space args.space.now c.loop-n.n _ _ _ c.loop-n.invariant c.begin.ensures (omega arith))
    ∙ done_answer (passed (goal.at.returns-clause-answer c).In_ok-number) (rw c.if-not-ends_at.false at (ended (goal.at.returns-clause-answer c).After-ends_at))

pub returns-clause-space : goal.returns-clause-space
returns-clause-space c = done_space (passed (goal.at.returns-clause-space c).In_ok-number) (ended (goal.at.returns-clause-space c).After-ends_at)
