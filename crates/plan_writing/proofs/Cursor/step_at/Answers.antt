-- `plan_writing::Cursor::step_at` meets its contract. Assumes nothing.
use mathlib.Core.Path.{refl}
use Rattle.plan_writing.specs.Writing.{step_with}
use Rattle.plan_writing.proofs.Puts.{followed_writing}
use Rattle.plan_writing.proofs.Cursor.step_at.Goals as goal

pub returns : goal.returns
returns c =
    let args = c.args in
    (refl, λ lent b w. followed_writing lent args.out.now c.put.new.out args.self b (step_with args.operation b.latest args.p) w (rw w.latest at c.put.ensures))
