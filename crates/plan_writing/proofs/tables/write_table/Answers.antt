-- `plan_writing::tables::write_table` meets its contract: i steps are written. Assumes nothing.
use mathlib.Core.Path.{◌≡◌, refl}
use native.Mathlib.Numerals.{add-one}
use native.Mathlib.Omega.{arith}
use Rattle.methods.specs.Tables.{table_by, second_of}
use Rattle.methods.proofs.Tables.{tabled, table_next}
use Rattle.plan_writing.proofs.Underway.{nothing_written}
use borrow.Author.Rules.{rules}
use Rattle.plan_writing.proofs.tables.write_table.Goals as goal

pub loop-i-init : goal.loop-i-init
unfolding table_by
loop-i-init c =
    let args = c.args in
    (search rules, refl, c.first-c.ensures.0, nothing_written args.out.now c.first-c.result c.first-c.ensures.0 c.first-c.ensures.1)

pub loop-i-preserved : goal.loop-i-preserved
loop-i-preserved c =
    let args = c.args in
    (search rules, search rules, omega (arith, c.add_at-c.ensures.0, c.loop-i.invariant.2), rw (add-one, table_next (second_of args.later) c.loop-i.i, ← c.second.ensures) (c.add_at-c.ensures.1 args.out.now (tabled (second_of args.later) c.loop-i.i c.loop-i.i) c.loop-i.invariant.3))

pub returns : goal.returns
returns c =
    let e : c.loop-i.i ≡ c.args.n = omega arith in
    rw (← e) c.loop-i.invariant.3
