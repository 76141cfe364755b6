-- `plan_writing::Cursor::double_times` meets its contract: this many doublings are written. Assumes nothing.
use mathlib.Core.Path.{◌≡◌, refl}
use native.Mathlib.Numerals.{add-one}
use native.Mathlib.Omega.{arith}
use Rattle.methods.specs.PartialPlan.{doubled}
use Rattle.methods.proofs.Laws.{doubled_last}
use borrow.Author.Rules.{rules}
use Rattle.plan_writing.proofs.Cursor.double_times.Goals as goal

pub loop-init : goal.loop-init
unfolding doubled
loop-init c = (search rules, refl, search rules, λ lent b w. w)

pub double-last-requires : goal.double-last-requires
double-last-requires c = omega (arith, c.loop.invariant.2)

pub loop-preserved : goal.loop-preserved
loop-preserved c = (
  search rules,
  search rules,
  omega (arith, c.double-last.ensures.0, c.loop.invariant.2),
  λ lent b w. rw (add-one c.loop.counter, doubled_last c.loop.counter b) (c.double-last.ensures.1 lent (doubled c.loop.counter b) (c.loop.invariant.3 lent b w)),
)

pub returns : goal.returns
returns c =
    let e : c.args.n ≡ c.loop.counter = omega arith in
    rw e (c.loop.invariant.2, c.loop.invariant.3)
