-- `c_recoder::kept_of` meets its contract: after k turns the first k words stand. Assumes nothing.
use mathlib.Core.Path.{◌≡◌}
use native.Mathlib.Omega.{arith}
use Rattle.rules.specs.Limits.{number_words}
use Rattle.taking.specs.Take.{stands_for}
use Rattle.c_recoder.proofs.Copied.{copied_more, kept_stored}
use borrow.Author.Rules.{rules}
use Rattle.c_recoder.proofs.kept_of.Goals as goal

pub loop-k-preserved : goal.loop-k-preserved
loop-k-preserved c =
    (search rules, copied_more c.args.recoder.words c.loop-k.kept c.loop-k.k (search rules) (search rules) c.loop-k.invariant.1)

pub returns : goal.returns
unfolding stands_for
returns c =
    let r = c.args.recoder in
    let e : c.loop-k.k ≡ number_words = omega arith in
    rw c.from.ensures (kept_stored c.loop-k.kept r.words r.carry c.loop-k.invariant.0 (search rules) (rw e at c.loop-k.invariant.1))
