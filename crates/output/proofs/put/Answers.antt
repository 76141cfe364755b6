-- `output::put` meets its contract: the bytes below k stand, and the others stay. Assumes nothing.
use mathlib.Core.Path.{◌≡◌}
use native.Mathlib.Numerals.{add-one}
use native.Mathlib.Nat.{zero-add}
use native.Mathlib.Omega.{arith}
use lib.ListN.{length}
use lib.Seq.{paste-suc, take-length}
use Rattle.rules.proofs.Fitted.{fits}
use borrow.Author.Rules.{rules}
use Rattle.output.proofs.put.Goals as goal

pub loop-k-preserved : goal.loop-k-preserved
loop-k-preserved c =
    let args = c.args in
    (search rules, rw (c.loop-k.invariant.1, add-one) (rw (zero-add, zero-add) at (paste-suc args.out.now 0 args.bytes.now c.loop-k.k 0 (search rules) (search rules))))

pub returns-clause-buffer : goal.returns-clause-buffer
returns-clause-buffer c =
    let args = c.args in
    let whole : c.loop-k.k ≡ length args.bytes.now = omega arith in
    rw (fits args.bytes.now (length args.out.now) (omega arith)) (rw (whole, take-length) at c.loop-k.invariant.1)
