-- `plan_writing::put` meets its contract. Assumes nothing.
use native.Mathlib.Omega.{arith}
use Prim.Native.Nat.{◌*◌, ◌/◌, ◌%◌}
use lib.ListN.{length-set}
use Rattle.rules.specs.Limits.{step_bytes}
use Rattle.chains.specs.Steps.{step_bytes_of}
use Rattle.plan_writing.proofs.Puts.{five_stores}
use borrow.Author.Rules.{rules}
use Rattle.plan_writing.proofs.put.Goals as goal

pub bounds-out-at-2 : goal.bounds-out-at-2
bounds-out-at-2 c = simp length-set (omega arith)

pub bounds-out-at-3 : goal.bounds-out-at-3
bounds-out-at-3 c = simp length-set (omega arith)

pub bounds-out-at-4 : goal.bounds-out-at-4
bounds-out-at-4 c = simp length-set (omega arith)

pub bounds-out-at-5 : goal.bounds-out-at-5
bounds-out-at-5 c = simp length-set (omega arith)

pub returns : goal.returns
unfolding step_bytes_of
returns c =
    let args = c.args in
    rw (c.to_le_bytes.ensures, c.to_le_bytes-2.ensures) (five_stores args.out.now (step_bytes * args.n) args.operation (args.j % 256) (args.j / 256 % 256) (args.k % 256) (args.k / 256 % 256) (search rules))
