-- `hexadecimal::write` meets its contract: the bytes below k are written, and the others stay. Assumes nothing.
use native.Mathlib.Omega.{arith}
use Rattle.integers.specs.Tabulate.{tabulate}
use Rattle.hexadecimal.proofs.Value.{byte_more}
use borrow.Author.Rules.{rules}
use Rattle.hexadecimal.proofs.write.Goals as goal

pub loop-k-init : goal.loop-k-init
unfolding tabulate
loop-k-init c = search rules

pub loop-k-preserved : goal.loop-k-preserved
loop-k-preserved c =
    let args = c.args in
    (search rules, rw c.loop-k.invariant.1 (byte_more args.text.now args.bytes.now c.loop-k.k (omega arith) (search rules)))
