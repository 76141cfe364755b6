-- `hexadecimal::is_hex` meets its contract: what is passed and what is left of the text decide. Assumes nothing.
use mathlib.Core.Path.{sym, ◌∙◌}
use native.Mathlib.Omega.{arith}
use Rattle.hexadecimal.proofs.Value.{next_tested, all_tested}
use Rattle.hexadecimal.proofs.is_hex.Goals as goal

pub loop-byte-preserved : goal.loop-byte-preserved
loop-byte-preserved c =
    let text = c.args.text.now in
    rw c.is_digit-all.ensures (c.loop-byte.invariant ∙ next_tested text c.loop-byte.byte-index c.loop-byte.all (omega arith))

pub returns : goal.returns
returns c =
    let text = c.args.text.now in
    sym (c.loop-byte.invariant ∙ all_tested text c.loop-byte.byte-index c.loop-byte.all (omega arith))
