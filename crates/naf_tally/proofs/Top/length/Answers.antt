-- `naf_tally::Top::length` meets its contract. Assumes nothing.
use native.Mathlib.Omega.{arith}
use Rattle.naf_tally.proofs.Tallied.{length_by_zeros}
use borrow.Author.Rules.{rules}
use Rattle.naf_tally.proofs.Top.length.Goals as goal

pub returns : goal.returns
returns c = omega (arith, length_by_zeros c.args.self.word (search rules))
