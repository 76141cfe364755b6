-- `checking::check` meets its contract: n steps are checked and counted. Assumes nothing.
use Rattle.checking.proofs.Turn.{Turn}
use Rattle.checking.proofs.check.Given as goal

abbrev pub invariant-loop-n : goal.invariant-loop-n
invariant-loop-n l = Turn l.plan l.initial.space l.space l.n l.doublings l.not_additions l.largest_bits
