-- `naf_tally::Top::with_word` meets its contract. Assumes nothing.
use mathlib.Core.Path.{sym}
use native.Mathlib.Omega.{arith}
use Rattle.naf_tally.specs.Tally.{length_to}
use Rattle.naf_tally.proofs.Tallied.{length_none, length_some}
use borrow.Author.Rules.{rules}
use Rattle.naf_tally.proofs.Top.with_word.Goals as goal

pub returns-then-word-eq0 : goal.returns-then-word-eq0
returns-then-word-eq0 c =
    let args = c.args in
    (search rules, sym (length_none (length_to args.self) args.places args.word c.if-word-eq0.true))

pub returns : goal.returns
returns c =
    let args = c.args in
    (search rules, sym (length_some (length_to args.self) args.places args.word (omega (arith, c.if-word-eq0.false))))
