-- `cleaning_digits::rest_of` meets its contract. Assumes nothing.
use mathlib.Core.Path.{sym}
use Rattle.cleaning_digits.proofs.Places.{rest_is}
use borrow.Author.Rules.{rules}
use Rattle.cleaning_digits.proofs.rest_of.Goals as goal

pub returns : goal.returns
returns c = (sym (rest_is c.args.n), search rules)
