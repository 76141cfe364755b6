-- `digit_strings::is_digit` meets its contract. Assumes nothing.
use borrow.Author.Rules.{rules}
use Rattle.digit_strings.proofs.Digits.{tested}
use Rattle.digit_strings.proofs.is_digit.Goals as goal

pub returns : goal.returns
returns c = tested c.args.largest c.args.byte c.requires (search rules)
