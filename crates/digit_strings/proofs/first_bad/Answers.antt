-- `digit_strings::first_bad` meets its contract. Assumes nothing.
use mathlib.Core.Path.{sym, ◌∙◌}
use Rattle.digit_strings.specs.Admission.{digit_up_to}
use Rattle.digit_strings.proofs.Scan.{first_of_rest}
use Rattle.digit_strings.proofs.first_bad.Goals as goal

pub returns-in_err-bad : goal.returns-in_err-bad
returns-in_err-bad c = rw c.from_residual.ensures (first_of_rest (digit_up_to c.args.largest) c.args.digits.now c.whole_digits-whole.result c.whole_digits-whole.ensures.0 c.whole_digits-whole.ensures.1 _ (sym c.in_err-bad.was ∙ c.bad_in.ensures.place))

pub returns : goal.returns
returns c = first_of_rest (digit_up_to c.args.largest) c.args.digits.now c.whole_digits-whole.result c.whole_digits-whole.ensures.0 c.whole_digits-whole.ensures.1 _ (sym c.in_ok-bad.was ∙ c.bad_in.ensures.place)
