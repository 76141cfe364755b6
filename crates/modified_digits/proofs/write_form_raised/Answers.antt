-- `modified_digits::write_form_raised` meets its contract. Assumes nothing.
use native.Mathlib.Omega.{arith}
use lib.Seq.{lt-length-set}
use Rattle.integers.specs.Positional.{words_value}
use Rattle.modified_digits.specs.Form.{ShapeOf}
use Rattle.modified_digits.proofs.Form.{kept_fits, two_more, kept_raised, ones_raised}
use borrow.Author.Rules.{rules}
use Rattle.modified_digits.proofs.write_form_raised.Goals.{After-write_raised}
use Rattle.modified_digits.proofs.write_form_raised.Goals as goal

module _ (c : After-write_raised) where
  held : ShapeOf (words_value c.args.words.now) c.args.form
  held = c.requires.shape_of

pub write_raised-requires : goal.write_raised-requires
write_raised-requires c = record {
  triple_value = c.requires.triple_value;
  count_in_bounds = omega (arith, kept_fits c.requires.shape_of);
}

pub bounds-out-low-then-low-form : goal.bounds-out-low-then-low-form
bounds-out-low-then-low-form c =
    let more = two_more (held (goal.at.bounds-out-low-then-low-form c).After-write_raised) (search rules) in
    lt-length-set c.write_raised.new.out _ _ (omega (arith, more))

pub returns-then-low-form : goal.returns-then-low-form
returns-then-low-form c =
    ones_raised (held (goal.at.returns-then-low-form c).After-write_raised) c.write_raised.new.out c.write_raised.ensures (search rules) (search rules)

pub returns-else-low-form : goal.returns-else-low-form
returns-else-low-form c =
    kept_raised (held (goal.at.returns-else-low-form c).After-write_raised) c.write_raised.new.out c.write_raised.ensures (search rules)
