-- `modified_digits::write_form` meets its contract. Assumes nothing.
use native.Mathlib.Omega.{arith}
use lib.Seq.{lt-length-set}
use Rattle.integers.specs.Positional.{words_value}
use Rattle.modified_digits.specs.Form.{ShapeOf}
use Rattle.modified_digits.proofs.Form.{kept_fits, two_more, kept_written, ones_written}
use borrow.Author.Rules.{rules}
use Rattle.modified_digits.proofs.write_form.Goals.{After-write}
use Rattle.modified_digits.proofs.write_form.Goals as goal

module _ (c : After-write) where
  held : ShapeOf (words_value c.args.words.now) c.args.form
  held = c.requires.shape_of

pub write-requires : goal.write-requires
write-requires c = record {
  triple_value = c.requires.triple_value;
  count_in_bounds = omega (arith, kept_fits c.requires.shape_of);
}

pub bounds-out-kept-then-kept-form : goal.bounds-out-kept-then-kept-form
bounds-out-kept-then-kept-form c =
    let more = two_more (held (goal.at.bounds-out-kept-then-kept-form c).After-write) (search rules) in
    lt-length-set c.write.new.out _ _ (omega (arith, more))

pub returns-then-kept-form : goal.returns-then-kept-form
returns-then-kept-form c =
    ones_written (held (goal.at.returns-then-kept-form c).After-write) c.args.out.now c.write.new.out (search rules) c.write.ensures (search rules)

pub returns-else-kept-form : goal.returns-else-kept-form
returns-else-kept-form c =
    kept_written (held (goal.at.returns-else-kept-form c).After-write) c.args.out.now c.write.new.out (search rules) c.write.ensures (search rules)
