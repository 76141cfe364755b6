-- `method_modified_naf::write` meets its contract. Assumes nothing.
use mathlib.Core.Path.{◌≡◌, sym, ap, ◌∙◌}
use Prim.Native.Nat.{ℕ, ◌+◌, ◌-◌, ◌*◌, ◌≤◌}
use native.Mathlib.Omega.{arith}
use lib.ListN.{take, drop}
use Rattle.rules.specs.Limits.{number_bytes}
use Rattle.integers.specs.Positional.{bytes_value}
use Rattle.modified_digits.specs.Form.{ShapeOf}
use Rattle.signed_digits.specs.Modified.{modified}
use Rattle.signed_digits.specs.Bytes.{string_of}
use Rattle.signed_digits.proofs.Modified.{modified_bits, modified_top, modified_size}
use Rattle.recoding_digits.proofs.TopByte.{most_digits_lem}
use Rattle.methods.specs.ModifiedNaf.{modified_naf_steps}
use Rattle.digit_plans.proofs.Digits.{raised}
use borrow.Author.Rules.{rules}
use Rattle.method_modified_naf.proofs.write.Goals.{After-shape_of-form, After-write_form_raised}
use Rattle.method_modified_naf.proofs.write.Goals as goal

made : (c : After-shape_of-form) → c.new-tripled.result ≡ bytes_value c.args.number.now
made c = c.new-tripled.ensures ∙ c.words.ensures.value

shaped : (c : After-shape_of-form) → ShapeOf (bytes_value c.args.number.now) c.shape_of-form.result
shaped c = rw c.number.ensures.value at c.shape_of-form.ensures

-- the digits fit, one place up, in whole words
few : (c : After-shape_of-form) → c.shape_of-form.result.length ≤ 8 * number_bytes + 1
few c =
    let number = c.args.number.now in
    omega (arith, (shaped c).digits, modified_size (bytes_value number), most_digits_lem number c.number.ensures.small, c.number.ensures.positive.admitted.short)

there : (c : After-write_form_raised) → string_of (take (c.shape_of-form.result.length + 1 - 1) (drop 1 c.write_form_raised.new.out)) ≡ modified (bytes_value c.args.number.now)
there c =
    let e : ℕ = bytes_value c.args.number.now in
    let shape = shaped (goal.at.After-write_form_raised c).After-shape_of-form in
    raised (modified e) c.write_form_raised.new.out c.shape_of-form.result.length shape.digits (omega (arith, few (goal.at.After-write_form_raised c).After-shape_of-form)) (modified_bits e)
    (λ i l. rw (c.words-2.ensures.value ∙ made (goal.at.After-write_form_raised c).After-shape_of-form) at (c.write_form_raised.ensures i l))

pub shape_of-form-requires : goal.shape_of-form-requires
shape_of-form-requires c = c.triple.ensures.value ∙ ap (λ e. 3 * e) (c.new-tripled.ensures ∙ c.words.ensures.value ∙ ap bytes_value (sym c.number.ensures.value))

pub write_form_raised-requires : goal.write_form_raised-requires
write_form_raised-requires c = record {
  triple_value = c.triple-2.ensures.value ∙ ap (λ e. 3 * e) (sym c.words-2.ensures.value);
  shape_of = rw (← (c.words-2.ensures.value ∙ made (goal.at.write_form_raised-requires c).After-shape_of-form)) at (shaped (goal.at.write_form_raised-requires c).After-shape_of-form);
  length_in_bounds = omega (arith, few (goal.at.write_form_raised-requires c).After-shape_of-form);
}

pub overflow_add-form : goal.overflow_add-form
overflow_add-form c = omega (arith, few (goal.at.overflow_add-form c).After-shape_of-form)

pub slice_bounds-write_steps-end : goal.slice_bounds-write_steps-end
slice_bounds-write_steps-end c = omega (arith, few (goal.at.slice_bounds-write_steps-end c).After-shape_of-form)

pub write_steps-requires : goal.write_steps-requires
unfolding modified_naf_steps
write_steps-requires c =
    let e : ℕ = bytes_value c.args.number.now in
    let digits = there (goal.at.write_steps-requires c).After-write_form_raised in
    record {
      bits = rw digits (modified_bits e);
      top = rw digits (modified_top e (omega (arith, c.number.ensures.positive.nonzero)));
      steps_in_bounds = rw digits (search rules);
    }

pub returns : goal.returns
unfolding modified_naf_steps
returns c = rw (there (goal.at.returns c).After-write_form_raised) at c.write_steps.ensures
