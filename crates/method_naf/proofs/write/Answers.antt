-- `method_naf::write` meets its contract. Assumes nothing.
use mathlib.Core.Path.{◌≡◌, sym, ap, ◌∙◌}
use Prim.Native.Nat.{ℕ, ◌+◌, ◌-◌, ◌*◌, ◌≤◌}
use native.Mathlib.Omega.{arith}
use lib.IntN.{pos}
use lib.ListN.{length, take, drop}
use Rattle.rules.specs.Limits.{number_bytes}
use Rattle.integers.specs.Positional.{bytes_value}
use Rattle.signed_digits.specs.Naf.{canonical}
use Rattle.signed_digits.specs.Bytes.{string_of}
use Rattle.signed_digits.proofs.Canonical.{canonical_form}
use Rattle.signed_digits.proofs.Leading.{canonical_top}
use Rattle.recoding_digits.proofs.TopByte.{most_digits_lem}
use Rattle.methods.specs.NonAdjacentForm.{naf_steps}
use Rattle.digit_plans.proofs.Digits.{raised}
use borrow.Author.Rules.{rules}
use Rattle.method_naf.proofs.write.Goals.{After-count-length, After-write_raised}
use Rattle.method_naf.proofs.write.Goals as goal

made : (c : After-count-length) → c.new-tripled.result ≡ bytes_value c.args.number.now
made c = c.new-tripled.ensures ∙ c.words.ensures.value

counted : (c : After-count-length) → c.count-length.result ≡ length (canonical (pos (bytes_value c.args.number.now)))
counted c = c.count-length.ensures ∙ ap (λ e. length (canonical (pos e))) (made c)

-- the digits fit, one place up, in whole words
few : (c : After-count-length) → c.count-length.result ≤ 8 * number_bytes + 1
few c = omega (arith, counted c, most_digits_lem c.args.number.now c.number.ensures.small, c.number.ensures.positive.admitted.short)

there : (c : After-write_raised) → string_of (take (c.count-length.result + 1 - 1) (drop 1 c.write_raised.new.out)) ≡ canonical (pos (bytes_value c.args.number.now))
there c =
    let e : ℕ = bytes_value c.args.number.now in
    let n = counted (goal.at.After-write_raised c).After-count-length in
    raised (canonical (pos e)) c.write_raised.new.out c.count-length.result n (omega (arith, few (goal.at.After-write_raised c).After-count-length)) (canonical_form (pos e)).digits
    (λ i l. rw (c.words-2.ensures.value ∙ made (goal.at.After-write_raised c).After-count-length) at (c.write_raised.ensures i l))

pub count-length-requires : goal.count-length-requires
count-length-requires c = c.new-tripled.ensures ∙ c.words.ensures.value ∙ ap bytes_value (sym c.number.ensures.value)

pub write_raised-requires : goal.write_raised-requires
write_raised-requires c = omega (arith, few (goal.at.write_raised-requires c).After-count-length)

pub overflow_add-length : goal.overflow_add-length
overflow_add-length c = omega (arith, few (goal.at.overflow_add-length c).After-count-length)

pub slice_bounds-write_steps-end : goal.slice_bounds-write_steps-end
slice_bounds-write_steps-end c = omega (arith, few (goal.at.slice_bounds-write_steps-end c).After-count-length)

pub write_steps-requires : goal.write_steps-requires
unfolding naf_steps
write_steps-requires c =
    let e : ℕ = bytes_value c.args.number.now in
    let digits = there (goal.at.write_steps-requires c).After-write_raised in
    record {
      bits = rw digits (canonical_form (pos e)).digits;
      top = rw digits (canonical_top e (omega (arith, c.number.ensures.positive.nonzero)));
      steps_in_bounds = rw digits (search rules);
    }

pub returns : goal.returns
unfolding naf_steps
returns c = rw (there (goal.at.returns c).After-write_raised) at c.write_steps.ensures
