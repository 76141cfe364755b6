-- `cleaning_digits::write` meets its contract: after i turns the first i digits stand. Assumes nothing.
use native.Mathlib.Numerals.{add-one}
use Rattle.integers.specs.Tabulate.{tabulate}
use Rattle.integers.proofs.Tabulate.{tabulate_more}
use Rattle.signed_digits.specs.Naf.{canonical}
use Rattle.digit_strings.specs.Admission.{string_value}
use Rattle.digit_strings.specs.Places.{place_byte}
use Rattle.cleaning_digits.specs.Sums.{sum_at}
use Rattle.cleaning_digits.proofs.Places.{place_byte_lem}
use borrow.Author.Rules.{rules}
use Rattle.cleaning_digits.proofs.write.Goals as goal

pub loop-i-init : goal.loop-i-init
unfolding tabulate sum_at
loop-i-init c = search rules

pub loop-i-preserved : goal.loop-i-preserved
unfolding sum_at
loop-i-preserved c =
    let s = c.args.digits.now in
    let digit = place_byte (canonical (string_value s)) in
    let stored = tabulate_more digit c.args.out.now c.loop-i.i (search rules) in
    let above = c.raised_at.ensures.value.0 in
    let rest = c.rest_of-sum.ensures.0 in (
      search rules,
      search rules,
      rw (c.loop-i.invariant.2, rest, above) (rw (← place_byte_lem s c.raised_at.ensures.digit_string c.loop-i.i, ← c.loop-i.invariant.3, ← add-one c.loop-i.i) at stored),
      rw (rest, above, c.loop-i.invariant.3, add-one c.loop-i.i),
    )
