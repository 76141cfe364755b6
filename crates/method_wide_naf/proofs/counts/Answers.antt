-- `method_wide_naf::counts` meets its contract: the digits below place i are counted. Assumes nothing.
use mathlib.Core.Path.{◌≡◌, ◌∙◌, ap}
use Prim.Native.Nat.{ℕ, ◌+◌, ◌*◌, ◌-◌, ◌/◌, ◌%◌, ◌<◌, ◌≤◌}
use native.Mathlib.Omega.{arith}
use lib.ListN.{length, get_or, take}
use lib.Seq.{length-take-le, get_or-take}
use Rattle.rules.specs.Limits.{number_bytes, plan_steps}
use Rattle.integers.specs.Positional.{bytes_value}
use Rattle.wide_digits.proofs.Padded.{zeros_blank}
use Rattle.methods.specs.Tables.{table_counts}
use Rattle.methods.specs.WideNaf.{wide_table}
use Rattle.methods.proofs.Laws.{Plannable, plannable}
use Rattle.method_wide_naf.proofs.Form.{Recoded, counted_none, counted_next, signs, some_places, table_is, plus_some, counts_are, counts_few}
use borrow.Author.Rules.{rules}
use Rattle.method_wide_naf.proofs.counts.Goals.{After-recoded-length, In-loop-digit, After-table_counts-table}
use Rattle.method_wide_naf.proofs.counts.Goals as goal

-- what the array holds
module _ (c : After-recoded-length) where
  abbrev e : ℕ
  e = bytes_value c.args.number.now

  held : Recoded e c.args.width c.recoded-length.new.out c.recoded-length.result
  held = record {
    some = omega (arith, c.number.ensures.positive.nonzero);
    wide = search rules;
    narrow = search rules;
    form = rw c.number.ensures.value at c.recoded-length.ensures.form;
  }

  number : Plannable e
  number = plannable c.args.number.now c.number.ensures.small c.number.ensures.positive

-- the digit of a turn
module _ (c : In-loop-digit) where
  abbrev n : ℕ
  n = c.recoded-length.result

  abbrev digit : ℕ
  digit = get_or (take n c.recoded-length.new.out) c.loop-digit.digit-index 0

  within : n ≤ length c.recoded-length.new.out
  within = (held (goal.at.In-loop-digit c).After-recoded-length).form.within

  below : c.loop-digit.digit-index < n
  below = omega (arith, length-take-le n c.recoded-length.new.out within)

  from_slice : digit ≡ get_or c.recoded-length.new.out c.loop-digit.digit-index 0
  from_slice = get_or-take n c.recoded-length.new.out c.loop-digit.digit-index 0 below

  one : (digit / 128 ≤ digit % 2) × (digit % 2 ≤ 1) × (c.loop-digit.plus + c.loop-digit.minus < 8 * number_bytes + 1)
  one =
      let h = held (goal.at.In-loop-digit c).After-recoded-length in
      (rw from_slice (omega (arith, signs h c.loop-digit.digit-index)), omega arith, omega (arith, below, within))

-- all counts
module _ (c : After-table_counts-table) where
  table : c.table_counts-table.result ≡ table_counts (wide_table (e (goal.at.After-table_counts-table c).After-recoded-length) c.args.width)
  table = c.table_counts-table.ensures ∙ ap table_counts (table_is (held (goal.at.After-table_counts-table c).After-recoded-length) c.position_of.ensures c.table_steps.ensures)

  few : (c.table_counts-table.result.doublings + (c.recoded-length.result - 1)) + (c.table_counts-table.result.additions + (c.loop-digit.plus - 1)) + c.loop-digit.minus ≤ plan_steps
  few = counts_few (held (goal.at.After-table_counts-table c).After-recoded-length) c.loop-digit.invariant.2 (search rules) table (number (goal.at.After-table_counts-table c).After-recoded-length)

pub recoded-length-requires : goal.recoded-length-requires
recoded-length-requires c = record {
  number_in_bounds = rw c.number.ensures.value (omega (arith, c.number.ensures.positive.admitted.short));
  blank = zeros_blank (8 * number_bytes + 1);
}

pub slice_bounds-digits-end : goal.slice_bounds-digits-end
slice_bounds-digits-end c = (held (goal.at.slice_bounds-digits-end c).After-recoded-length).form.within

pub loop-digit-init : goal.loop-digit-init
loop-digit-init c = (search rules, search rules, counted_none _ _)

pub overflow_sub-digit : goal.overflow_sub-digit
overflow_sub-digit c = (one (goal.at.overflow_sub-digit c).In-loop-digit).0

pub overflow_add-plus : goal.overflow_add-plus
overflow_add-plus c =
    let d = one (goal.at.overflow_add-plus c).In-loop-digit in
    omega (arith, d.1, d.2, c.from-plus.ensures)

pub overflow_add-minus : goal.overflow_add-minus
overflow_add-minus c =
    let d = one (goal.at.overflow_add-minus c).In-loop-digit in
    omega (arith, d.1, d.2, c.from-minus.ensures)

pub loop-digit-preserved : goal.loop-digit-preserved
loop-digit-preserved c =
    let start = (goal.at.loop-digit-preserved c).In-loop-digit in
    let more = rw (← from_slice start) at (counted_next (held (goal.at.loop-digit-preserved c).After-recoded-length) c.loop-digit.invariant.2 (below start)) in
    (omega (arith, below start), omega (arith, more.few, c.from-plus.ensures, c.from-minus.ensures), rw (c.from-plus.ensures, c.from-minus.ensures) more)

pub overflow_sub-length : goal.overflow_sub-length
overflow_sub-length c = some_places (held (goal.at.overflow_sub-length c).After-recoded-length)

pub bounds-digits-length : goal.bounds-digits-length
bounds-digits-length c = omega (arith, (held (goal.at.bounds-digits-length c).After-recoded-length).form.within)

pub overflow_sub-result : goal.overflow_sub-result
overflow_sub-result c = some_places (held (goal.at.overflow_sub-result c).After-recoded-length)

pub overflow_add-result : goal.overflow_add-result
overflow_add-result c = omega (arith, few (goal.at.overflow_add-result c).After-table_counts-table)

pub overflow_sub-result-2 : goal.overflow_sub-result-2
overflow_sub-result-2 c = omega (arith, plus_some (held (goal.at.overflow_sub-result-2 c).After-recoded-length) c.loop-digit.invariant.2 (search rules))

pub overflow_add-result-2 : goal.overflow_add-result-2
overflow_add-result-2 c = omega (arith, few (goal.at.overflow_add-result-2 c).After-table_counts-table)

pub returns : goal.returns
returns c =
    rw (c.from.ensures, c.from-2.ensures) (counts_are (held (goal.at.returns c).After-recoded-length) c.loop-digit.invariant.2 (search rules) (table (goal.at.returns c).After-table_counts-table))
