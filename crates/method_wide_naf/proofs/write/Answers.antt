-- `method_wide_naf::write` meets its contract: after the table, the steps of the digits from i on are written. Assumes nothing.
use mathlib.Core.Path.{◌≡◌, refl, subst}
use mathlib.Core.List.{List}
use Prim.Native.Nat.{ℕ, suc, ◌+◌, ◌*◌, ◌-◌}
use native.Mathlib.Omega.{arith}
use lib.IntN.{pos}
use Rattle.rules.specs.Limits.{number_bytes}
use Rattle.integers.specs.Positional.{bytes_value}
use Rattle.signed_digits.specs.Strings.{digit_at}
use Rattle.signed_digits.specs.Naf.{naf}
use Rattle.wide_digits.proofs.Padded.{zeros_blank}
use Rattle.methods.specs.WideNaf.{wide_naf_steps}
use Rattle.methods.proofs.DigitSteps.{length_at_digit}
use Rattle.plan_writing.proofs.Underway.{Underway, down_one, underway_next, underway_room, underway_end}
use Rattle.plan_writing.proofs.Digits.{step_more}
use Rattle.method_wide_naf.proofs.Form.{Recoded, some_places, read, table_is, table_written, at_place, place_grows, steps_are, table_room}
use borrow.Author.Rules.{rules}
use Rattle.method_wide_naf.proofs.write.Goals.{After-recoded-length, At-loop-i}
use Rattle.method_wide_naf.proofs.write.Goals as goal

-- what the array holds
module _ (c : After-recoded-length) where
  abbrev e : ℕ
  e = bytes_value c.args.number.now

  abbrev w : ℕ
  w = c.args.width

  abbrev lent : List ℕ
  lent = c.args.out.now

  held : Recoded e w c.recoded-length.new.out c.recoded-length.result
  held = record {
    some = omega (arith, c.number.ensures.positive.nonzero);
    wide = search rules;
    narrow = search rules;
    form = rw c.number.ensures.value at c.recoded-length.ensures.form;
  }

-- what is written so far, as part of all steps
module _ (c : At-loop-i) where
  underway : (i : ℕ) → c.loop-i.i ≡ i → Underway (lent (goal.at.At-loop-i c).After-recoded-length) c.loop-i.out c.loop-i.c (at_place (e (goal.at.At-loop-i c).After-recoded-length) (w (goal.at.At-loop-i c).After-recoded-length)) i (wide_naf_steps (e (goal.at.At-loop-i c).After-recoded-length) (w (goal.at.At-loop-i c).After-recoded-length))
  underway i z =
      let written = table_written (held (goal.at.At-loop-i c).After-recoded-length) c.position_of-top.ensures c.table_steps.ensures c.write_table-table.ensures in
      subst (λ (i : ℕ). Underway (lent (goal.at.At-loop-i c).After-recoded-length) c.loop-i.out c.loop-i.c (at_place (e (goal.at.At-loop-i c).After-recoded-length) (w (goal.at.At-loop-i c).After-recoded-length)) i (wide_naf_steps (e (goal.at.At-loop-i c).After-recoded-length) (w (goal.at.At-loop-i c).After-recoded-length))) z (c.loop-i.invariant.2 (lent (goal.at.At-loop-i c).After-recoded-length) written)

pub recoded-length-requires : goal.recoded-length-requires
recoded-length-requires c = record {
  number_in_bounds = rw c.number.ensures.value (omega (arith, c.number.ensures.positive.admitted.short));
  blank = zeros_blank (8 * number_bytes + 1);
}

pub overflow_sub-length : goal.overflow_sub-length
overflow_sub-length c = some_places (held (goal.at.overflow_sub-length c).After-recoded-length)

pub bounds-digits-length : goal.bounds-digits-length
bounds-digits-length c = omega (arith, (held (goal.at.bounds-digits-length c).After-recoded-length).form.within)

pub write_table-table-requires : goal.write_table-table-requires
write_table-table-requires c =
    let start = (goal.at.write_table-table-requires c).After-recoded-length in
    omega (arith, table_is (held start) c.position_of-top.ensures c.table_steps.ensures, table_room (held start))

pub overflow_step-i : goal.overflow_step-i
overflow_step-i c = some_places (held (goal.at.overflow_step-i c).After-recoded-length)

pub loop-i-init : goal.loop-i-init
loop-i-init c =
    let start = (goal.at.loop-i-init c).After-recoded-length in
    (refl, omega (arith, some_places (held start)), λ lent written. record { partial = _; writing = written; rest = steps_are (held start) })

pub bounds-digits-i : goal.bounds-digits-i
bounds-digits-i c = omega (arith, (held (goal.at.bounds-digits-i c).After-recoded-length).form.within)

pub at_digit-c-requires : goal.at_digit-c-requires
at_digit-c-requires c =
    let start = (goal.at.at_digit-c-requires c).After-recoded-length in
    let h = held start in
    let i : ℕ = c.loop-i.i - 1 in
    let u = underway (goal.at.at_digit-c-requires c).At-loop-i (suc i) (omega arith) in
    let room = underway_room (lent start) c.loop-i.out c.loop-i.c (at_place (e start) (w start)) (wide_naf_steps (e start) (w start)) i (place_grows (e start) (w start)) u in
    let more = length_at_digit (digit_at (naf (w start) (pos (e start))) i) u.partial in
    let fits = c.requires in
    record {
      position = λ n. c.position_of.ensures;
      steps_in_bounds = omega (arith, u.writing.steps);
      steps_in_bounds_2 = λ n. omega (arith, u.writing.steps, rw (read h i) at (step_more _ n));
    }

pub loop-i-preserved : goal.loop-i-preserved
loop-i-preserved c =
    let start = (goal.at.loop-i-preserved c).After-recoded-length in
    let i : ℕ = c.loop-i.i - 1 in (
      search rules,
      search rules,
      λ l written.
          let u = down_one l c.loop-i.out c.loop-i.c (at_place (e start) (w start)) (wide_naf_steps (e start) (w start)) c.loop-i.i (search rules) (c.loop-i.invariant.2 l written) in
          underway_next l c.loop-i.out c.loop-i.c (at_place (e start) (w start)) (wide_naf_steps (e start) (w start)) c.at_digit-c.new.out c.at_digit-c.result i u (rw (read (held start) i) at (c.at_digit-c.ensures l u.partial u.writing)),
    )

pub returns : goal.returns
returns c =
    let start = (goal.at.returns c).After-recoded-length in
    underway_end (lent start) c.loop-i.out c.loop-i.c (at_place (e start) (w start)) (wide_naf_steps (e start) (w start)) (underway (goal.at.returns c).At-loop-i 0 (omega arith))
