-- `digit_plans::write_steps` meets its contract: the steps of the digits from i on are written. Assumes nothing.
use mathlib.Core.Path.{◌≡◌, refl, sym}
use mathlib.Core.List.{List}
use Prim.Native.Nat.{ℕ, suc, ◌-◌, ◌<◌, ◌≤◌}
use native.Mathlib.Omega.{arith}
use lib.IntN.{ℤ}
use lib.ListN.{length, length-map}
use Rattle.signed_digits.specs.Strings.{digit_at}
use Rattle.signed_digits.specs.Bytes.{byte_digit, string_of}
use Rattle.signed_digits.proofs.Tops.{some_digit}
use Rattle.methods.specs.PartialPlan.{none}
use Rattle.methods.specs.DigitSteps.{digit_steps}
use Rattle.methods.proofs.DigitSteps.{length_at_digit}
use Rattle.methods.proofs.SignedBits.{digits_down}
use Rattle.plan_writing.proofs.Underway.{Underway, down_one, nothing_written, underway_next, underway_room, underway_end}
use Rattle.plan_writing.proofs.Digits.{step_more}
use Rattle.digit_plans.proofs.Digits.{digit_of, at_one, at_place, place_grows}
use borrow.Author.Rules.{rules}
use Rattle.digit_plans.proofs.write_steps.Goals.{Start, At-loop-i}
use Rattle.digit_plans.proofs.write_steps.Goals as goal

some : (c : Start) → 1 ≤ length c.args.digits.now
some c = omega (arith, some_digit (string_of c.args.digits.now) c.requires.top, length-map c.args.digits.now byte_digit)

-- the digits, and what is written so far as part of all steps
module _ (c : At-loop-i) where
  abbrev ds : List ℤ
  ds = string_of c.args.digits.now

  abbrev lent : List ℕ
  lent = c.args.out.now

  underway : 0 < c.loop-i.i → Underway lent c.loop-i.out c.loop-i.c (at_place ds) (suc (c.loop-i.i - 1)) (digit_steps 0 ds)
  underway h = down_one lent c.loop-i.out c.loop-i.c (at_place ds) (digit_steps 0 ds) c.loop-i.i h c.loop-i.invariant.0

pub overflow_step-i : goal.overflow_step-i
overflow_step-i c = omega (arith, some (goal.at.overflow_step-i c).Start)

pub loop-i-init : goal.loop-i-init
loop-i-init c =
    let digits = c.args.digits.now in (
      record {
        partial = none;
        writing = nothing_written c.args.out.now c.first-c.result c.first-c.ensures.0 c.first-c.ensures.1;
        rest = rw (length-map digits byte_digit) at (sym (digits_down (string_of digits) c.requires.top));
      },
      omega (arith, some (goal.at.loop-i-init c).Start),
      refl,
    )

pub at_digit-c-requires : goal.at_digit-c-requires
at_digit-c-requires c =
    let at = (goal.at.at_digit-c-requires c).At-loop-i in
    let i : ℕ = c.loop-i.i - 1 in
    let u = underway at (search rules) in
    let room = underway_room (lent at) c.loop-i.out c.loop-i.c (at_place (ds at)) (digit_steps 0 (ds at)) i (place_grows (ds at)) u in
    let more = length_at_digit (digit_at (ds at) i) u.partial in
    let e = digit_of c.args.digits.now i in
    record {
      position = λ n. at_one _ (rw e (c.requires.bits i)) (step_more _ n);
      steps_in_bounds = omega (arith, u.writing.steps);
      steps_in_bounds_2 = λ n. omega (arith, u.writing.steps, rw e at (step_more _ n));
    }

pub loop-i-preserved : goal.loop-i-preserved
loop-i-preserved c =
    let at = (goal.at.loop-i-preserved c).At-loop-i in
    let i : ℕ = c.loop-i.i - 1 in
    let u = underway at (search rules) in
    (underway_next (lent at) c.loop-i.out c.loop-i.c (at_place (ds at)) (digit_steps 0 (ds at)) c.at_digit-c.new.out c.at_digit-c.result i u (rw (digit_of c.args.digits.now i) at (c.at_digit-c.ensures (lent at) u.partial u.writing)), omega arith, search rules)

pub returns : goal.returns
returns c =
    let at = (goal.at.returns c).At-loop-i in
    let z : c.loop-i.i ≡ 0 = omega arith in
    underway_end (lent at) c.loop-i.out c.loop-i.c (at_place (ds at)) (digit_steps 0 (ds at)) (rw z at c.loop-i.invariant.0)
