-- `method_binary::write` meets its contract: the steps of the bits from i on are written. Assumes nothing.
use mathlib.Core.Path.{◌≡◌, refl}
use Prim.Native.Nat.{ℕ, suc, ◌<◌, ◌-◌}
use native.Mathlib.Omega.{arith}
use Rattle.integers.specs.Positional.{bytes_value}
use Rattle.integers.specs.Bits.{bit}
use Rattle.integers.proofs.Bits.{some_bits, bit_small}
use Rattle.methods.specs.PartialPlan.{PartialPlan, none}
use Rattle.methods.specs.Binary.{at_bit, binary_steps}
use Rattle.methods.proofs.Binary.{length_at_bit}
use Rattle.plan_writing.proofs.Underway.{Underway, down_one, nothing_written, underway_next, underway_room, underway_end}
use borrow.Author.Rules.{rules}
use Rattle.method_binary.proofs.write.Goals as goal

pub overflow_sub-top : goal.overflow_sub-top
overflow_sub-top c = omega (arith, c.bit_length-top.ensures, some_bits (bytes_value c.bytes-number.result.now) (search rules))

pub loop-i-init : goal.loop-i-init
unfolding binary_steps
loop-i-init c =
    let args = c.args in
    let e : ℕ = bytes_value c.bytes-number.result.now in
    let n = c.bit_length-top.ensures in
    (omega (arith, n, some_bits e (search rules)), refl, record { partial = none; writing = nothing_written args.out.now c.first-c.result c.first-c.ensures.0 c.first-c.ensures.1; rest = rw n })

pub at_bit-c-requires : goal.at_bit-c-requires
at_bit-c-requires c =
    let args = c.args in
    let e : ℕ = bytes_value c.bytes-number.result.now in
    let f : ℕ → PartialPlan → PartialPlan = λ i b. at_bit (bit e i) b in
    let u : Underway args.out.now c.loop-i.out c.loop-i.c f (suc (c.loop-i.i - 1)) (binary_steps e) = down_one args.out.now c.loop-i.out c.loop-i.c f (binary_steps e) c.loop-i.i (search rules) c.loop-i.invariant.2 in
    let x : c.bit_at.result < 2 = omega (arith, c.bit_at.ensures, bit_small e (c.loop-i.i - 1)) in
    let room = underway_room args.out.now c.loop-i.out c.loop-i.c f (binary_steps e) (c.loop-i.i - 1) (λ i b. omega (arith, length_at_bit (bit e i) b (bit_small e i))) u in
    let lent = rw (← c.bytes-number.ensures.value) at c.requires in
    record {
      bit_bound = x;
      bit_in_bounds = omega (arith, room, length_at_bit (bit e (c.loop-i.i - 1)) u.partial (bit_small e (c.loop-i.i - 1)), u.writing.steps, c.bit_at.ensures);
    }

pub loop-i-preserved : goal.loop-i-preserved
loop-i-preserved c =
    let args = c.args in
    let e : ℕ = bytes_value c.bytes-number.result.now in
    let f : ℕ → PartialPlan → PartialPlan = λ i b. at_bit (bit e i) b in
    let u : Underway args.out.now c.loop-i.out c.loop-i.c f (suc (c.loop-i.i - 1)) (binary_steps e) = down_one args.out.now c.loop-i.out c.loop-i.c f (binary_steps e) c.loop-i.i (search rules) c.loop-i.invariant.2 in
    (omega arith, search rules, underway_next args.out.now c.loop-i.out c.loop-i.c f (binary_steps e) c.at_bit-c.new.out c.at_bit-c.result (c.loop-i.i - 1) u (rw c.bit_at.ensures at (c.at_bit-c.ensures.1 args.out.now u.partial u.writing)))

pub returns : goal.returns
returns c =
    let args = c.args in
    let f : ℕ → PartialPlan → PartialPlan = λ i b. at_bit (bit (bytes_value c.bytes-number.result.now) i) b in
    let z : c.loop-i.i ≡ 0 = omega arith in
    rw (← c.bytes-number.ensures.value) (underway_end args.out.now c.loop-i.out c.loop-i.c f (binary_steps (bytes_value c.bytes-number.result.now)) (rw z at c.loop-i.invariant.2))
