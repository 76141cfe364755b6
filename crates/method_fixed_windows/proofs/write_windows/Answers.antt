-- `method_fixed_windows::write_windows` meets its contract: the table and the steps of the windows from i on are written. Assumes nothing.
use mathlib.Core.Path.{◌≡◌, refl, ap}
use mathlib.Core.List.{List}
use Prim.Native.Nat.{ℕ, suc, ◌≤◌, ◌-◌, ◌^◌}
use native.Mathlib.Nat.{mul-le-mul_left}
use native.Mathlib.Omega.{arith}
use lib.ListN.{length}
use Rattle.integers.specs.Positional.{bytes_value}
use Rattle.methods.specs.PartialPlan.{PartialPlan}
use Rattle.methods.specs.FixedWindows.{window, top_window, window_steps}
use Rattle.methods.proofs.Laws.{down_grows}
use Rattle.methods.proofs.FixedWindows.{length_multiples, length_at_window, top_window_some}
use Rattle.plan_writing.proofs.Underway.{Underway, down_one, underway_next, underway_room, underway_end}
use Rattle.plan_writing.proofs.Multiples.{all_multiples}
use borrow.Author.Rules.{rules}
use Rattle.method_fixed_windows.proofs.write_windows.Invariants.{window_at, tabled}
use Rattle.method_fixed_windows.proofs.write_windows.Goals.{At-loop-i}
use Rattle.method_fixed_windows.proofs.write_windows.Goals as goal

grows : (number : List ℕ) (width i : ℕ) (b : PartialPlan) → length b.steps ≤ length (window_at number width i b).steps
grows number width i b = omega (arith, length_at_window width (window (bytes_value number) width i) b)

-- the table is among all steps
table_room : (number : List ℕ) (width : ℕ) → 2 ^ width - 2 ≤ length (window_steps (bytes_value number) width)
unfolding window_steps
table_room number width =
    let top : ℕ = top_window (bytes_value number) width in
    omega (arith, length_multiples (2 ^ width - 2), down_grows (window_at number width) top (tabled number width top) (grows number width))

-- what is written at the loop's test
under : (c : At-loop-i) → let args = c.args in Underway args.out.now c.loop-i.out c.loop-i.c (window_at args.number.now args.width) c.loop-i.i (window_steps (bytes_value args.number.now) args.width)
under c =
    let args = c.args in
    let size = c.table_length.ensures in
    let table = rw (size, all_multiples (2 ^ args.width - 2)) at c.write_table-table.ensures in
    c.loop-i.invariant.2 args.out.now (record { steps = table.steps; latest = ap (λ (v : ℕ). v - 1) c.window_at.ensures; bytes = table.bytes })

pub write_table-table-requires : goal.write_table-table-requires
write_table-table-requires c = omega (arith, c.table_length.ensures, table_room c.args.number.now c.args.width)

pub overflow_sub-c : goal.overflow_sub-c
overflow_sub-c c =
    let e : ℕ = bytes_value c.args.number.now in
    rw (c.window_at.ensures, c.requires.top_value) (top_window_some e c.args.width (search rules) (search rules))

pub loop-i-init : goal.loop-i-init
unfolding window_steps
loop-i-init c =
    (search rules, refl, λ lent w. record { partial = tabled c.args.number.now c.args.width c.args.top; writing = w; rest = rw c.requires.top_value })

pub window_at-requires-in-loop-i : goal.window_at-requires-in-loop-i
window_at-requires-in-loop-i c =
    let h : c.loop-i.i - 1 ≤ c.args.top = omega arith in
    omega (arith, mul-le-mul_left c.args.width h)

pub at_window-c-requires : goal.at_window-c-requires
at_window-c-requires c =
    let args = c.args in
    let i : ℕ = c.loop-i.i - 1 in
    let f : ℕ → PartialPlan → PartialPlan = window_at args.number.now args.width in
    let all = window_steps (bytes_value args.number.now) args.width in
    let u : Underway args.out.now c.loop-i.out c.loop-i.c f (suc i) all = down_one args.out.now c.loop-i.out c.loop-i.c f all c.loop-i.i c.loop-i-test.true (under (goal.at.at_window-c-requires c).At-loop-i) in
    let room = underway_room args.out.now c.loop-i.out c.loop-i.c f all i (grows args.number.now args.width) u in
    rw c.window_at-in-loop-i.ensures (omega (arith, room, length_at_window args.width (window (bytes_value args.number.now) args.width i) u.partial, u.writing.steps))

pub loop-i-preserved : goal.loop-i-preserved
loop-i-preserved c =
    let args = c.args in
    let f : ℕ → PartialPlan → PartialPlan = window_at args.number.now args.width in
    let all = window_steps (bytes_value args.number.now) args.width in (
      search rules,
      search rules,
      λ lent w.
          let u : Underway lent c.loop-i.out c.loop-i.c f (suc (c.loop-i.i - 1)) all = down_one lent c.loop-i.out c.loop-i.c f all c.loop-i.i c.loop-i-test.true (c.loop-i.invariant.2 lent w) in
          underway_next lent c.loop-i.out c.loop-i.c f all c.at_window-c.new.out c.at_window-c.result (c.loop-i.i - 1) u (rw c.window_at-in-loop-i.ensures at (c.at_window-c.ensures.1 lent u.partial u.writing)),
    )

pub returns : goal.returns
returns c =
    let args = c.args in
    let z : c.loop-i.i ≡ 0 = omega arith in
    underway_end args.out.now c.loop-i.out c.loop-i.c (window_at args.number.now args.width) (window_steps (bytes_value args.number.now) args.width) (rw z at (under (goal.at.returns c).At-loop-i))
