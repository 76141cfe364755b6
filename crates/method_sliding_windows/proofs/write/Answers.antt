-- `method_sliding_windows::write` meets its contract: from the first window on, the scan below place i gives the rest. Assumes nothing.
use mathlib.Core.Path.{◌≡◌, refl}
use mathlib.Core.List.{List}
use Prim.Native.Nat.{ℕ, ◌*◌, ◌-◌, ◌≤◌}
use native.Mathlib.Omega.{arith}
use lib.ListN.{length}
use Rattle.rules.specs.Limits.{step_bytes}
use Rattle.integers.specs.Positional.{bytes_value, words_value}
use Rattle.integers.proofs.Bits.{some_bits}
use Rattle.methods.specs.SlidingWindows.{sliding_window_steps}
use Rattle.method_sliding_windows.proofs.Scan.{InWords, in_words, Sliding, sliding_room, sliding_next, sliding_end, begun, sliding_all, table_room}
use borrow.Author.Rules.{rules}
use Rattle.method_sliding_windows.proofs.write.Goals.{After-bit_length, At-loop-i}
use Rattle.method_sliding_windows.proofs.write.Goals as goal

module _ (c : After-bit_length) where
  abbrev given : List ℕ
  given = c.args.number.now

  abbrev width : ℕ
  width = c.args.width

  abbrev lent : List ℕ
  lent = c.args.out.now

  abbrev words : List ℕ
  words = c.words-words.result

  number : InWords given words (c.bit_length.result - 1)
  number =
      in_words given words c.bit_length.result c.words-words.ensures.small c.words-words.ensures.positive c.words-words.ensures.value (rw c.bytes.ensures.value at c.bit_length.ensures)

  wide : 1 ≤ width
  wide = search rules

  room : step_bytes * length (sliding_window_steps (words_value words) width) ≤ length lent
  room = rw number.same c.requires

-- what is written so far, as part of all steps
sliding : (c : At-loop-i) →
    Sliding (lent (goal.at.At-loop-i c).After-bit_length) c.loop-i.out c.loop-i.c (words_value (words (goal.at.At-loop-i c).After-bit_length)) (width (goal.at.At-loop-i c).After-bit_length) c.loop-i.i (sliding_window_steps (words_value (words (goal.at.At-loop-i c).After-bit_length)) (width (goal.at.At-loop-i c).After-bit_length))
sliding c =
    let start = (goal.at.At-loop-i c).After-bit_length in
    let table = c.write_table-table.ensures in
    sliding_all (words_value (words start)) (width start) (number start).some (wide start) c.start_of-start.result c.start_of-start.ensures (lent start) c.loop-i.out c.loop-i.c c.loop-i.i
    (c.loop-i.invariant.1 (lent start) (begun c.start_of-start.result) (record { steps = table.steps; latest = refl; bytes = table.bytes }))

pub overflow_sub-bit_length : goal.overflow_sub-bit_length
overflow_sub-bit_length c = omega (arith, rw c.bytes.ensures.value at c.bit_length.ensures, some_bits (bytes_value (given (goal.at.overflow_sub-bit_length c).After-bit_length)) (search rules))

pub start_of-start-requires : goal.start_of-start-requires
start_of-start-requires c =
    let h = number (goal.at.start_of-start-requires c).After-bit_length in
    record {
      words_nonzero = omega (arith, h.some);
      n_value = h.top;
      n_bound = omega (arith, h.top, h.few);
    }

pub write_table-table-requires : goal.write_table-table-requires
write_table-table-requires c =
    let start = (goal.at.write_table-table-requires c).After-bit_length in
    omega (arith, room start, table_room (words_value (words start)) (width start) (number start).some (wide start) c.start_of-start.result c.start_of-start.ensures)

pub loop-i-init : goal.loop-i-init
loop-i-init c = (refl, λ lent b w. record { partial = b; writing = w; rest = refl })

pub at_window-c-requires : goal.at_window-c-requires
at_window-c-requires c =
    let start = (goal.at.at_window-c-requires c).After-bit_length in
    let more = sliding_room (lent start) c.loop-i.out c.loop-i.c (words_value (words start)) (width start) (sliding_window_steps (words_value (words start)) (width start)) (wide start) c.loop-i.i (sliding (goal.at.at_window-c-requires c).At-loop-i) c.next_window-taken.result c.next_window-taken.ensures in
    omega (arith, more, room start)

pub loop-i-preserved : goal.loop-i-preserved
loop-i-preserved c =
    let start = (goal.at.loop-i-preserved c).After-bit_length in (
      search rules,
      λ l b w.
          let u = c.loop-i.invariant.1 l b w in
          sliding_next l c.loop-i.out c.loop-i.c (words_value (words start)) (width start) _ (wide start) c.loop-i.i u c.next_window-taken.result c.next_window-taken.ensures c.at_window-c.new.out c.at_window-c.result (c.at_window-c.ensures.1 l u.partial u.writing),
    )

pub returns : goal.returns
returns c =
    let start = (goal.at.returns c).After-bit_length in
    let z : c.loop-i.i ≡ 0 = omega arith in
    rw (← (number start).same)
    (sliding_end (lent start) c.loop-i.out c.loop-i.c (words_value (words start)) (width start) (sliding_window_steps (words_value (words start)) (width start)) (rw z at (sliding (goal.at.returns c).At-loop-i)))
