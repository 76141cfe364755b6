-- `word_digits::write_word` meets its contract: after j turns the digits of the j low bytes stand. Assumes nothing.
use mathlib.Core.Path.{◌≡◌, refl}
use Prim.Native.Nat.{ℕ, ◌+◌, ◌*◌, ◌/◌, ◌%◌}
use native.Mathlib.Omega.{arith}
use mathlib.Core.List.{append-nil}
use lib.ListN.{length}
use lib.Seq.{drop-length}
use Rattle.integers.specs.Tabulate.{tabulate}
use Rattle.word_digits.proofs.Fours.{eight_digits, digits_from_start}
use borrow.Author.Rules.{rules}
use Rattle.word_digits.proofs.write_word.Goals as goal

pub loop-j-init : goal.loop-j-init
unfolding tabulate
loop-j-init c = (refl, refl)

pub loop-j-preserved : goal.loop-j-preserved
loop-j-preserved c =
    let args = c.args in
    let j = c.loop-j.j in
    let up : 8 * (j + 1) ≡ 8 * j + 8 = omega arith in
    let digits = eight_digits args.more args.less c.requires.apart c.indices-low.result c.indices-high.result j (omega arith) c.indices-low.ensures c.indices-high.ensures in
    (search rules, rw up (digits_from_start args.more args.less (8 * j) 8 args.out.now c.loop-j.out _ c.eight_digits.result (omega arith) c.loop-j.invariant.1 (rw (c.eight_digits.ensures, c.requires.fours_value) digits) c.store_word.ensures))

pub returns-then-rest-gt0 : goal.returns-then-rest-gt0
returns-then-rest-gt0 c =
    let args = c.args in
    let out = args.out.now in
    let whole : ℕ = length out / 8 in
    let j : c.loop-j.j ≡ whole = omega arith in
    let all : 8 * whole + length out % 8 ≡ length out = omega arith in
    let digits = eight_digits args.more args.less c.requires.apart c.indices-low.result c.indices-high.result whole (omega arith) c.indices-low.ensures c.indices-high.ensures in
    let done = digits_from_start args.more args.less (8 * whole) (length out % 8) out c.loop-j.out _ c.eight_digits-then-rest-gt0.result (omega arith) (rw j at c.loop-j.invariant.1) (rw (c.eight_digits-then-rest-gt0.ensures, c.requires.fours_value) digits) c.store_low.ensures in
    rw (all, drop-length out, append-nil) at done
