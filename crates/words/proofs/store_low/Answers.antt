-- `words::store_low` meets its contract: after i turns the i low bytes stand. Assumes nothing.
use Rattle.std.proofs.Common.{◌≡◌, ◌+◌, ◌/◌, ◌%◌, ◌^◌, sym, refl, ◌∙◌, add-zero, pow-suc, div-one, add-one, take-append-drop, rules}
use native.Mathlib.Nat.{div-div-eq-div-mul}
use Rattle.integers.specs.Positional.{low_bytes}
use Rattle.integers.proofs.Blocks.{place_one}
use Rattle.integers.proofs.LowBytes.{length_low, low_add}
use Rattle.words.proofs.store_low.Goals as goal

pub loop-i-init : goal.loop-i-init
unfolding low_bytes
loop-i-init c =
    let args = c.args in
    (refl, sym (div-one args.word), rw add-zero (sym (take-append-drop args.at args.bytes.now)))

pub loop-i-preserved : goal.loop-i-preserved
unfolding low_bytes
loop-i-preserved c =
    let args = c.args in
    let bytes = args.bytes.now in
    let less : c.loop-i.rest / 256 ≡ args.word / 256 ^ (c.loop-i.i + 1) = rw (c.loop-i.invariant.1, div-div-eq-div-mul, add-one, pow-suc) in
    let one = place_one bytes args.at c.loop-i.i (low_bytes c.loop-i.i args.word) (length_low c.loop-i.i args.word) (c.loop-i.rest % 256) (search rules) in
    (search rules, less, rw c.loop-i.invariant.2 (one ∙ rw (c.loop-i.invariant.1, low_add c.loop-i.i 1 args.word)))
