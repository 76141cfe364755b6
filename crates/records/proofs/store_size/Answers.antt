-- `records::store_size` meets its contract: after k turns the bytes of the first k words stand. Assumes nothing.
use mathlib.Core.Path.{◌≡◌, refl, sym}
use Prim.Native.Nat.{◌-◌, ◌^◌}
use native.Mathlib.Nat.{add-zero}
use native.Mathlib.Omega.{arith}
use lib.ListN.{get_or, take-append-drop}
use mir.Syntax.{w64}
use mir.Val.{Fits}
use Rattle.rules.specs.Limits.{value_words}
use Rattle.integers.specs.Positional.{low_bytes}
use Rattle.integers.proofs.Positional.{Below}
use Rattle.records.proofs.Limits.{top_byte}
use Rattle.records.proofs.Sizes.{size_more, size_top}
use borrow.Author.Rules.{rules}
use Rattle.records.proofs.store_size.Goals as goal

pub loop-k-init : goal.loop-k-init
unfolding low_bytes
loop-k-init c =
    let args = c.args in
    (refl, rw add-zero (sym (take-append-drop args.at args.space.now)))

pub loop-k-preserved : goal.loop-k-preserved
loop-k-preserved c =
    let args = c.args in
    let words = args.words in
    let fits : Below (2 ^ 64) words = λ i. let f : Fits w64 (get_or words i 0) = search rules in f.fits in
    (search rules, size_more args.space.now args.at c.loop-k.k words (search rules) fits c.loop-k.invariant.1 c.store_word.ensures)

pub returns : goal.returns
returns c =
    let args = c.args in
    let words = args.words in
    let fits : Below (2 ^ 64) words = λ i. let f : Fits w64 (get_or words i 0) = search rules in f.fits in
    let e : c.loop-k.k ≡ value_words - 1 = omega arith in
    rw (top_byte, c.loop-k.invariant.1, e) (size_top args.space.now args.at (value_words - 1) words (search rules) fits)
