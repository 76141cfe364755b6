-- `records::distance_between` meets its contract: the k low words of the absolute value are found. Assumes nothing.
use mathlib.Core.Path.{◌≡◌}
use Prim.Native.Nat.{ℕ, ◌^◌}
use native.Mathlib.Nat.{lt_of_lt_of_le}
use native.Mathlib.Omega.{arith}
use lib.ListN.{length, get_or, replicate}
use mir.Syntax.{w64}
use mir.Val.{Fits}
use Rattle.rules.specs.Limits.{value_words}
use Rattle.integers.specs.Positional.{bytes_value}
use Rattle.integers.proofs.Positional.{Below, positional_lt}
use Rattle.records.specs.Recording.{size_bytes}
use Rattle.records.proofs.Limits.{bound_once}
use Rattle.records.proofs.Records.{size_below}
use Rattle.records.proofs.Sizes.{absolute_none, absolute_more, absolute_all}
use borrow.Author.Rules.{rules}
use Rattle.records.proofs.distance_between.Goals.{After-subtracted-below}
use Rattle.records.proofs.distance_between.Goals as goal

pub loop-k-init : goal.loop-k-init
loop-k-init c =
    (search rules, absolute_none c.subtracted-below.result.1 c.subtracted-below.result.0 (replicate value_words 0))

pub loop-k-preserved : goal.loop-k-preserved
loop-k-preserved c =
    let below = c.subtracted-below.result.1 in
    let given = c.subtracted-below.result.0 in
    let fits : Fits w64 (get_or given c.loop-k.k 0) = search rules in
    let fits-2 : Fits w64 c.borrowing_sub.result.0 = search rules in (
      search rules,
      absolute_more c.loop-k.k given c.loop-k.word-items c.borrowing_sub.result.0 c.loop-k.borrow c.borrowing_sub.result.1 (search rules) fits.fits fits-2.fits below (rw c.from-mask.ensures at c.borrowing_sub.ensures) c.loop-k.invariant.1,
    )

given_long : (c : After-subtracted-below) → length c.subtracted-below.result.0 ≡ value_words
given_long c = search rules

pub returns : goal.returns
returns c =
    let args = c.args in
    let size : ℕ → ℕ = λ at. bytes_value (size_bytes args.space.now at) in
    let bytes : Below 256 args.space.now = λ i. (c.type_inv.space i).fits in
    let given = c.subtracted-below.result.0 in
    let fits : Below (2 ^ 64) given = λ i. let f : Fits w64 (get_or given i 0) = search rules in f.fits in
    let long : length given ≡ value_words = given_long (goal.at.returns c).After-subtracted-below in
    let e : c.loop-k.k ≡ value_words = search rules in
    absolute_all value_words (size args.a) (size args.b) given c.loop-k.word-items c.loop-k.borrow long c.loop-k.invariant.0 (positional_lt (2 ^ 64) value_words given (omega arith) fits)
    (lt_of_lt_of_le (size_below args.space.now args.b bytes) bound_once) c.subtracted-below.result.1 c.subtracted-below.ensures (rw e at c.loop-k.invariant.1)
