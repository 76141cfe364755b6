-- `work_space::is_number` meets its contract. Assumes nothing.
use mathlib.Core.Path.{◌≡◌, sym, ◌∙◌}
use mathlib.Core.Bool.{false, ◌&&◌}
use Prim.Native.Nat.{◌^◌}
use lib.ListN.{get_or}
use lib.Dec.{eqb}
use lib.IntN.{pos}
use Rattle.rules.specs.Limits.{number_words}
use Rattle.chain_values.specs.Value.{integer_of}
use mir.Syntax.{w64}
use mir.Val.{Fits}
use Rattle.integers.specs.Positional.{bytes_value}
use Rattle.integers.specs.Signed.{is_same}
use Rattle.integers.proofs.Positional.{Below}
use Rattle.numbers.proofs.Tests.{admitted_value}
use Rattle.work_space.proofs.SameWords.{below_zero, same_number}
use borrow.Author.Rules.{rules}
use Rattle.work_space.proofs.is_number.Goals.{After-starts_with}
use Rattle.work_space.proofs.is_number.Goals as goal

pub returns-then-negative : goal.returns-then-negative
returns-then-negative c =
    sym (below_zero c.args.v (bytes_value c.args.number.now) c.if-negative.true c.bytes.ensures.positive.nonzero)

-- at or above zero, its words decide
decides : (c : After-starts_with) → c.args.v.negative ≡ false
    → c.starts_with.result && eqb (get_or c.args.v.words number_words 0) 0 ≡ is_same (integer_of c.args.v) (pos (bytes_value c.args.number.now))
decides c e =
    let words = c.args.v.words in
    let own = c.words_of-own.result in
    let words_fit : Below (2 ^ 64) words = λ i. let f : Fits w64 (get_or words i 0) = search rules in f.fits in
    let own_fit : Below (2 ^ 64) own = λ i. let f : Fits w64 (get_or own i 0) = search rules in f.fits in
    same_number c.args.v _ own number_words words_fit own_fit (search rules) (search rules) (c.words_of-own.ensures ∙ rw c.bytes.ensures.value (admitted_value c.args.number.now c.bytes.ensures.positive.admitted)) e c.starts_with.result c.starts_with.ensures.value

pub returns-then-starts_with : goal.returns-then-starts_with
returns-then-starts_with c = rw c.if-starts_with.true at (decides (goal.at.returns-then-starts_with c).After-starts_with c.if-negative.false)

pub returns-else-starts_with : goal.returns-else-starts_with
returns-else-starts_with c = c.if-starts_with.false ∙ rw c.if-starts_with.false at (decides (goal.at.returns-else-starts_with c).After-starts_with c.if-negative.false)
