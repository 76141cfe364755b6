-- `words::bits_down` meets its contract. Assumes nothing.
use Rattle.std.proofs.Common.{◌≡◌, ◌+◌, ◌-◌, ◌*◌, ◌/◌, ◌%◌, ◌^◌, mod-lt, arith, pow_pos}
use Rattle.integers.specs.Positional.{words_value}
use Rattle.words.proofs.Down.{bits_down}
use Rattle.words.proofs.bits_down.Goals.{After-word_under}
use Rattle.words.proofs.bits_down.Goals as goal

-- the sum of what the two words give
sum : (c : After-word_under) →
    let args = c.args in
    c.word_in.result * 2 ^ (63 - args.n % 64) % 2 ^ 64 + c.word_under.result / 2 ^ (args.n % 64) / 2 ≡ 2 ^ 64 * words_value args.words.now / 2 ^ (args.n + 1) % 2 ^ 64
sum c =
    let args = c.args in
    rw (c.word_in.ensures, c.word_under.ensures) (bits_down args.words.now (λ i. (c.type_inv.words i).fits) args.n)

pub overflow_add-result : goal.overflow_add-result
overflow_add-result c =
    let args = c.args in
    omega (arith, sum (goal.at.overflow_add-result c).After-word_under, mod-lt (2 ^ 64 * words_value args.words.now / 2 ^ (args.n + 1)) (pow_pos 64))

pub returns : goal.returns
returns c = sum (goal.at.returns c).After-word_under
