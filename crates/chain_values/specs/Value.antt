-- A value of a chain as the checker holds it: the words of its size, and whether it is below zero.
use Rattle.std.specs.Prelude.{ℤ}
use Rattle.integers.specs.Positional.{words_value}
use Rattle.integers.specs.Signed.{signed}
use Rattle.chain_values.specs.declared.Value.{Value}

unfoldable pub integer_of : Value → ℤ
integer_of v = signed v.negative (words_value v.words)
