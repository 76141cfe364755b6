-- `triples::count` meets its contract. Assumes nothing.
use Rattle.std.proofs.Common.{◌≡◌, ◌*◌, ◌≤◌, arith, ap, ◌∙◌}
use Rattle.rules.specs.Limits.{number_bytes}
use Rattle.integers.specs.Bits.{bit_length}
use Rattle.integers.specs.Positional.{bytes_value}
use Rattle.integers.proofs.Bits.{bytes_length}
use Rattle.triples.proofs.Digits.{count_is}
use Rattle.triples.proofs.count.Goals.{After-bit_length-bits}
use Rattle.triples.proofs.count.Goals as goal

bits_is : (c : After-bit_length-bits) → c.bit_length-bits.result ≡ bit_length (bytes_value c.args.number.now)
bits_is c = c.bit_length-bits.ensures ∙ ap (λ l. bit_length (bytes_value l)) c.bytes-bytes.ensures.value

few : (c : After-bit_length-bits) → c.bit_length-bits.result ≤ 8 * number_bytes
few c = rw (bits_is c) (bytes_length c.args.number.now number_bytes c.bytes-bytes.ensures.small c.bytes-bytes.ensures.admitted.short)

pub overflow_add-top : goal.overflow_add-top
overflow_add-top c = omega (arith, few (goal.at.overflow_add-top c).After-bit_length-bits)

pub overflow_add-result : goal.overflow_add-result
overflow_add-result c = omega (arith, few (goal.at.overflow_add-result c).After-bit_length-bits)

pub returns : goal.returns
returns c =
    let bits = bits_is (goal.at.returns c).After-bit_length-bits in
    count_is c.args.triple.now (bytes_value c.args.number.now) c.bit_length-bits.result c.word_in.result (λ i. (c.type_inv.triple i).fits) c.requires bits c.word_in.ensures
