-- `wide_digits::recoded` meets its contract. Assumes nothing.
use Prim.Native.Nat.{◌+◌}
use borrow.Author.Rules.{rules}
use Rattle.rules.specs.Limits.{number_bytes}
use Rattle.wide_digits.proofs.Padded.{zeros_above, bytes_bits}
use Rattle.wide_digits.proofs.recoded.Goals as goal

pub write-requires-clause-bytes_bound : goal.write-requires-clause-bytes_bound
write-requires-clause-bytes_bound c = rw (c.copy_from_slice.ensures.after, zeros_above c.bytes-number.result.now (number_bytes + 8)) (bytes_bits c.bytes-number.result.now (λ i. search rules))

pub returns-clause-form : goal.returns-clause-form
returns-clause-form c = rw (← c.bytes-number.ensures.value) (rw (c.copy_from_slice.ensures.after, zeros_above c.bytes-number.result.now (number_bytes + 8)) at c.write.ensures.form)
