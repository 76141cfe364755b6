-- `recoding_digits::carry_above` meets its contract. Assumes nothing.
use mathlib.Core.Path.{◌≡◌, sym, ◌∙◌}
use Prim.Native.Nat.{ℕ, ◌+◌, ◌*◌, ◌/◌, ◌%◌, ◌^◌}
use native.Mathlib.Omega.{arith}
use Rattle.integers.specs.Positional.{bytes_value}
use Rattle.integers.proofs.Positional.{positional_at}
use Rattle.recoding_digits.specs.Internal.{triple_carry}
use Rattle.recoding_digits.proofs.Triple.{carry_none, carry_small, carry_step}
use borrow.Author.Rules.{rules}
use Rattle.recoding_digits.proofs.carry_above.Goals as goal

pub loop-byte-init : goal.loop-byte-init
loop-byte-init c = (search rules, sym (carry_none (bytes_value c.args.low.now)))

pub loop-byte-preserved : goal.loop-byte-preserved
loop-byte-preserved c =
    let e : ℕ = bytes_value c.args.low.now in
    let k : ℕ = c.loop-byte.byte-index in
    let byte : c.from.result ≡ e / 256 ^ k % 256 = c.from.ensures ∙ positional_at 256 c.args.low.now k (λ i. (c.type_inv.low i).fits) in
    let carry : (3 * c.from.result + c.loop-byte.carry) / 256 ≡ triple_carry e (k + 1) = rw (byte, c.loop-byte.invariant.1) (sym (carry_step e k)) in
    (omega (arith, carry, carry_small e (k + 1)), carry)
