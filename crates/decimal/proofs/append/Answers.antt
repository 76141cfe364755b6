-- `decimal::append` meets its contract: the bytes passed are written, and what they leave out is carried. Assumes nothing.
use mathlib.Core.Path.{◌≡◌, ap, ◌∙◌}
use mathlib.Core.List.{List}
use Prim.Native.Nat.{ℕ, ◌<◌, ◌+◌, ◌*◌, ◌/◌, ◌%◌, ◌^◌}
use native.Mathlib.Omega.{arith}
use lib.ListN.{get_or, set}
use Rattle.integers.specs.Positional.{positional, low_bytes}
use Rattle.decimal.proofs.Carry.{total, low_next, append_more, carry_more, byte_times}
use borrow.Author.Rules.{rules}
use Rattle.decimal.proofs.append.Goals as goal

pub loop-byte-init : goal.loop-byte-init
unfolding positional low_bytes
loop-byte-init c = search rules

pub loop-byte-preserved : goal.loop-byte-preserved
loop-byte-preserved c =
    let args = c.args in
    let l = args.bytes.now in
    let now = c.loop-byte in
    let k = now.byte-index in
    let byte : c.from.result < 256 = omega arith in
    let sum : ℕ = c.from.result * args.factor + now.carry in
    let same : c.from.result ≡ get_or l k 0 = c.from.ensures ∙ ap (λ (b : List ℕ). get_or b k 0) now.invariant.3 ∙ low_next l (total l args.factor args.addend k) k (omega arith) in
    let here : get_or l k 0 * args.factor + total l args.factor args.addend k / 256 ^ k ≡ sum = rw (← same, ← now.invariant.2) in (
      search rules,
      omega (arith, byte_times c.from.result args.factor byte),
      carry_more l args.factor args.addend k sum here,
      ap (λ (b : List ℕ). set b k (sum % 256)) now.invariant.3 ∙ append_more l args.factor args.addend k sum here (omega arith),
    )
