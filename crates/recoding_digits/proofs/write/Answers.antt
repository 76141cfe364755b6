-- `recoding_digits::write` meets its contract: after k turns the digits of the k low bytes stand. Assumes nothing.
use mathlib.Core.Path.{◌≡◌, refl, sym}
use Prim.Native.Nat.{◌+◌, ◌*◌, ◌/◌, ◌%◌}
use native.Mathlib.Omega.{arith}
use lib.IntN.{pos}
use Rattle.integers.specs.Positional.{bytes_value}
use Rattle.integers.specs.Tabulate.{tabulate}
use Rattle.integers.proofs.Tabulate.{tabulate_join}
use Rattle.signed_digits.specs.Naf.{canonical}
use Rattle.digit_strings.specs.Places.{place_byte}
use Rattle.recoding_digits.proofs.Triple.{carry_none}
use borrow.Author.Rules.{rules}
use Rattle.recoding_digits.proofs.write.Goals as goal

pub loop-k-init : goal.loop-k-init
unfolding tabulate
loop-k-init c = (refl, sym (carry_none (bytes_value c.args.number.now)), refl)

pub loop-k-preserved : goal.loop-k-preserved
loop-k-preserved c =
    let args = c.args in
    let digit = place_byte (canonical (pos (bytes_value args.number.now))) in
    let e : 8 * (c.loop-k.k + 1) ≡ 8 * c.loop-k.k + 8 = omega arith in (
      search rules,
      c.write_byte-carry.ensures.carried,
      rw e (rw (c.loop-k.invariant.2, tabulate_join digit args.out.now (8 * c.loop-k.k) 8 (search rules)) at c.write_byte-carry.ensures.buffer),
    )

pub returns : goal.returns
returns c =
    let args = c.args in
    let digit = place_byte (canonical (pos (bytes_value args.number.now))) in
    let k : c.loop-k.k ≡ args.count / 8 = omega arith in
    let e : 8 * (args.count / 8) + args.count % 8 ≡ args.count = omega arith in
    rw (c.loop-k.invariant.2, k, tabulate_join digit args.out.now (8 * (args.count / 8)) (args.count % 8) (omega arith), e) at c.write_byte.ensures.buffer
