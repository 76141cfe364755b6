-- `recoding_words_digits::write_raised` meets its contract: after k turns the digits of the k low words stand. Assumes nothing.
use mathlib.Core.Path.{◌≡◌, refl}
use Prim.Native.Nat.{◌+◌, ◌*◌}
use native.Mathlib.Omega.{arith}
use Rattle.integers.specs.Tabulate.{tabulate}
use Rattle.recoding_digits.specs.Internal.{difference}
use Rattle.recoding_digits.proofs.Parts.{part_written}
use Rattle.recoding_words_digits.proofs.Words.{word_apart, raised_written, raised_at}
use borrow.Author.Rules.{rules}
use Rattle.recoding_words_digits.proofs.write_raised.Goals as goal

pub loop-k-init : goal.loop-k-init
unfolding tabulate
loop-k-init c = (refl, refl)

pub write_word-requires-clause-apart : goal.write_word-requires-clause-apart
write_word-requires-clause-apart c =
    rw (c.word_in.ensures, c.word_in-in-loop-k.ensures) (word_apart c.args.words.now c.args.triple.now (λ i. (c.type_inv.words i).fits) (λ i. (c.type_inv.triple i).fits) c.requires.triple_value c.loop-k.k)

pub loop-k-preserved : goal.loop-k-preserved
loop-k-preserved c =
    let k = c.loop-k.k in
    let up : 64 * (k + 1) ≡ 64 * k + 64 = omega arith in
    let written = part_written (difference c.word_in.result c.word_in-in-loop-k.result) c.loop-k.out c.write_word.new.out (64 * k) (64 * k + 64) 64 refl (omega arith) c.write_word.ensures in
    (search rules, rw up (raised_written c.args.words.now c.args.triple.now (λ i. (c.type_inv.words i).fits) (λ i. (c.type_inv.triple i).fits) c.requires.triple_value k c.args.out.now c.loop-k.out _ (omega arith) c.loop-k.invariant.1 (rw (c.word_in.ensures, c.word_in-in-loop-k.ensures) at written)))

pub returns : goal.returns
returns c =
    λ i h. raised_at c.args.words.now c.args.triple.now (λ i. (c.type_inv.words i).fits) (λ i. (c.type_inv.triple i).fits) c.requires.triple_value (64 * c.loop-k.k) c.args.out.now c.loop-k.out c.loop-k.invariant.1 i (omega arith)
