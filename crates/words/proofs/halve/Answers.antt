-- `words::halve` meets its contract: the words below k are those of half the number. Assumes nothing.
use Rattle.std.proofs.Common.{◌≡◌, ◌-◌, refl, arith, rules}
use Rattle.rules.specs.Limits.{number_words}
use Rattle.words.proofs.Halves.{halved_none, halved_more, halved_all}
use Rattle.words.proofs.halve.Goals as goal

pub loop-k-init : goal.loop-k-init
loop-k-init c = (refl, halved_none number_words c.args.words.now)

pub loop-k-preserved : goal.loop-k-preserved
loop-k-preserved c =
    (search rules, rw c.half_word.ensures (halved_more number_words c.args.words.now c.loop-k.words c.loop-k.k (omega arith) (omega arith) c.loop-k.invariant.1))

pub returns : goal.returns
returns c =
    let e : c.loop-k.k ≡ number_words - 1 = omega arith in
    let all = halved_all number_words c.args.words.now c.loop-k.words (number_words - 1) (omega arith) refl (rw e at c.loop-k.invariant.1) in
    record { value = all.0; rest = all.1 }
