-- `triples::Tripled::new` meets its contract: the words below k are those of 3 e. Assumes nothing.
use Rattle.std.proofs.Common.{◌≡◌, ℕ, ◌+◌, get_or, replicate, rules, refl, arith, Fits, w64}
use Rattle.rules.specs.Limits.{number_words}
use Rattle.triples.proofs.Triple.{carry_small, tripled_none, tripled_more, tripled_all, set_fits}
use Rattle.triples.proofs.Tripled.new.Goals as goal

pub loop-k-init : goal.loop-k-init
loop-k-init c = (refl, omega arith, tripled_none c.args.words (replicate (number_words + 1) 0), λ i. search rules)

pub loop-k-preserved : goal.loop-k-preserved
loop-k-preserved c =
    let words = c.args.words in
    let fits : Fits w64 (get_or words c.loop-k.k 0) = search rules in
    let small = carry_small (get_or words c.loop-k.k 0) c.loop-k.carry c.triple_word-next.result.word c.triple_word-next.result.carry fits.fits c.loop-k.invariant.1 c.triple_word-next.ensures in
    (search rules, search rules, tripled_more c.loop-k.k words c.loop-k.triple c.triple_word-next.result.word c.loop-k.carry c.triple_word-next.result.carry (search rules) c.loop-k.invariant.2 c.triple_word-next.ensures, λ i. set_fits c.loop-k.triple c.loop-k.k c.triple_word-next.result.word i (search rules) (search rules) (c.loop-k.invariant.3 i))

pub invariant_of-result : goal.invariant_of-result
invariant_of-result c =
    let e : c.loop-k.k ≡ number_words = omega arith in
    let three = tripled_all number_words c.args.words c.loop-k.triple c.loop-k.carry (search rules) (search rules) (rw e at c.loop-k.invariant.2) in
    let words-fit : (i : ℕ) → Fits w64 (get_or c.args.words i 0) = λ i. search rules in
    (three, λ i. (words-fit i).fits, λ i. set_fits c.loop-k.triple number_words c.loop-k.carry i (search rules) (omega arith) (c.loop-k.invariant.3 i))
