-- `step_words::read` meets its contract: each name leads to its operation. Assumes nothing.
use mathlib.Core.Path.{◌≡◌, sym, ap, ◌∙◌}
use mathlib.Core.Bool.{true, false}
use Rattle.step_words.specs.Word.{step_in, begins, add_name, subtract_name, word_step}
use Rattle.step_words.proofs.Names.{begins_same}
use Rattle.step_words.proofs.read.Goals as goal

pub returns-in-Some : goal.returns-in-Some
unfolding word_step
returns-in-Some c =
    let word = c.args.word.now in
    let cases = c.in-Some.ensures.cases in
    let adds : begins add_name word ≡ true = sym (begins_same add_name word) ∙ cases.0 in
    simp adds (c.step_in.ensures ∙ ap (step_in 0) cases.1)

pub returns-in-Some-strip_prefix : goal.returns-in-Some-strip_prefix
unfolding word_step
returns-in-Some-strip_prefix c =
    let word = c.args.word.now in
    let cases = c.in-Some-strip_prefix.ensures.cases in
    let adds : begins add_name word ≡ false = sym (begins_same add_name word) ∙ c.in_default.ensures.cases in
    let subtracts : begins subtract_name word ≡ true = sym (begins_same subtract_name word) ∙ cases.0 in
    simp (adds, subtracts) (c.step_in-in-Some-strip_prefix.ensures ∙ ap (step_in 1) cases.1)

pub returns : goal.returns
unfolding word_step
returns c =
    let word = c.args.word.now in
    let adds : begins add_name word ≡ false = sym (begins_same add_name word) ∙ c.in_default.ensures.cases in
    let subtracts : begins subtract_name word ≡ false = sym (begins_same subtract_name word) ∙ c.in_default-strip_prefix.ensures.cases in
    simp (adds, subtracts)
