-- `TextWords::next` gives the first word that is left. Assumes nothing.
use mathlib.Core.Path.{◌≡◌, sym, ◌∙◌}
use mathlib.Core.List.{[]}
use Rattle.text_words.specs.Words.{text_words}
use Rattle.text_words.proofs.Passing.{all_behind, no_letter, first_word}
use borrow.Author.Rules.{rules}
use Rattle.text_words.proofs.TextWordsIterator.next.Goals as goal

pub returns-in_err-start-clause-steps : goal.returns-in_err-start-clause-steps
returns-in_err-start-clause-steps c =
    let none : text_words c.args.self.now.0.now ≡ [] = no_letter c.args.self.now.0.now (sym c.first_letter.ensures ∙ c.in_err-start.was) in
    rw c.from_residual.ensures (search rules)

pub returns-clause-steps : goal.returns-clause-steps
returns-clause-steps c =
    let text = c.args.self.now.0.now in
    first_word text (sym c.first_letter.ensures ∙ c.in_ok-start.was) (all_behind c.in_ok-start.start text) (rw c.first_blank.ensures at c.unwrap_or-end.ensures) (all_behind c.unwrap_or-end.result _)

pub returns-clause-goes : goal.returns-clause-goes
returns-clause-goes c =
    let text = c.args.self.now.0.now in
    let word = first_word text (sym c.first_letter.ensures ∙ c.in_ok-start.was) (all_behind c.in_ok-start.start text) (rw c.first_blank.ensures at c.unwrap_or-end.ensures) (all_behind c.unwrap_or-end.result _) in
    search rules
