-- `refusal_words::text_of` meets its contract: each number's bytes are those of its text. Assumes nothing.
use mathlib.Core.Path.{refl, sym}
use native.Mathlib.Omega.{arith}
use Rattle.refusal_words.specs.Words.{text_bytes, texts, words}
use Rattle.refusal_words.proofs.Texts.{no_such_bytes}
use Rattle.refusal_words.proofs.text_of.Goals as goal

pub returns-in-0 : goal.returns-in-0
unfolding text_bytes texts words
returns-in-0 c = rw c.in-0.is refl

pub returns-in-1 : goal.returns-in-1
unfolding text_bytes texts words
returns-in-1 c = rw c.in-1.is refl

pub returns-in-2 : goal.returns-in-2
unfolding text_bytes texts words
returns-in-2 c = rw c.in-2.is refl

pub returns-in-3 : goal.returns-in-3
unfolding text_bytes texts words
returns-in-3 c = rw c.in-3.is refl

pub returns-in-4 : goal.returns-in-4
unfolding text_bytes texts words
returns-in-4 c = rw c.in-4.is refl

pub returns-in-5 : goal.returns-in-5
unfolding text_bytes texts words
returns-in-5 c = rw c.in-5.is refl

pub returns-in-6 : goal.returns-in-6
unfolding text_bytes texts words
returns-in-6 c = rw c.in-6.is refl

pub returns-in-7 : goal.returns-in-7
unfolding text_bytes texts words
returns-in-7 c = rw c.in-7.is refl

pub returns-in-8 : goal.returns-in-8
unfolding text_bytes texts words
returns-in-8 c = rw c.in-8.is refl

pub returns-in-9 : goal.returns-in-9
unfolding text_bytes texts words
returns-in-9 c = rw c.in-9.is refl

pub returns-in-10 : goal.returns-in-10
unfolding text_bytes texts words
returns-in-10 c = rw c.in-10.is refl

pub returns-in-11 : goal.returns-in-11
unfolding text_bytes texts words
returns-in-11 c = rw c.in-11.is refl

pub returns-in-12 : goal.returns-in-12
unfolding text_bytes texts words
returns-in-12 c = rw c.in-12.is refl

pub returns-in-13 : goal.returns-in-13
unfolding text_bytes texts words
returns-in-13 c = rw c.in-13.is refl

pub returns-in_default : goal.returns-in_default
returns-in_default c = sym (no_such_bytes c.args.refusal (omega arith))
