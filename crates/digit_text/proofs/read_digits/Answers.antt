-- `digit_text::read_digits` meets its contract: the words passed are the high digits, which stand in their places. Assumes nothing.
use Rattle.std.specs.Prelude.{Ok}
use mathlib.Core.Path.{◌≡◌, refl, sym, ap, ◌∙◌}
use mathlib.Core.List.{List}
use mathlib.Core.Logic.{inl, inr}
use Prim.Native.Nat.{ℕ, ◌+◌, ◌<◌}
use native.Mathlib.Omega.{arith}
use lib.ListN.{length, set}
use lib.Seq.{take-length}
use Rattle.rules.proofs.Returns.{returns_refused, returns_written}
use Rattle.digit_text.specs.Digits.{text_digits}
use Rattle.digit_text.proofs.Filling.{as_many, some_left, low_fewer, here, unfilled, fill_more}
use borrow.Author.Rules.{rules}
use Rattle.digit_text.proofs.read_digits.Goals as goal

pub returns-then-out-n : goal.returns-then-out-n
returns-then-out-n c =
    let args = c.args in
    let text = args.text.now in
    let all = returns_refused (λ w. w) {tests = (Ok tt)} (text_digits text) args.out.now refl (c.word_count-n.ensures ∙ sym (as_many text)) (search rules) in
    record { answer = all.0; buffer = all.1 }

pub loop-place-init : goal.loop-place-init
loop-place-init c =
    let text = c.args.text.now in
    let n = c.word_count-n.result in
    let all : n ≡ length (text_digits text) = c.word_count-n.ensures ∙ sym (as_many text) in
    rw (c.into_iter-place-iterator.ensures.into_iter_gives, c.zip-place-items.ensures.first, c.zip-place-items.ensures.second, c.rev.ensures.source) (record {
      first = refl;
      most = omega arith;
      long = refl;
      low = rw (all, take-length);
      high = unfilled (text_digits text) c.args.out.now n all;
    })

pub bounds-out-place : goal.bounds-out-place
bounds-out-place c = omega (arith, c.in-Some.ensures.steps)

pub loop-place-preserved : goal.loop-place-preserved
loop-place-preserved c =
    let text = c.args.text.now in
    let all : c.word_count-n.result ≡ length (text_digits text) = c.word_count-n.ensures ∙ sym (as_many text) in
    let place = c.in-Some.place in
    let steps = c.in-Some.ensures.steps in
    let next = c.next.new.self in
    let now = c.loop-place.place-iterator in
    let here_is : place ≡ next.a.iter.end = steps.0.1.1 in
    let one : now.a.iter.end ≡ place + 1 = omega arith in
    let within : place < length (text_digits text) = omega arith in
    let low = rw one at c.loop-place.invariant.low in
    let high = rw one at c.loop-place.invariant.high in
    let digit = c.digit_of.ensures ∙ here text now.b.0.now next.b.0.now place c.in-Some.word.now steps.1 low within in
    rw (← here_is) (record {
      first = omega arith;
      most = omega arith;
      long = search rules;
      low = low_fewer text now.b.0.now next.b.0.now place c.in-Some.word.now steps.1 low within;
      high = ap (λ (l : List ℕ). set l place c.digit_of.result) high ∙ fill_more (text_digits text) c.args.out.now place c.digit_of.result within (omega arith) digit;
    })

pub returns : goal.returns
returns c =
    let args = c.args in
    let text = args.text.now in
    let all : c.word_count-n.result ≡ length (text_digits text) = c.word_count-n.ensures ∙ sym (as_many text) in
    let left = c.loop-place.place-iterator.a.iter.end in
    let rest = c.loop-place.place-iterator.b.0.now in
    let words = some_left text rest left c.loop-place.invariant.low (omega arith) in
    let done : left ≡ 0 = elim c.in-None.ensures.steps [ inl h ↦ omega (arith, h.1) | inr h ↦ omega (arith, words, ap length h.1.0) ] in
    let all = returns_written (λ w. w) {tests = (Ok tt)} (text_digits text) args.out.now refl all (search rules) (rw all (rw done at c.loop-place.invariant.high)) in
    record { answer = all.0; buffer = all.1 }
