-- `step_text::read_steps` meets its contract: the steps of the words read stand at the start of the buffer. Assumes nothing.
use mathlib.Core.Path.{◌≡◌, refl, sym, ap, ◌∙◌}
use mathlib.Core.Logic.{inl, inr}
use Prim.Native.Nat.{ℕ, ◌<◌, ◌*◌}
use native.Mathlib.Omega.{arith}
use lib.ListN.{length}
use Rattle.rules.specs.Limits.{step_bytes, plan_steps}
use Rattle.rules.proofs.Returns.{returns_refused, returns_written}
use Rattle.text_words.specs.Words.{text_words}
use Rattle.step_text.specs.Steps.{text_steps}
use Rattle.step_reading.specs.Fields.{as_step}
use Rattle.step_text.proofs.Written.{length_steps, too_many, counted, count_only, start, finish, room_more, step_more}
use Rattle.step_text.proofs.read_steps.Goals as goal

pub returns-then-words-gt-MOST_WORDS : goal.returns-then-words-gt-MOST_WORDS
returns-then-words-gt-MOST_WORDS c =
    let text = c.args.text.now in
    let many : plan_steps < length (text_words text) = rw c.word_count-words.ensures at c.if-words-gt-MOST_WORDS.true in
    let only = count_only (too_many many) in
    record { answer = rw only refl; buffer = rw only refl }

pub returns-then-out-words : goal.returns-then-out-words
returns-then-out-words c =
    let args = c.args in
    let count = c.word_count-words.ensures in
    let text = args.text.now in
    let all = returns_refused (λ w. w) (text_steps text) args.out.now (count_only (counted (rw count at c.if-words-gt-MOST_WORDS.false))) (ap (λ (n : ℕ). step_bytes * n) count ∙ sym (length_steps text)) (omega arith) in
    record { answer = all.0; buffer = all.1 }

pub loop-n-init : goal.loop-n-init
loop-n-init c =
    let room = rw c.word_count-words.ensures at c.if-out-words.false in
    rw (c.into_iter-n-iterator.ensures.into_iter_gives, c.zip-n-items.ensures.first, c.zip-n-items.ensures.second) (record { last = refl; written = start c.args.text.now c.args.out.now room })

pub put-requires : goal.put-requires
put-requires c =
    let steps = c.in-Some.ensures.steps in
    let now = c.loop-n.n-iterator in
    rw steps.0.1.1 (room_more c.args.text.now c.args.out.now now.b.0.now now.a.start c.loop-n.out c.loop-n.invariant.written c.in-Some.word.now c.next.new.self.b.0.now steps.1)

pub loop-n-preserved : goal.loop-n-preserved
loop-n-preserved c =
    let steps = c.in-Some.ensures.steps in
    let now = c.loop-n.n-iterator in
    let written = rw steps.0.1.1 at c.put.ensures in
    rw (steps.0.0, steps.0.1.2) (record {
      last = c.loop-n.invariant.last;
      written = step_more c.args.text.now c.args.out.now now.b.0.now now.a.start c.loop-n.out c.loop-n.invariant.written c.in-Some.word.now c.next.new.self.b.0.now steps.1 (as_step c.step_of-step.result) c.step_of-step.ensures written;
    })

pub returns : goal.returns
returns c =
    let args = c.args in
    let text = args.text.now in
    let count = c.word_count-words.ensures in
    let now = c.loop-n.n-iterator in
    let u = c.loop-n.invariant.written in
    let none : length (text_words now.b.0.now) ≡ 0 = elim c.in-None.ensures.steps [ inl h ↦ omega (arith, h.1) | inr h ↦ ap length h.1.0 ] in
    let done = finish text args.out.now now.b.0.now now.a.start c.loop-n.out u none in
    let all = returns_written (λ w. w) (text_steps text) args.out.now (count_only (counted (rw count at c.if-words-gt-MOST_WORDS.false))) (ap (λ (n : ℕ). step_bytes * n) count ∙ sym (length_steps text)) (omega arith) (rw count done) in
    record { answer = all.0; buffer = all.1 }
