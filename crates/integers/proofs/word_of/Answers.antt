-- `integers::word_of` meets its contract: the word is the value of the bytes that the iterator has given. Assumes nothing.
use Rattle.std.proofs.Common.{◌≡◌, ◌+◌, ◌*◌, ◌^◌, ◌<◌, length, arith, append-nil, refl, ◌∙◌}
use lib.Seq.{drop-length}
use Rattle.integers.specs.Positional.{positional}
use Rattle.integers.proofs.Words.{eight_bytes, word_left, word_more, word_room}
use Rattle.integers.proofs.word_of.Goals.{In-Some-byte}
use Rattle.integers.proofs.word_of.Goals as goal

pub returns-in-Some : goal.returns-in-Some
returns-in-Some c =
    let whole = c.in-Some.ensures.cases in
    c.from_le_bytes.ensures ∙ rw whole.same (eight_bytes c.args.bytes.now whole.long)

pub loop-byte-init : goal.loop-byte-init
unfolding positional
loop-byte-init c =
    let all : c.into_iter-byte-iterator.result.iter.rest.now ≡ c.args.bytes.now = cc in
    rw (all, drop-length, append-nil) (refl, refl)

room : (c : In-Some-byte) → 256 * c.loop-byte.word + c.in-Some-byte.byte.now < 2 ^ 64
room c =
    let e = c.in-Some-byte.ensures.steps in
    word_room c.args.bytes.now c.next.new.self.iter.rest.now c.in-Some-byte.byte.now c.loop-byte.word (rw e at c.loop-byte.invariant.0) (rw e at c.loop-byte.invariant.1) c.requires (λ i. (c.type_inv.bytes i).fits)

pub overflow_mul-word : goal.overflow_mul-word
overflow_mul-word c = omega (arith, room c)

pub overflow_add-word : goal.overflow_add-word
overflow_add-word c = omega (arith, room (goal.at.overflow_add-word c).In-Some-byte)

pub loop-byte-preserved : goal.loop-byte-preserved
loop-byte-preserved c =
    let bytes = c.args.bytes.now in
    let left = c.next.new.self.iter.rest.now in
    let e = c.in-Some-byte.ensures.steps in
    let word = rw e at c.loop-byte.invariant.1 in
    let read = rw e at c.loop-byte.invariant.0 in
    (word_left bytes left c.in-Some-byte.byte.now c.loop-byte.word read word, rw c.from.ensures (word_more bytes left c.in-Some-byte.byte.now c.loop-byte.word read word))

pub returns : goal.returns
returns c =
    let none : length c.loop-byte.byte-iterator.iter.rest.now ≡ 0 = c.in-None.ensures.steps.0 in
    rw none at c.loop-byte.invariant.1
