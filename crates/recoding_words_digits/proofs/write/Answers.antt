-- `recoding_words_digits::write` meets its contract: after k turns the digits of the k low words stand. Assumes nothing.
use mathlib.Core.Path.{◌≡◌}
use mathlib.Core.List.{List, ◌++◌}
use Prim.Native.Nat.{ℕ, ◌<◌, ◌≤◌, ◌-◌, ◌+◌, ◌*◌, ◌/◌, ◌^◌}
use native.Mathlib.Omega.{arith}
use lib.IntN.{pos}
use lib.Bits.{bit_xor}
use lib.ListN.{length, take, drop, get_or, length-take}
use Rattle.integers.specs.Positional.{words_value}
use Rattle.integers.specs.Tabulate.{tabulate}
use Rattle.integers.proofs.Positional.{Below}
use Rattle.signed_digits.specs.Naf.{canonical}
use Rattle.digit_strings.specs.Places.{place_byte}
use Rattle.recoding_digits.specs.Internal.{difference}
use Rattle.recoding_digits.proofs.Parts.{front_written, part_written}
use Rattle.word_digits.specs.Internal.{Apart}
use Rattle.recoding_words_digits.proofs.Words.{above_written, written_again, word_apart, low_apart, low_written, word_written}
use borrow.Author.Rules.{rules}
use Rattle.recoding_words_digits.proofs.write.Goals.{After-word_in-less, After-write_word-2}
use Rattle.recoding_words_digits.proofs.write.Goals as goal

module _ (c : After-word_in-less) where
  words_fit : Below (2 ^ 64) c.args.words.now
  words_fit = λ i. (c.type_inv.words i).fits

  triple-fits : Below (2 ^ 64) c.args.triple.now
  triple-fits = λ i. (c.type_inv.triple i).fits

  three : words_value c.args.triple.now ≡ 3 * words_value c.args.words.now
  three = c.requires.triple_value

  -- the lowest words, halved
  module _ (more less : ℕ) (em : more ≡ get_or c.args.triple.now 0 0) (el : less ≡ get_or c.args.words.now 0 0) where
    low : Apart (bit_xor (more / 2) (less / 2))
    low = rw (em, el) (low_apart c.args.words.now c.args.triple.now words_fit triple-fits three)

    low-done : (n : ℕ) (after : List ℕ) → n ≤ 63
        → after ≡ tabulate (difference (more / 2) (less / 2)) n ++ drop n c.args.out.now
        → after ≡ tabulate (place_byte (canonical (pos (words_value c.args.words.now)))) n ++ drop n c.args.out.now
    low-done n after h w =
        low_written c.args.words.now c.args.triple.now words_fit triple-fits three n c.args.out.now after h (rw (em, el) at w)

  -- those above
  module _ (k more less : ℕ) (em : more ≡ get_or c.args.triple.now k 0) (el : less ≡ get_or c.args.words.now k 0) where
    above : Apart (bit_xor more less)
    above = rw (em, el) (word_apart c.args.words.now c.args.triple.now words_fit triple-fits three k)

    above-done : (n : ℕ) (lent out after : List ℕ) → 0 < k → n ≤ 64 → 64 * k - 1 ≤ length lent
        → out ≡ tabulate (place_byte (canonical (pos (words_value c.args.words.now)))) (64 * k - 1) ++ drop (64 * k - 1) lent
        → after ≡ take (64 * k - 1) out ++ (tabulate (difference more less) n ++ drop (64 * k - 1 + n) out)
        → after ≡ tabulate (place_byte (canonical (pos (words_value c.args.words.now)))) (64 * k - 1 + n) ++ drop (64 * k - 1 + n) lent
    above-done n lent out after some h fits o w =
        word_written c.args.words.now c.args.triple.now words_fit triple-fits three k n lent out after some h fits o (rw (em, el) at w)

-- the digits of the lowest word stand as the loop begins
begun : (c : After-write_word-2)
    → c.write_word-2.new.out ++ drop 63 c.args.out.now ≡ tabulate (place_byte (canonical (pos (words_value c.args.words.now)))) 63 ++ drop 63 c.args.out.now
begun c =
    low-done (goal.at.After-write_word-2 c).After-word_in-less _ _ c.word_in-more.ensures c.word_in-less.ensures 63 _ (omega arith) (front_written _ c.args.out.now c.write_word-2.new.out 63 (omega arith) c.write_word-2.ensures)

pub write_word-requires-clause-apart : goal.write_word-requires-clause-apart
write_word-requires-clause-apart c = low (goal.at.write_word-requires-clause-apart c).After-word_in-less _ _ c.word_in-more.ensures c.word_in-less.ensures

pub returns-then-count-lt63 : goal.returns-then-count-lt63
returns-then-count-lt63 c =
    low-done (goal.at.returns-then-count-lt63 c).After-word_in-less _ _ c.word_in-more.ensures c.word_in-less.ensures c.args.count _ (omega arith) (front_written _ c.args.out.now c.write_word.new.out c.args.count c.requires.count_in_bounds c.write_word.ensures)

pub slice_bounds-write_word-end-3 : goal.slice_bounds-write_word-end-3
slice_bounds-write_word-end-3 c = omega (arith, length-take 63 c.args.out.now)

pub write_word-requires-2-clause-room : goal.write_word-requires-2-clause-room
write_word-requires-2-clause-room c = omega (arith, length-take 63 c.args.out.now)

pub write_word-requires-2-clause-apart : goal.write_word-requires-2-clause-apart
write_word-requires-2-clause-apart c = low (goal.at.write_word-requires-2-clause-apart c).After-word_in-less _ _ c.word_in-more.ensures c.word_in-less.ensures

pub loop-k-init : goal.loop-k-init
loop-k-init c =
    let args = c.args in
    (search rules, written_again (place_byte (canonical (pos (words_value c.args.words.now)))) 63 args.out.now _ (begun (goal.at.loop-k-init c).After-write_word-2))

pub write_word-requires-in-loop-k-clause-apart : goal.write_word-requires-in-loop-k-clause-apart
write_word-requires-in-loop-k-clause-apart c = above (goal.at.write_word-requires-in-loop-k-clause-apart c).After-word_in-less c.loop-k.k _ _ c.word_in.ensures c.word_in-in-loop-k.ensures

pub loop-k-preserved : goal.loop-k-preserved
loop-k-preserved c =
    let k = c.loop-k.k in
    let up : 64 * (k + 1) - 1 ≡ 64 * k - 1 + 64 = omega arith in
    let written = part_written (difference c.word_in.result c.word_in-in-loop-k.result) c.loop-k.out c.write_word-in-loop-k.new.out (64 * k - 1) (64 * k + 63) 64 (omega arith) (omega arith) c.write_word-in-loop-k.ensures in
    (search rules, rw up (above-done (goal.at.loop-k-preserved c).After-word_in-less k _ _ c.word_in.ensures c.word_in-in-loop-k.ensures 64 _ c.loop-k.out _ (omega arith) (omega arith) (search rules) c.loop-k.invariant.1 written))

pub write_word-requires-3-clause-apart : goal.write_word-requires-3-clause-apart
write_word-requires-3-clause-apart c = above (goal.at.write_word-requires-3-clause-apart c).After-word_in-less ((c.args.count + 1) / 64) _ _ c.word_in-2.ensures c.word_in-3.ensures

pub returns : goal.returns
returns c =
    let count : ℕ = c.args.count in
    let k : ℕ = (count + 1) / 64 in
    let whole : c.loop-k.k ≡ k = omega arith in
    let rest : ℕ = count - (64 * k - 1) in
    let all : 64 * k - 1 + rest ≡ count = omega arith in
    let written = part_written (difference c.word_in-2.result c.word_in-3.result) c.loop-k.out c.write_word-3.new.out (64 * k - 1) count rest all (omega arith) c.write_word-3.ensures in
    let done = above-done (goal.at.returns c).After-word_in-less k _ _ c.word_in-2.ensures c.word_in-3.ensures rest (c.write_word-2.new.out ++ drop 63 c.args.out.now) c.loop-k.out _ (omega arith) (omega arith) (search rules) (rw whole at c.loop-k.invariant.1) written in
    let untouched = above_written (place_byte (canonical (pos (words_value c.args.words.now)))) 63 c.args.out.now _ (begun (goal.at.returns c).After-write_word-2) count (omega arith) in
    rw (all, untouched) at done
