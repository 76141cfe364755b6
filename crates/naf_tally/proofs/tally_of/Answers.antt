-- `naf_tally::tally_of` meets its contract: the words below an index are in the tally. Assumes nothing.
use Rattle.std.proofs.Common.{◌≡◌, ℕ, ◌+◌, ◌*◌, ◌^◌, ◌≤◌, List, length, get_or, take, drop, length-take, drop_of_length-le, add-one, add-zero, mul-zero, sym, ◌∙◌, Fits, w64, arith, rules}
use native.Mathlib.Nat.{div-eq_of_lt}
use Rattle.std.proofs.lemmas.Grind.{common_steps}
use Rattle.rules.specs.Limits.{number_words}
use Rattle.integers.specs.Positional.{positional, bytes_value, words_value}
use Rattle.integers.proofs.Powers.{power_of_power}
use Rattle.integers.proofs.Positional.{Below, positional_drop, positional_lt, positional_div, positional_split}
use Rattle.naf_tally.proofs.Tallied.{nothing_tallied, all_tallied}
use Rattle.naf_tally.proofs.tally_of.Goals.{After-div_ceil}
use Rattle.naf_tally.proofs.tally_of.Goals as goal

-- the words below n are the number where the bytes end below them
all_below : (words number : List ℕ) (n : ℕ) → Below (2 ^ 64) words → Below 256 number → words_value words ≡ bytes_value number → length number ≤ 8 * n → words_value (take n words) ≡ bytes_value number
all_below words number n fits bytes whole end =
    let none : words_value (drop n words) ≡ 0 = positional_div (2 ^ 64) words n fits ∙ rw (whole, power_of_power 256 8 n) (div-eq_of_lt (positional_lt 256 (8 * n) number end bytes)) in
    sym (sym whole ∙ positional_split (2 ^ 64) n words ∙ rw (none, mul-zero, add-zero))

few : (c : After-div_ceil) → length (take c.div_ceil.result c.words-words.result) ≤ number_words
few c =
    let long : length c.words-words.result ≡ number_words = search rules in
    omega (arith, length-take c.div_ceil.result c.words-words.result)

pub loop-word-init : goal.loop-word-init
loop-word-init c = (omega arith, record { plus = omega arith; minus = omega arith; under = omega arith; carry = omega arith }, nothing_tallied (words_value (take c.div_ceil.result c.words-words.result)))

pub with_word-below-requires-clause-places_bound : goal.with_word-below-requires-clause-places_bound
with_word-below-requires-clause-places_bound c = omega (arith, few (goal.at.with_word-below-requires-clause-places_bound c).After-div_ceil)

pub loop-word-preserved : goal.loop-word-preserved
loop-word-preserved c =
    let items = take c.div_ceil.result c.words-words.result in
    let more = c.with_word-below.ensures in
    let left = words_value (drop (c.loop-word.word-index + 1) items) in
    let e : words_value (drop c.loop-word.word-index items) ≡ left * 2 ^ 64 + get_or items c.loop-word.word-index 0 = rw add-one (omega (arith, positional_drop (2 ^ 64) items c.loop-word.word-index)) in
    (omega (arith, more.0), more.1, more.3 (words_value items) left (rw (← e) c.loop-word.invariant.2))

pub with_word-all-requires-clause-places_bound : goal.with_word-all-requires-clause-places_bound
with_word-all-requires-clause-places_bound c = omega (arith, few (goal.at.with_word-all-requires-clause-places_bound c).After-div_ceil)

pub length-requires : goal.length-requires
length-requires c = omega (arith, few (goal.at.length-requires c).After-div_ceil, c.with_word-all.ensures.1.under, c.with_word-all.ensures.0)

pub returns : goal.returns
unfolding positional
returns c =
    let number = c.args.number.now in
    let words = c.words-words.result in
    let n = c.div_ceil.result in
    let items = take n words in
    let last = c.with_word-all.ensures in
    let fits : Below (2 ^ 64) words = λ i. let f : Fits w64 (get_or words i 0) = search rules in f.fits in
    let enough : length number ≤ 8 * n = rw (← c.bytes-length.ensures.value) (grind (arith, common_steps)) in
    let whole : words_value items ≡ bytes_value number = all_below words number n fits c.bytes-length.ensures.small c.words-words.ensures enough in
    let none : words_value (drop c.loop-word.word-index items) ≡ 0 = rw (drop_of_length-le items {i = c.loop-word.word-index} c.loop-word-test.false) in
    rw (← whole, c.length.ensures) (all_tallied (words_value items) c.with_word-all.result (omega (arith, last.2, c.loop-word.invariant.1)) (last.3 (words_value items) 0 (rw none at c.loop-word.invariant.2)))
