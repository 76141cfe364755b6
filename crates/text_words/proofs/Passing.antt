-- The blanks that a text begins with are no part of its words, and behind them stands the first word. Assumes nothing.
use mathlib.Core.Path.{◌≡◌, refl, sym, ap, ◌∙◌}
use mathlib.Core.Bool.{Bool, true, false, cond, not}
use mathlib.Core.List.{List, [], ◌∷◌, ◌++◌, append_assoc, append-nil}
use Prim.Native.Nat.{ℕ, suc, ◌+◌, ◌-◌, ◌<◌, ◌≤◌}
use native.Mathlib.Omega.{arith}
use borrow.Author.Tests.{ltb-true, ltb-false}
use lib.Dec.{ltb}
use lib.ListN.{length, get_or, take, drop, length-drop, drop_of_length-le}
use lib.Seq.{take_all, drop-cons, length-take-le}
use Rattle.std.specs.Prelude.{Some, None}
use Rattle.std.specs.Option.{unwrap_or}
use Rattle.std.specs.List.{position_or_len, position}
use Rattle.std.proofs.lemmas.List.Sums.{prefix_len-le-length}
use Rattle.std.proofs.lemmas.List.Quantifiers.{position-Some}
use Rattle.text_words.specs.Words.{is_blank, ended, words_after, text_words}

-- a word that has begun ends as it stands
pub begun : (word : List ℕ) → 0 < length word → ended word ≡ word ∷ []
begun [] h = absurd (omega arith)
begun (c ∷ word) h = refl

-- where its first letter stands, or its length
abbrev pub blanks : List ℕ → ℕ
blanks text = position_or_len (λ c. not (is_blank c)) text

abbrev pub letters : List ℕ → ℕ
letters text = position_or_len is_blank text

one_more : (n : ℕ) → 1 + n ≡ suc n
one_more n = omega arith

-- the blanks are no part of the words
blanks_passed : (text : List ℕ) → text_words (drop (blanks text) text) ≡ text_words text
unfolding words_after
blanks_passed [] = refl
blanks_passed (c ∷ text) = go (is_blank c) refl (blanks_passed text)
  where
    go : (b : Bool) → is_blank c ≡ b → text_words (drop (blanks text) text) ≡ text_words text
        → text_words (drop (cond (not (not b)) (1 + blanks text) 0) (c ∷ text)) ≡ cond b (text_words text) (words_after (c ∷ []) text)
    go true e rest = ap (λ (n : ℕ). text_words (drop n (c ∷ text))) (one_more (blanks text)) ∙ rest
    go false e rest = rw e refl

-- up to the next blank it is one word
word_passed : (word text : List ℕ) → words_after word text ≡ ended (word ++ take (letters text) text) ++ text_words (drop (letters text) text)
unfolding words_after
word_passed word [] = rw (append-nil, append-nil) refl
word_passed word (c ∷ text) = go (is_blank c) refl (word_passed (word ++ (c ∷ [])) text)
  where
    go : (b : Bool) → is_blank c ≡ b → words_after (word ++ (c ∷ [])) text ≡ ended ((word ++ (c ∷ [])) ++ take (letters text) text) ++ text_words (drop (letters text) text)
        → cond b (ended word ++ text_words text) (words_after (word ++ (c ∷ [])) text)
        ≡ ended (word ++ take (cond (not b) (1 + letters text) 0) (c ∷ text)) ++ text_words (drop (cond (not b) (1 + letters text) 0) (c ∷ text))
    go true e rest = rw append-nil (rw e refl)
    go false e rest =
        rest
        ∙ ap (λ (l : List ℕ). ended l ++ text_words (drop (letters text) text)) (append_assoc word (c ∷ []) (take (letters text) text))
        ∙ ap (λ (n : ℕ). ended (word ++ take n (c ∷ text)) ++ text_words (drop n (c ∷ text))) (sym (one_more (letters text)))

-- where std's `position` answers a place, it is that place
module _ (p : ℕ → Bool) (text : List ℕ) where
  place : (i : ℕ) → position p text ≡ Some i → (position_or_len p text ≡ i) × (i < length text)
  place i = go (ltb (position_or_len p text) (length text)) refl
    where
      go : (b : Bool) → ltb (position_or_len p text) (length text) ≡ b → cond b (Some (position_or_len p text)) None ≡ Some i → (position_or_len p text ≡ i) × (i < length text)
      go true l e = let same : position_or_len p text ≡ i = cc in (same, omega (arith, ltb-true (position_or_len p text) (length text) l))
      go false l e = cc

  nowhere : position p text ≡ None → length text ≤ position_or_len p text
  nowhere = go (ltb (position_or_len p text) (length text)) refl
    where
      go : (b : Bool) → ltb (position_or_len p text) (length text) ≡ b → cond b (Some (position_or_len p text)) None ≡ None → length text ≤ position_or_len p text
      go true l e = cc
      go false l e = ltb-false (position_or_len p text) (length text) l

  or_length : unwrap_or (position p text) (length text) ≡ position_or_len p text
  or_length = go (ltb (position_or_len p text) (length text)) refl
    where
      go : (b : Bool) → ltb (position_or_len p text) (length text) ≡ b → unwrap_or (cond b (Some (position_or_len p text)) None) (length text) ≡ position_or_len p text
      go true l = refl
      go false l = omega (arith, ltb-false (position_or_len p text) (length text) l, prefix_len-le-length (λ x. not (p x)) text)

-- a part of a text up to its end
pub all_behind : (n : ℕ) (text : List ℕ) → take (length text - n) (drop n text) ≡ drop n text
all_behind n text = take_all (length text - n) (drop n text) (omega (arith, length-drop n text))

module _ (text : List ℕ) where
  -- a text without a letter has no words
  pub no_letter : position (λ c. not (is_blank c)) text ≡ None → text_words text ≡ []
  unfolding words_after
  no_letter e =
      let passed : text_words (drop (blanks text) text) ≡ text_words text = blanks_passed text in
      sym passed ∙ rw (drop_of_length-le text {i = blanks text} (nowhere _ text e)) refl

  -- and else the first of them stands behind the blanks, up to the next blank or the end
  module _ {start : ℕ} (found : position (λ c. not (is_blank c)) text ≡ Some start) {rest : List ℕ} (behind : rest ≡ drop start text) where
    some : 0 < letters rest
    some =
        let p = position-Some (λ c. not (is_blank c)) text start 0 found in
        let letter : is_blank (get_or text start 0) ≡ false = go (is_blank (get_or text start 0)) p.1 in
        rw (behind, drop-cons text start 0 p.0) (rw letter (omega arith))
      where
        go : (b : Bool) → not b ≡ true → b ≡ false
        go true e = sym e
        go false e = refl

    pub first_word : {end : ℕ} → end ≡ unwrap_or (position is_blank rest) (length rest) → {left : List ℕ} → left ≡ drop end rest → text_words text ≡ take end rest ∷ text_words left
    first_word {end} e {left} l =
        let same : end ≡ letters rest = e ∙ or_length is_blank rest in
        let within : letters rest ≤ length rest = prefix_len-le-length (λ x. not (is_blank x)) rest in
        let word : List ℕ = take (letters rest) rest in
        let long : 0 < length word = omega (arith, length-take-le (letters rest) rest within, some) in
        let words : text_words text ≡ text_words rest = sym (blanks_passed text) ∙ ap text_words (rw ((place _ text start found).0) (sym behind)) in
        words ∙ word_passed [] rest ∙ ap (λ (ws : List (List ℕ)). ws ++ text_words (drop (letters rest) rest)) (begun word long) ∙ rw (l, same) refl
