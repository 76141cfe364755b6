-- A text's digits, put into a buffer from the last one down. Assumes nothing.
use mathlib.Core.Path.{◌≡◌, sym, ap, ◌∙◌}
use mathlib.Core.List.{List, [], ◌∷◌, ◌++◌, map, append_assoc, reverse-cons}
use Prim.Native.Nat.{ℕ, suc, ◌+◌, ◌<◌, ◌≤◌}
use native.Mathlib.Numerals.{add-one}
use native.Mathlib.Omega.{arith}
use lib.ListN.{length, get_or, set, take, drop, length-append, length-map, length-reverse, take-append-drop}
use lib.Seq.{take-suc, take-take, take_at, get_or-take, get_or_at, set_at, drop-cons, length-take-le, drop-length}
use Rattle.text_words.specs.Words.{text_words}
use Rattle.digit_text.specs.Digits.{word_digit, text_digits}

pub as_many : (text : List ℕ) → length (text_digits text) ≡ length (text_words text)
unfolding text_digits
as_many text = omega (arith, length-reverse (map word_digit (text_words text)), length-map (text_words text) word_digit)

-- the first word's digit is the last one
first_last : (a b word : List ℕ) → text_words a ≡ word ∷ text_words b → text_digits a ≡ text_digits b ++ (word_digit word ∷ [])
unfolding text_digits
first_last a b word e = rw e (reverse-cons (word_digit word) (map word_digit (text_words b)))

-- a text of which a part is left, whose digits are the low ones: its first word's digit is the highest of these
module _ (text rest after : List ℕ) (place : ℕ) (word : List ℕ) (more : text_words rest ≡ word ∷ text_words after) (low : text_digits rest ≡ take (place + 1) (text_digits text)) (within : place < length (text_digits text)) where
  ends : take (place + 1) (text_digits text) ≡ text_digits after ++ (word_digit word ∷ [])
  ends = sym low ∙ first_last rest after word more

  count : length (text_digits after) ≡ place
  count =
      let all : place + 1 ≡ length (text_digits after) + 1 =
      sym (length-take-le (place + 1) (text_digits text) (omega arith)) ∙ ap length ends ∙ length-append (text_digits after) (word_digit word ∷ []) in
      omega arith

  pub low_fewer : text_digits after ≡ take place (text_digits text)
  low_fewer = sym (take_at (text_digits after) (word_digit word ∷ []) place count) ∙ ap (take place) (sym ends) ∙ take-take place (place + 1) (text_digits text) (omega arith)

  pub here : word_digit word ≡ get_or (text_digits text) place 0
  here =
      sym (get_or_at (text_digits after) (word_digit word) [] 0 place count)
      ∙ ap (λ (l : List ℕ). get_or l place 0) (sym ends)
      ∙ get_or-take (place + 1) (text_digits text) place 0 (omega arith)

-- there are as many words left as digits
pub some_left : (text rest : List ℕ) (left : ℕ) → text_digits rest ≡ take left (text_digits text) → left ≤ length (text_digits text) → length (text_words rest) ≡ left
some_left text rest left low within = sym (as_many rest) ∙ ap length low ∙ length-take-le left (text_digits text) within

-- the bytes from a place on are written, up to their number
abbrev pub filled : List ℕ → List ℕ → ℕ → List ℕ
filled bytes out left = take left out ++ (drop left bytes ++ drop (length bytes) out)

pub unfilled : (bytes out : List ℕ) (n : ℕ) → n ≡ length bytes → out ≡ filled bytes out n
unfilled bytes out n e = rw (e, drop-length) (sym (take-append-drop (length bytes) out))

pub fill_more : (bytes out : List ℕ) (place b : ℕ) → place < length bytes → length bytes ≤ length out → b ≡ get_or bytes place 0
    → set (filled bytes out (place + 1)) place b ≡ filled bytes out place
fill_more bytes out place b within room e =
    let here_out : place < length out = omega arith in
    let start : length (take place out) ≡ place = length-take-le place out (omega arith) in
    rw (add-one, e, take-suc out place 0 here_out, append_assoc, set_at (take place out) (get_or out place 0) (drop (suc place) bytes ++ drop (length bytes) out) (get_or bytes place 0) place start, drop-cons bytes place 0 within)
