-- Digit strings as people write them: a word for each digit, the most significant first.
use Rattle.rules.specs.declared.Refusal.{Refusal}
use Rattle.std.specs.Prelude.{ℕ, Bool, true, false, cond, List, [], ◌∷◌, map, reverse, eqb, length, Result}
use Rattle.rules.specs.Memory.{fitted, leaves}
use Rattle.text_words.specs.Words.{text_words}

-- two words are the same, byte for byte
unfoldable pub same : List ℕ → List ℕ → Bool
same [] [] = true
same [] (d ∷ other) = false
same (c ∷ word) [] = false
same (c ∷ word) (d ∷ other) = cond (eqb c d) (same word other) false

-- 0, 1 and -1 in ASCII
abbrev pub zero_word : List ℕ
zero_word = 48 ∷ []

abbrev pub one_word : List ℕ
one_word = 49 ∷ []

abbrev pub minus_one_word : List ℕ
minus_one_word = 45 ∷ 49 ∷ []

-- the byte of the digit that a word is; 2, which is no digit, for any other word
unfoldable pub word_digit : List ℕ → ℕ
word_digit word = cond (same word zero_word) 0 (cond (same word one_word) 1 (cond (same word minus_one_word) 255 2))

-- the digits of a text, least significant first
unfoldable pub text_digits : List ℕ → List ℕ
text_digits text = reverse (map word_digit (text_words text))

-- into a lent buffer: all of them or, where there is no room, nothing and refusal 6
abbrev pub digits_answer : List ℕ → ℕ → Result ℕ Refusal
digits_answer text room = fitted (text_digits text) room

-- the buffer afterwards
abbrev pub digits_buffer : List ℕ → List ℕ → List ℕ
digits_buffer text out = leaves (digits_answer text (length out)) (text_digits text) out
