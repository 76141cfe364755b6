-- The words of a text: the longest runs of bytes that are no blanks.
use Rattle.std.specs.Prelude.{ℕ, Bool, true, false, cond, List, [], ◌∷◌, ◌++◌, eqb, ltb, leb}

-- a space, or a byte from tab to carriage return
unfoldable pub is_blank : ℕ → Bool
is_blank c = cond (eqb c 32) true (cond (ltb c 9) false (leb c 13))

-- a word that has ended, if it has begun
abbrev pub ended : List ℕ → List (List ℕ)
ended [] = []
ended (c ∷ word) = (c ∷ word) ∷ []

-- the words of a text behind a word that has begun
unfoldable pub words_after : List ℕ → List ℕ → List (List ℕ)
words_after word [] = ended word
words_after word (c ∷ text) = cond (is_blank c) (ended word ++ words_after [] text) (words_after (word ++ (c ∷ [])) text)

abbrev pub text_words : List ℕ → List (List ℕ)
text_words text = words_after [] text
