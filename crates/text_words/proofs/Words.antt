-- What every word is, and how many a text can have. Assumes nothing.
use mathlib.Core.Path.{◌≡◌, refl, sym, ap, ◌∙◌}
use mathlib.Core.Bool.{Bool, true, false, cond}
use mathlib.Core.List.{List, [], ◌∷◌, ◌++◌, flatten, append_assoc, append-nil}
use Prim.Native.Nat.{ℕ, zero, suc, ◌+◌, ◌*◌, ◌/◌, ◌<◌, ◌≤◌}
use native.Mathlib.Omega.{arith}
use lib.ListN.{length, get_or, length-append}
use Rattle.text_words.specs.Words.{is_blank, ended, words_after, text_words}
use Rattle.text_words.proofs.Passing.{begun}

-- ---- a word has a byte, and no blank

abbrev pub NoBlank : List ℕ → Type 0
NoBlank word = (i : ℕ) → i < length word → is_blank (get_or word i 0) ≡ false

abbrev pub IsWord : List ℕ → Type 0
IsWord word = (0 < length word) × NoBlank word

none : NoBlank []
none i h = absurd (omega arith)

one_more : (word : List ℕ) (c : ℕ) → NoBlank word → is_blank c ≡ false → NoBlank (word ++ (c ∷ []))
one_more [] c clear e zero h = e
one_more [] c clear e (suc i) h = absurd (omega arith)
one_more (d ∷ word) c clear e zero h = clear zero (omega arith)
one_more (d ∷ word) c clear e (suc i) h = one_more word c (λ j l. clear (suc j) (omega arith)) e i (omega arith)

-- of a word that has ended, and words behind it
then : (word : List ℕ) (words : List (List ℕ)) → NoBlank word → ((n : ℕ) → n < length words → IsWord (get_or words n []))
    → (n : ℕ) → n < length (ended word ++ words) → IsWord (get_or (ended word ++ words) n [])
then [] words clear each n h = each n h
then (c ∷ word) words clear each zero h = (omega arith, clear)
then (c ∷ word) words clear each (suc n) h = each n (omega arith)

after : (word text : List ℕ) → NoBlank word → (n : ℕ) → n < length (words_after word text) → IsWord (get_or (words_after word text) n [])
unfolding words_after
after [] [] clear n h = absurd (omega arith)
after (c ∷ word) [] clear zero h = (omega arith, clear)
after (c ∷ word) [] clear (suc n) h = absurd (omega arith)
after word (c ∷ text) clear n h =
    go (is_blank c) refl h (λ m l. after [] text none m l) (λ e m l. after (word ++ (c ∷ [])) text (one_more word c clear e) m l)
  where
    go : (b : Bool) → is_blank c ≡ b → n < length (cond b (ended word ++ words_after [] text) (words_after (word ++ (c ∷ [])) text))
        → ((m : ℕ) → m < length (words_after [] text) → IsWord (get_or (words_after [] text) m []))
        → (is_blank c ≡ false → (m : ℕ) → m < length (words_after (word ++ (c ∷ [])) text) → IsWord (get_or (words_after (word ++ (c ∷ [])) text) m []))
        → IsWord (get_or (cond b (ended word ++ words_after [] text) (words_after (word ++ (c ∷ [])) text)) n [])
    go true e l blank letter = then word (words_after [] text) clear blank n l
    go false e l blank letter = letter e n l

pub is_word : (text : List ℕ) (n : ℕ) → n < length (text_words text) → IsWord (get_or (text_words text) n [])
is_word text n h = after [] text none n h

-- ---- the words are the longest runs: without a blank it is all one word, and a blank parts words

alone : (word text : List ℕ) → NoBlank text → words_after word text ≡ ended (word ++ text)
unfolding words_after
alone word [] clear = rw append-nil
alone word (c ∷ text) clear = rw (clear zero (omega arith)) (alone (word ++ (c ∷ [])) text (λ i h. clear (suc i) (omega arith)) ∙ ap ended (append_assoc word (c ∷ []) text))

pub word_alone : (word : List ℕ) → IsWord word → text_words word ≡ word ∷ []
word_alone word (some, clear) = alone [] word clear ∙ begun word some

apart : (word a b : List ℕ) (c : ℕ) → is_blank c ≡ true → words_after word (a ++ (c ∷ b)) ≡ words_after word a ++ text_words b
unfolding words_after
apart word [] b c blank = rw blank
apart word (d ∷ a) b c blank = go (is_blank d) (apart [] a b c blank) (apart (word ++ (d ∷ [])) a b c blank)
  where
    go : (t : Bool) → text_words (a ++ (c ∷ b)) ≡ text_words a ++ text_words b → words_after (word ++ (d ∷ [])) (a ++ (c ∷ b)) ≡ words_after (word ++ (d ∷ [])) a ++ text_words b
        → cond t (ended word ++ text_words (a ++ (c ∷ b))) (words_after (word ++ (d ∷ [])) (a ++ (c ∷ b))) ≡ cond t (ended word ++ text_words a) (words_after (word ++ (d ∷ [])) a) ++ text_words b
    go true new on = ap (λ (ws : List (List ℕ)). ended word ++ ws) new ∙ sym (append_assoc (ended word) (text_words a) (text_words b))
    go false new on = on

pub words_apart : (a b : List ℕ) (c : ℕ) → is_blank c ≡ true → text_words (a ++ (c ∷ b)) ≡ text_words a ++ text_words b
words_apart = apart []

-- ---- no byte but blanks is left out, and all stay in order

-- the bytes of a text that are no blanks
unfoldable pub letters : List ℕ → List ℕ
letters [] = []
letters (c ∷ text) = cond (is_blank c) (letters text) (c ∷ letters text)

word_first : (word : List ℕ) (words : List (List ℕ)) → flatten (ended word ++ words) ≡ word ++ flatten words
unfolding flatten
word_first [] words = refl
word_first (c ∷ word) words = refl

kept : (word text : List ℕ) → flatten (words_after word text) ≡ word ++ letters text
unfolding words_after letters flatten
kept [] [] = refl
kept (c ∷ word) [] = refl
kept word (c ∷ text) = go (is_blank c) (kept [] text) (kept (word ++ (c ∷ [])) text)
  where
    go : (t : Bool) → flatten (text_words text) ≡ letters text → flatten (words_after (word ++ (c ∷ [])) text) ≡ (word ++ (c ∷ [])) ++ letters text
        → flatten (cond t (ended word ++ text_words text) (words_after (word ++ (c ∷ [])) text)) ≡ word ++ cond t (letters text) (c ∷ letters text)
    go true new on = word_first word (text_words text) ∙ ap (λ (l : List ℕ). word ++ l) new
    go false new on = on ∙ append_assoc word (c ∷ []) (letters text)

pub all_kept : (text : List ℕ) → flatten (text_words text) ≡ letters text
all_kept = kept []

-- ---- each word but the last has a blank behind it

at_most_one : (word : List ℕ) → length (ended word) ≤ 1
at_most_one [] = omega arith
at_most_one (c ∷ word) = omega arith

has_begun : (word : List ℕ) (c : ℕ) → length (ended (word ++ (c ∷ []))) ≡ 1
has_begun [] c = refl
has_begun (d ∷ word) c = refl

room : (word text : List ℕ) → 2 * length (words_after word text) ≤ length text + 1 + length (ended word)
unfolding words_after
room [] [] = omega arith
room (c ∷ word) [] = omega arith
room word (c ∷ text) = go (is_blank c) (room [] text) (room (word ++ (c ∷ [])) text)
  where
    go : (b : Bool) → 2 * length (words_after [] text) ≤ length text + 1 + length (ended []) → 2 * length (words_after (word ++ (c ∷ [])) text) ≤ length text + 1 + length (ended (word ++ (c ∷ [])))
        → 2 * length (cond b (ended word ++ words_after [] text) (words_after (word ++ (c ∷ [])) text)) ≤ suc (length text) + 1 + length (ended word)
    go true blank letter = rw length-append (omega (arith, at_most_one word))
    go false blank letter = omega (arith, has_begun word c)

pub words_room_lem : (text : List ℕ) → length (text_words text) ≤ (length text + 1) / 2
words_room_lem text = omega (arith, room [] text)
