-- What the call promises of a text's digits. Assumes nothing.
use Rattle.std.specs.Prelude.{Ok}
use mathlib.Core.Path.{◌≡◌, refl, ◌∙◌}
use mathlib.Core.Logic.{◌↔◌, ◌⊎◌, ◌≢◌, inl, inr}
use mathlib.Core.Bool.{Bool, true, false, cond}
use mathlib.Core.List.{List, [], ◌∷◌, ◌++◌, map, reverse, reverse_aux, reverse-cons}
use Prim.Native.Nat.{ℕ, zero, suc, ◌+◌, ◌-◌, ◌/◌, ◌<◌, ◌≤◌}
use native.Mathlib.Omega.{arith}
use native.Mathlib.Decide.{dec_lt}
use lib.ListN.{length, get_or, drop, length-map, length-reverse, get_or-append}
use lib.Seq.{get_or_at}
use Rattle.rules.specs.Outcome.{Outcome, refused, answered, written_outcome}
use Rattle.rules.proofs.Fitted.{fits}
use Rattle.rules.proofs.Untested as untested
use Rattle.text_words.specs.Words.{is_blank, words_after, text_words}
use Rattle.text_words.proofs.Words.{words_room_lem}
use Rattle.digit_text.specs.Digits.{same, zero_word, one_word, minus_one_word, word_digit, text_digits, digits_answer, digits_buffer}
use Rattle.digit_text.proofs.Comparing.{same_is, same_not}
use Rattle.digit_text.proofs.Filling.{as_many}

-- a digit for each word
pub digit_each : (text : List ℕ) → length (text_digits text) ≡ length (text_words text)
digit_each = as_many

-- the most significant first: the last word's digit stands at place 0
reversed : (words : List (List ℕ)) (i : ℕ) → i < length words → get_or (reverse (map word_digit words)) i 0 ≡ word_digit (get_or words (length words - 1 - i) [])
reversed [] i h = absurd (omega arith)
reversed (word ∷ words) i h = rw (reverse-cons (word_digit word) (map word_digit words)) (go (dec_lt i (length words)) (λ l. reversed words i l))
  where
    before : List ℕ
    before = reverse (map word_digit words)

    many : length before ≡ length words
    many = length-reverse (map word_digit words) ∙ length-map words word_digit

    go : Dec (i < length words) → (i < length words → get_or before i 0 ≡ word_digit (get_or words (length words - 1 - i) []))
        → get_or (before ++ (word_digit word ∷ [])) i 0 ≡ word_digit (get_or (word ∷ words) (suc (length words) - 1 - i) [])
    go (yes l) rest =
        let next : suc (length words) - 1 - i ≡ suc (length words - 1 - i) = omega arith in
        rw next (get_or-append before (word_digit word ∷ []) 0 i (omega (arith, many)) ∙ rest l)
    go (no l) rest =
        let last : suc (length words) - 1 - i ≡ 0 = omega arith in
        rw last (get_or_at before (word_digit word) [] 0 i (omega (arith, many)))

pub digit_at_lem : (text : List ℕ) (i : ℕ) → i < length (text_words text) → get_or (text_digits text) i 0 ≡ word_digit (get_or (text_words text) (length (text_words text) - 1 - i) [])
unfolding text_digits
digit_at_lem text = reversed (text_words text)

-- ---- a word's byte is a digit's, and that digit's own word; or it is 2, and the word is no digit's

pub data IsDigitOf (word : List ℕ) : ℕ → Type 0 where
  zero_is : word ≡ zero_word → IsDigitOf word 0
  one_is : word ≡ one_word → IsDigitOf word 1
  minus_one_is : word ≡ minus_one_word → IsDigitOf word 255
  no_digit : word ≢ zero_word → word ≢ one_word → word ≢ minus_one_word → IsDigitOf word 2

pub digit_of_word : (word : List ℕ) → IsDigitOf word (word_digit word)
unfolding word_digit
digit_of_word word = go (same word zero_word) refl (same word one_word) refl (same word minus_one_word) refl
  where
    go : (a : Bool) → same word zero_word ≡ a → (b : Bool) → same word one_word ≡ b → (c : Bool) → same word minus_one_word ≡ c
        → IsDigitOf word (cond a 0 (cond b 1 (cond c 255 2)))
    go true e b f c g = zero_is (same_is word zero_word e)
    go false e true f c g = one_is (same_is word one_word f)
    go false e false f true g = minus_one_is (same_is word minus_one_word g)
    go false e false f false g = no_digit (same_not word zero_word e) (same_not word one_word f) (same_not word minus_one_word g)

-- no byte but this one
pub digit_only : {word : List ℕ} {b : ℕ} → IsDigitOf word b → word_digit word ≡ b
unfolding same word_digit
digit_only (zero_is e) = rw e
digit_only (one_is e) = rw e
digit_only (minus_one_is e) = rw e
digit_only {word} (no_digit z o m) = go (digit_of_word word)
  where
    go : {b : ℕ} → IsDigitOf word b → b ≡ 2
    go (zero_is e) = absurd (z e)
    go (one_is e) = absurd (o e)
    go (minus_one_is e) = absurd (m e)
    go (no_digit _ _ _) = refl

-- ---- so every byte is 0, 1, 255 or 2

abbrev pub DigitOrOther : ℕ → Type 0
DigitOrOther b = (b ≡ 0) ⊎ ((b ≡ 1) ⊎ ((b ≡ 255) ⊎ (b ≡ 2)))

word_byte : (word : List ℕ) (b : ℕ) → IsDigitOf word b → DigitOrOther b
word_byte word b (zero_is e) = inl refl
word_byte word b (one_is e) = inr (inl refl)
word_byte word b (minus_one_is e) = inr (inr (inl refl))
word_byte word b (no_digit _ _ _) = inr (inr (inr refl))

each_byte : (words : List (List ℕ)) (bytes : List ℕ) → ((n : ℕ) → DigitOrOther (get_or bytes n 0)) → (n : ℕ) → DigitOrOther (get_or (reverse_aux (map word_digit words) bytes) n 0)
each_byte [] bytes h n = h n
each_byte (word ∷ words) bytes h n = each_byte words (word_digit word ∷ bytes) more n
  where
    more : (m : ℕ) → DigitOrOther (get_or (word_digit word ∷ bytes) m 0)
    more zero = word_byte word (word_digit word) (digit_of_word word)
    more (suc m) = h m

pub digit_or_other : (text : List ℕ) (n : ℕ) → DigitOrOther (get_or (text_digits text) n 0)
unfolding text_digits
digit_or_other text n = each_byte (text_words text) [] (λ m. inl refl) n

-- and so is every byte that the call writes
pub written_bytes : (text out : List ℕ) (n : ℕ) → length (text_words text) ≤ length out → n < length (text_words text) → DigitOrOther (get_or (digits_buffer text out) n 0)
written_bytes text out n room h =
    let all : length (text_digits text) ≤ length out = omega (arith, as_many text) in
    let here : n < length (text_digits text) = omega (arith, as_many text) in
    rw (fits (text_digits text) (length out) all, get_or-append (text_digits text) (drop (length (text_digits text)) out) 0 n here) (digit_or_other text n)

-- ---- half the text's length, rounded up, is room enough

pub digits_answered : (text : List ℕ) (room : ℕ) → (length text + 1) / 2 ≤ room → digits_answer text room ≡ Ok (length (text_digits text))
digits_answered text room h = fits (text_digits text) room (omega (arith, as_many text, words_room_lem text))

-- ---- each outcome is given exactly when the rules say, and no other

module _ (text : List ℕ) (room : ℕ) where
  abbrev pub outcome : Outcome
  outcome = written_outcome (digits_answer text room)

  -- 6, place the bytes needed: the digits are more than the bytes lent
  pub refuses_6 : (p : ℕ) → outcome ≡ refused 6 p ↔ (room < length (text_digits text)) × (p ≡ length (text_digits text))
  refuses_6 = untested.refuses_6 (text_digits text) room

  -- otherwise the length is answered
  pub answers : (vs : List ℕ) → outcome ≡ answered vs ↔ (length (text_digits text) ≤ room) × (vs ≡ length (text_digits text) ∷ [])
  answers = untested.answers (text_digits text) room

  -- every outcome is one of these
  pub no_other : untested.Given (text_digits text) room outcome
  no_other = untested.no_other (text_digits text) room

-- ---- memory

module _ (text out : List ℕ) where
  -- a refusal changes nothing
  pub refused_leaves : (n p : ℕ) → outcome text (length out) ≡ refused n p → digits_buffer text out ≡ out
  refused_leaves = untested.refused_leaves (text_digits text) out

  -- on success the digits stand at the start of the buffer, and the bytes above stay
  pub answered_leaves : (vs : List ℕ) → outcome text (length out) ≡ answered vs
      → digits_buffer text out ≡ text_digits text ++ drop (length (text_digits text)) out
  answered_leaves = untested.answered_leaves (text_digits text) out

-- ---- examples: "1 0 -1" is 3, and "-0" and "11" are no digits

pub three : text_digits (49 ∷ 32 ∷ 48 ∷ 32 ∷ 45 ∷ 49 ∷ []) ≡ 255 ∷ 0 ∷ 1 ∷ []
unfolding is_blank words_after same word_digit text_digits
three = refl

pub others : text_digits (45 ∷ 48 ∷ 10 ∷ 49 ∷ 49 ∷ 32 ∷ []) ≡ 2 ∷ 2 ∷ []
unfolding is_blank words_after same word_digit text_digits
others = refl
