-- What read digits writes, clean and read back take exactly if every word is 0, 1 or -1. Assumes nothing.
use Rattle.std.specs.Prelude.{Ok, Err}
use mathlib.Core.Path.{◌≡◌, refl, sym, ◌∙◌}
use mathlib.Core.Logic.{◌↔◌, ◌⊎◌, inl, inr}
use mathlib.Core.Bool.{Bool, true, false, true≢false}
use mathlib.Core.List.{List, []}
use Prim.Native.Nat.{ℕ, ◌-◌, ◌<◌, ◌≤◌}
use native.Mathlib.Omega.{arith}
use lib.IntN.{pos, negsuc}
use lib.ListN.{length, get_or}
use Rattle.rules.specs.Limits.{string_digits}
use Rattle.rules.specs.declared.Refusal.TheVariants.{NotADigit}
use Rattle.signed_digits.specs.Bytes.{byte_digit}
use Rattle.signed_digits.specs.Naf.{canonical_width}
use Rattle.digit_strings.specs.Admission.{digit_up_to, is_digit, string_verdict, DigitString, LowestBad}
use Rattle.digit_strings.proofs.Digits.{digit_2}
use Rattle.digit_strings.proofs.Tests.{bad_digit, string_only, string_test, digit_string_is}
use Rattle.text_words.specs.Words.{text_words}
use Rattle.digit_text.specs.Digits.{same, zero_word, one_word, minus_one_word, word_digit, text_digits}
use Rattle.digit_text.proofs.Promises.{IsDigitOf, zero_is, one_is, minus_one_is, no_digit, digit_of_word, digit_only, digit_each, digit_at_lem}

-- ---- a word

-- 0, 1 or -1
abbrev pub DigitWord : List ℕ → Type 0
DigitWord word = (word ≡ zero_word) ⊎ ((word ≡ one_word) ⊎ (word ≡ minus_one_word))

-- the bytes of these words are digits, and that of any other word is none
pub digit_bytes_lem : (is_digit canonical_width 0 ≡ true) × (is_digit canonical_width 1 ≡ true) × (is_digit canonical_width 255 ≡ true) × (is_digit canonical_width 2 ≡ false)
unfolding digit_up_to
digit_bytes_lem = (refl, refl, refl, refl)

-- they are the digits that the words say
pub digits_mean : (byte_digit (word_digit zero_word) ≡ pos 0) × (byte_digit (word_digit one_word) ≡ pos 1) × (byte_digit (word_digit minus_one_word) ≡ negsuc 0)
unfolding same word_digit
digits_mean = (refl, refl, refl)

module _ (word : List ℕ) where
  pub digit_word : is_digit canonical_width (word_digit word) ≡ true ↔ DigitWord word
  digit_word = (λ e. to (digit_of_word word) ((digit_2 (word_digit word)).0 e), λ h. (digit_2 (word_digit word)).1 (from h))
    where
      to : {b : ℕ} → IsDigitOf word b → (b ≡ 0) ⊎ ((b ≡ 1) ⊎ (b ≡ 255)) → DigitWord word
      to (zero_is e) _ = inl e
      to (one_is e) _ = inr (inl e)
      to (minus_one_is e) _ = inr (inr e)
      to (no_digit _ _ _) (inl q) = absurd (omega arith)
      to (no_digit _ _ _) (inr (inl q)) = absurd (omega arith)
      to (no_digit _ _ _) (inr (inr q)) = absurd (omega arith)

      from : DigitWord word → (word_digit word ≡ 0) ⊎ ((word_digit word ≡ 1) ⊎ (word_digit word ≡ 255))
      from (inl e) = inl (digit_only (zero_is e))
      from (inr (inl e)) = inr (inl (digit_only (one_is e)))
      from (inr (inr e)) = inr (inr (digit_only (minus_one_is e)))

  pub other_word : is_digit canonical_width (word_digit word) ≡ false ↔ (DigitWord word → ⊥)
  other_word = (λ e h. true≢false (sym (digit_word.1 h) ∙ e), λ n. go (is_digit canonical_width (word_digit word)) refl n)
    where
      go : (t : Bool) → is_digit canonical_width (word_digit word) ≡ t → (DigitWord word → ⊥) → is_digit canonical_width (word_digit word) ≡ false
      go true e n = absurd (n (digit_word.0 e))
      go false e n = e

-- ---- a text

module _ (text : List ℕ) where
  abbrev pub word_count : ℕ
  word_count = length (text_words text)

  -- the word of a place: that of place 0 is the last
  abbrev pub place_word : ℕ → List ℕ
  place_word i = get_or (text_words text) (word_count - 1 - i) []

  -- within the limit, and every word a digit
  pub record DigitText : Type 0 where
    pub within : word_count ≤ string_digits
    pub digits : (n : ℕ) → n < word_count → DigitWord (get_or (text_words text) n [])

  -- the place of the last word that is no digit
  pub record LastOther (p : ℕ) : Type 0 where
    pub within : p < word_count
    pub other : DigitWord (place_word p) → ⊥
    pub behind : (i : ℕ) → i < p → DigitWord (place_word i)

  to_string : DigitText → DigitString canonical_width (text_digits text)
  to_string d = record {
    within = omega (arith, d.within, digit_each text);
    digits = λ i h. let k : i < word_count = omega (arith, digit_each text) in rw (digit_at_lem text i k) ((digit_word (place_word i)).1 (d.digits (word_count - 1 - i) (omega arith)));
  }

  of_string : DigitString canonical_width (text_digits text) → DigitText
  of_string d = record { within = omega (arith, d.within, digit_each text); digits = each }
    where
      each : (n : ℕ) → n < word_count → DigitWord (get_or (text_words text) n [])
      each n h =
          let i : ℕ = word_count - 1 - n in
          let back : word_count - 1 - i ≡ n = omega arith in
          rw back at ((digit_word (place_word i)).0 (rw (digit_at_lem text i (omega arith)) at (d.digits i (omega (arith, digit_each text)))))

  to_bad : {p : ℕ} → LastOther p → LowestBad canonical_width (text_digits text) p
  to_bad {p} l = record {
    within = omega (arith, l.within, digit_each text);
    bad = rw (digit_at_lem text p l.within) ((other_word (place_word p)).1 l.other);
    lowest = λ i q. rw (digit_at_lem text i (omega (arith, l.within))) ((digit_word (place_word i)).1 (l.behind i q));
  }

  of_bad : {p : ℕ} → LowestBad canonical_width (text_digits text) p → LastOther p
  of_bad {p} l =
      let k : p < word_count = omega (arith, l.within, digit_each text) in
      record {
        within = k;
        other = (other_word (place_word p)).0 (rw (digit_at_lem text p k) at l.bad);
        behind = λ i q. (digit_word (place_word i)).0 (rw (digit_at_lem text i (omega arith)) at (l.lowest i q));
      }

  -- its digits pass the tests of clean and read back
  pub text_taken : string_verdict canonical_width (text_digits text) ≡ Ok tt ↔ DigitText
  text_taken =
      let is = digit_string_is canonical_width (text_digits text) in
      (λ e. of_string (is.0 e), λ d. is.1 (to_string d))

  -- or they are refused with 4 at the last word that is no digit
  pub text_refused : (p : ℕ) → string_verdict canonical_width (text_digits text) ≡ Err (NotADigit p) ↔ (word_count ≤ string_digits) × LastOther p
  text_refused p = (
    λ e. elim (rw e at (string_test canonical_width (text_digits text))) [ bad_digit h l ↦ (omega (arith, digit_each text), of_bad l) ],
    λ h. string_only canonical_width (text_digits text) (bad_digit (omega (arith, digit_each text)) (to_bad h.1)),
  )
