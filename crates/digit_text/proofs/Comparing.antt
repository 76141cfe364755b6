-- The test that two words are the same tells whether they are equal; what is no digit by such tests. Assumes nothing.
use mathlib.Core.Path.{◌≡◌, refl, sym, ap, ◌∙◌}
use mathlib.Core.Logic.{◌≢◌}
use mathlib.Core.Bool.{Bool, true, false, cond, true≢false}
use mathlib.Core.List.{List, [], ◌∷◌}
use Prim.Native.Nat.{ℕ}
use native.Mathlib.Omega.{arith}
use borrow.Author.Tests.{eqb-true, eq-eqb}
use lib.Dec.{eqb}
use lib.ListN.{length, get_or}
use Rattle.digit_text.specs.Digits.{same, zero_word, one_word, minus_one_word, word_digit}

pub same_is : (a b : List ℕ) → same a b ≡ true → a ≡ b
unfolding same
same_is [] [] e = refl
same_is [] (d ∷ b) e = let z : ◌≡◌ {A = List ℕ} [] (d ∷ b) = cc in z
same_is (c ∷ a) [] e = let z : c ∷ a ≡ [] = cc in z
same_is (c ∷ a) (d ∷ b) e = go (eqb c d) refl e (same_is a b)
  where
    go : (t : Bool) → eqb c d ≡ t → cond t (same a b) false ≡ true → (same a b ≡ true → a ≡ b) → c ∷ a ≡ d ∷ b
    go true t e rest = let first : c ≡ d = eqb-true c d t in let others : a ≡ b = rest e in cc
    go false t e rest = cc

same_self : (a : List ℕ) → same a a ≡ true
unfolding same
same_self [] = refl
same_self (c ∷ a) = rw (eq-eqb c c refl, same_self a)

pub same_not : (a b : List ℕ) → same a b ≡ false → a ≢ b
same_not a b e q = true≢false (sym (same_self b) ∙ ap (λ (l : List ℕ). same l b) (sym q) ∙ e)

-- words of other lengths, or with another byte at a place, differ
longer : (a b : List ℕ) → (length a ≡ length b → ⊥) → same a b ≡ false
longer a b h = go (same a b) refl
  where
    go : (t : Bool) → same a b ≡ t → same a b ≡ false
    go true e = absurd (h (ap length (same_is a b e)))
    go false e = e

differ : (a b : List ℕ) (i : ℕ) → (get_or a i 0 ≡ get_or b i 0 → ⊥) → same a b ≡ false
differ a b i h = go (same a b) refl
  where
    go : (t : Bool) → same a b ≡ t → same a b ≡ false
    go true e = absurd (h (ap (λ (l : List ℕ). get_or l i 0) (same_is a b e)))
    go false e = e

-- ---- words that are no digit's, by their length and their bytes

module _ (word : List ℕ) where
  pub other_length : (length word ≡ 1 → ⊥) → (length word ≡ 2 → ⊥) → 2 ≡ word_digit word
  unfolding word_digit
  other_length h k = simp (longer word zero_word h, longer word one_word h, longer word minus_one_word k)

  pub other_byte : length word ≡ 1 → (get_or word 0 0 ≡ 48 → ⊥) → (get_or word 0 0 ≡ 49 → ⊥) → 2 ≡ word_digit word
  unfolding word_digit
  other_byte l h k = simp (differ word zero_word 0 h, differ word one_word 0 k, longer word minus_one_word (λ e. omega arith))

  pub other_at : length word ≡ 2 → (i : ℕ) → (get_or word i 0 ≡ get_or minus_one_word i 0 → ⊥) → 2 ≡ word_digit word
  unfolding word_digit
  other_at l i h = simp (longer word zero_word (λ e. omega arith), longer word one_word (λ e. omega arith), differ word minus_one_word i h)
