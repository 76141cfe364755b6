-- Whether a word begins with a name, byte by byte. Assumes nothing.
use mathlib.Core.Path.{◌≡◌, refl, sym}
use mathlib.Core.Bool.{Bool, true, false, cond, ◌&&◌}
use mathlib.Core.List.{List, [], ◌∷◌, ◌++◌}
use Prim.Native.Nat.{ℕ}
use native.Mathlib.Omega.{arith}
use borrow.Author.Tests.{eq-eqb, ne_eqb, eqb-true, eqb-false}
use lib.Dec.{eqb}
use lib.ListN.{length, take, drop}
use lib.Pointwise.{pointwise}
use Rattle.step_words.specs.Word.{begins}

-- std's test that a word's first bytes are a name
pub begins_same : (name word : List ℕ) → pointwise eqb (take (length name) word) name ≡ begins name word
unfolding begins
begins_same [] word = refl
begins_same (c ∷ name) [] = refl
begins_same (c ∷ name) (d ∷ word) = go (eqb c d) refl (begins_same name word)
  where
    go : (b : Bool) → eqb c d ≡ b → pointwise eqb (take (length name) word) name ≡ begins name word
        → (eqb d c && pointwise eqb (take (length name) word) name) ≡ cond b (begins name word) false
    go true e same = rw (eq-eqb d c (sym (eqb-true c d e))) same
    go false e same = rw (ne_eqb d c (λ f. eqb-false c d e (sym f))) refl

-- it is the name, and what is behind it
pub begins_is : (name word : List ℕ) → begins name word ≡ true → word ≡ name ++ drop (length name) word
unfolding begins
begins_is [] word e = refl
begins_is (c ∷ name) [] e = let z : ◌≡◌ {A = ℕ} 0 1 = cc in absurd (omega arith)
begins_is (c ∷ name) (d ∷ word) e = go (eqb c d) refl e (λ t. begins_is name word t)
  where
    go : (b : Bool) → eqb c d ≡ b → cond b (begins name word) false ≡ true → (begins name word ≡ true → word ≡ name ++ drop (length name) word)
        → d ∷ word ≡ c ∷ (name ++ drop (length name) word)
    go true f e rest = let same : c ≡ d = eqb-true c d f in rw (same, ← rest e)
    go false f e rest = let z : ◌≡◌ {A = ℕ} 0 1 = cc in absurd (omega arith)
