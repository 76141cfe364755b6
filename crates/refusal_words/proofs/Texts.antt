-- What a number says that no refusal has. Assumes nothing.
use mathlib.Core.Path.{◌≡◌, refl}
use mathlib.Core.List.{[], ◌∷◌}
use Prim.Native.Nat.{ℕ, ◌<◌}
use native.Mathlib.Omega.{arith}
use lib.ListN.{length, get_or-eq_default}
use Rattle.refusal_words.specs.Words.{text_bytes, texts, words}

pub count : length texts ≡ 14
unfolding texts
count = refl

module _ (refusal : ℕ) where
  no_such : 13 < refusal → words refusal ≡ "no such refusal"
  unfolding words
  no_such h = get_or-eq_default texts "no such refusal" (omega (arith, count))

  -- the same in bytes, as the code has them
  pub no_such_bytes : 13 < refusal → text_bytes (words refusal) ≡ 110 ∷ 111 ∷ 32 ∷ 115 ∷ 117 ∷ 99 ∷ 104 ∷ 32 ∷ 114 ∷ 101 ∷ 102 ∷ 117 ∷ 115 ∷ 97 ∷ 108 ∷ []
  unfolding text_bytes
  no_such_bytes h = rw (no_such h)
