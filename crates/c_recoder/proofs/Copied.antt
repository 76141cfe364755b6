-- Words copied one after the other, and the number that a kept recoder stands for.
use mathlib.Core.Path.{◌≡◌, refl, sym, ap, ◌∙◌}
use mathlib.Core.List.{List, [], ◌∷◌, ◌++◌}
use mathlib.Core.Bool.{Bool, true, false, not}
use Prim.Native.Nat.{ℕ, ◌+◌, ◌<◌}
use native.Mathlib.Numerals.{add-one}
use native.Mathlib.Omega.{arith}
use lib.Dec.{eqb}
use lib.ListN.{length, take, get_or, set}
use lib.Seq.{take-suc, take-suc-set, take-set-le, take_all, get_or-set_same}
use mir.Val.{bool_byte}
use Rattle.rules.specs.Limits.{number_words}
use Rattle.integers.specs.Positional.{words_value}
use Rattle.c_recoder.specs.Kept.{kept_number}

-- one word more
pub copied_more : (from to : List ℕ) (k : ℕ) → k < length from → k < length to → take k to ≡ take k from →
    take (k + 1) (set to k (get_or from k 0)) ≡ take (k + 1) from
copied_more from to k h l e =
    rw add-one (take-suc-set to k (get_or from k 0) l ∙ ap (λ (r : List ℕ). r ++ (get_or from k 0 ∷ [])) e ∙ sym (take-suc from k 0 h))

-- the word of a carry says whether there is one
carried_by : (b : Bool) → bool_byte (not (eqb (bool_byte b) 0)) ≡ bool_byte b
carried_by true = refl
carried_by false = refl

-- the words copied and the last one set
pub kept_stored : (kept words : List ℕ) (carry : Bool) → length kept ≡ number_words + 1 → length words ≡ number_words →
    take number_words kept ≡ take number_words words →
    kept_number (set kept number_words (bool_byte carry)) ≡ words_value words + bool_byte carry
unfolding kept_number
kept_stored kept words carry l m e =
    rw (
      take-set-le number_words kept number_words (bool_byte carry) (omega arith),
      get_or-set_same kept number_words (bool_byte carry) 0 (omega (arith, l)),
      e,
      take_all number_words words (omega (arith, m)),
      carried_by carry,
    )
