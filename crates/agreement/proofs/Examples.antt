-- The worked examples of recoding and cleaning, one list and one statement, over the definitions that the contracts of recode and clean cite: bytes in,
-- bytes out. Assumes nothing.
use mathlib.Core.Path.{◌≡◌, refl}
use mathlib.Core.List.{List, [], ◌∷◌, map, reverse}
use Prim.Native.Nat.{ℕ}
use Rattle.integers.specs.Positional.{positional}
use Rattle.signed_digits.specs.Strings.{value}
use Rattle.signed_digits.specs.Naf.{residue, low_digit, rest, digits_of, naf}
use Rattle.recoding.specs.Recode.{recoding_of, recoding}
use Rattle.cleaning.specs.Clean.{cleaning_of, cleaning}

-- what is handed in: a number's bytes, or the bytes of a digit string
pub data Input : Type 0 where
  number : List ℕ → Input
  digits : List ℕ → Input

-- what recode or clean writes
unfoldable pub written : Input → List ℕ
written (number bytes) = recoding bytes
written (digits bytes) = cleaning bytes

-- the bytes of 0, 1 and -1; digits are listed most significant first, as text writes them
abbrev zer : ℕ
zer = 0

abbrev one : ℕ
one = 1

abbrev neg : ℕ
neg = 255

abbrev string : List ℕ → List ℕ
string ds = reverse ds

unfoldable pub worked : List (Input × List ℕ)
worked =
    (number [], [])
    ∷ (number (1 ∷ []), string (one ∷ []))
    ∷ (number (3 ∷ []), string (one ∷ zer ∷ neg ∷ []))
    ∷ (number (7 ∷ []), string (one ∷ zer ∷ zer ∷ neg ∷ []))
    ∷ (number (15 ∷ []), string (one ∷ zer ∷ zer ∷ zer ∷ neg ∷ []))
    ∷ (number (25 ∷ []), string (one ∷ zer ∷ neg ∷ zer ∷ zer ∷ one ∷ []))
    ∷ (number (27 ∷ []), string (one ∷ zer ∷ zer ∷ neg ∷ zer ∷ neg ∷ []))
    ∷ (number (43 ∷ []), string (one ∷ zer ∷ neg ∷ zer ∷ neg ∷ zer ∷ neg ∷ []))
    ∷ (digits (string (one ∷ one ∷ [])), string (one ∷ zer ∷ neg ∷ []))
    ∷ (digits (string (neg ∷ one ∷ [])), string (neg ∷ []))
    ∷ (digits (string (zer ∷ zer ∷ one ∷ [])), string (one ∷ []))
    ∷ (digits (string (one ∷ neg ∷ neg ∷ [])), string (one ∷ []))
    ∷ []

-- what is written for each is what stands beside it
pub worked_examples : map (λ c. written c.0) worked ≡ map (λ c. c.1) worked
unfolding residue low_digit rest digits_of naf value positional recoding_of cleaning_of written worked
worked_examples = refl
