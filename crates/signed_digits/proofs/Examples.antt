-- The canonical string and the modified form by computation: the numbers that request T-07 names, source document 004's table of the numbers to 39, and 0. Digits
-- are written most significant first. Assumes nothing.
use mathlib.Core.Path.{◌≡◌, refl}
use mathlib.Core.List.{List, [], ◌∷◌, map, reverse}
use Prim.Native.Nat.{ℕ}
use lib.IntN.{ℤ, pos, negsuc}
use Rattle.signed_digits.specs.Naf.{residue, low_digit, rest, digits_of, naf, canonical}
use Rattle.signed_digits.specs.Modified.{leads, shortened, modified}

abbrev zer : ℤ
zer = pos 0

abbrev one : ℤ
one = pos 1

abbrev neg : ℤ
neg = negsuc 0

-- 25 gives 1 1 0 0 1, and 27 stays as it was
pub worked : (reverse (modified 25) ≡ one ∷ one ∷ zer ∷ zer ∷ one ∷ []) × (modified 27 ≡ canonical (pos 27))
unfolding residue low_digit rest digits_of naf leads shortened modified
worked = (refl, refl)

-- a number, its canonical string, its modified form
unfoldable pub table : List (ℕ × List ℤ × List ℤ)
table =
    (0, [], [])
    ∷ (1, one ∷ [], one ∷ [])
    ∷ (2, one ∷ zer ∷ [], one ∷ zer ∷ [])
    ∷ (3, one ∷ zer ∷ neg ∷ [], one ∷ one ∷ [])
    ∷ (4, one ∷ zer ∷ zer ∷ [], one ∷ zer ∷ zer ∷ [])
    ∷ (5, one ∷ zer ∷ one ∷ [], one ∷ zer ∷ one ∷ [])
    ∷ (6, one ∷ zer ∷ neg ∷ zer ∷ [], one ∷ one ∷ zer ∷ [])
    ∷ (7, one ∷ zer ∷ zer ∷ neg ∷ [], one ∷ zer ∷ zer ∷ neg ∷ [])
    ∷ (8, one ∷ zer ∷ zer ∷ zer ∷ [], one ∷ zer ∷ zer ∷ zer ∷ [])
    ∷ (9, one ∷ zer ∷ zer ∷ one ∷ [], one ∷ zer ∷ zer ∷ one ∷ [])
    ∷ (10, one ∷ zer ∷ one ∷ zer ∷ [], one ∷ zer ∷ one ∷ zer ∷ [])
    ∷ (11, one ∷ zer ∷ neg ∷ zer ∷ neg ∷ [], one ∷ one ∷ zer ∷ neg ∷ [])
    ∷ (12, one ∷ zer ∷ neg ∷ zer ∷ zer ∷ [], one ∷ one ∷ zer ∷ zer ∷ [])
    ∷ (13, one ∷ zer ∷ neg ∷ zer ∷ one ∷ [], one ∷ one ∷ zer ∷ one ∷ [])
    ∷ (14, one ∷ zer ∷ zer ∷ neg ∷ zer ∷ [], one ∷ zer ∷ zer ∷ neg ∷ zer ∷ [])
    ∷ (15, one ∷ zer ∷ zer ∷ zer ∷ neg ∷ [], one ∷ zer ∷ zer ∷ zer ∷ neg ∷ [])
    ∷ (16, one ∷ zer ∷ zer ∷ zer ∷ zer ∷ [], one ∷ zer ∷ zer ∷ zer ∷ zer ∷ [])
    ∷ (17, one ∷ zer ∷ zer ∷ zer ∷ one ∷ [], one ∷ zer ∷ zer ∷ zer ∷ one ∷ [])
    ∷ (18, one ∷ zer ∷ zer ∷ one ∷ zer ∷ [], one ∷ zer ∷ zer ∷ one ∷ zer ∷ [])
    ∷ (19, one ∷ zer ∷ one ∷ zer ∷ neg ∷ [], one ∷ zer ∷ one ∷ zer ∷ neg ∷ [])
    ∷ (20, one ∷ zer ∷ one ∷ zer ∷ zer ∷ [], one ∷ zer ∷ one ∷ zer ∷ zer ∷ [])
    ∷ (21, one ∷ zer ∷ one ∷ zer ∷ one ∷ [], one ∷ zer ∷ one ∷ zer ∷ one ∷ [])
    ∷ (22, one ∷ zer ∷ neg ∷ zer ∷ neg ∷ zer ∷ [], one ∷ one ∷ zer ∷ neg ∷ zer ∷ [])
    ∷ (23, one ∷ zer ∷ neg ∷ zer ∷ zer ∷ neg ∷ [], one ∷ one ∷ zer ∷ zer ∷ neg ∷ [])
    ∷ (24, one ∷ zer ∷ neg ∷ zer ∷ zer ∷ zer ∷ [], one ∷ one ∷ zer ∷ zer ∷ zer ∷ [])
    ∷ (25, one ∷ zer ∷ neg ∷ zer ∷ zer ∷ one ∷ [], one ∷ one ∷ zer ∷ zer ∷ one ∷ [])
    ∷ (26, one ∷ zer ∷ neg ∷ zer ∷ one ∷ zer ∷ [], one ∷ one ∷ zer ∷ one ∷ zer ∷ [])
    ∷ (27, one ∷ zer ∷ zer ∷ neg ∷ zer ∷ neg ∷ [], one ∷ zer ∷ zer ∷ neg ∷ zer ∷ neg ∷ [])
    ∷ (28, one ∷ zer ∷ zer ∷ neg ∷ zer ∷ zer ∷ [], one ∷ zer ∷ zer ∷ neg ∷ zer ∷ zer ∷ [])
    ∷ (29, one ∷ zer ∷ zer ∷ neg ∷ zer ∷ one ∷ [], one ∷ zer ∷ zer ∷ neg ∷ zer ∷ one ∷ [])
    ∷ (30, one ∷ zer ∷ zer ∷ zer ∷ neg ∷ zer ∷ [], one ∷ zer ∷ zer ∷ zer ∷ neg ∷ zer ∷ [])
    ∷ (31, one ∷ zer ∷ zer ∷ zer ∷ zer ∷ neg ∷ [], one ∷ zer ∷ zer ∷ zer ∷ zer ∷ neg ∷ [])
    ∷ (32, one ∷ zer ∷ zer ∷ zer ∷ zer ∷ zer ∷ [], one ∷ zer ∷ zer ∷ zer ∷ zer ∷ zer ∷ [])
    ∷ (33, one ∷ zer ∷ zer ∷ zer ∷ zer ∷ one ∷ [], one ∷ zer ∷ zer ∷ zer ∷ zer ∷ one ∷ [])
    ∷ (34, one ∷ zer ∷ zer ∷ zer ∷ one ∷ zer ∷ [], one ∷ zer ∷ zer ∷ zer ∷ one ∷ zer ∷ [])
    ∷ (35, one ∷ zer ∷ zer ∷ one ∷ zer ∷ neg ∷ [], one ∷ zer ∷ zer ∷ one ∷ zer ∷ neg ∷ [])
    ∷ (36, one ∷ zer ∷ zer ∷ one ∷ zer ∷ zer ∷ [], one ∷ zer ∷ zer ∷ one ∷ zer ∷ zer ∷ [])
    ∷ (37, one ∷ zer ∷ zer ∷ one ∷ zer ∷ one ∷ [], one ∷ zer ∷ zer ∷ one ∷ zer ∷ one ∷ [])
    ∷ (38, one ∷ zer ∷ one ∷ zer ∷ neg ∷ zer ∷ [], one ∷ zer ∷ one ∷ zer ∷ neg ∷ zer ∷ [])
    ∷ (39, one ∷ zer ∷ one ∷ zer ∷ zer ∷ neg ∷ [], one ∷ zer ∷ one ∷ zer ∷ zer ∷ neg ∷ [])
    ∷ []

pub table_holds : map (λ row. (row.0, reverse (canonical (pos row.0)), reverse (modified row.0))) table ≡ table
unfolding residue low_digit rest digits_of naf leads shortened modified table
table_holds = refl
