-- Counting ones word by word. Assumes nothing.
use mathlib.Core.Path.{◌≡◌}
use mathlib.Core.List.{List}
use Prim.Native.Nat.{ℕ, ◌+◌, ◌*◌}
use lib.Count.{ones, ones_cat}
use lib.ListN.{drop}
use Rattle.integers.specs.Positional.{bytes_value}
use Rattle.integers.proofs.Positional.{Below}
use Rattle.integers.proofs.Words.{word_at, words_from, word_lt}

-- the ones of a word below others
pub ones_word : (l : List ℕ) (k : ℕ) → Below 256 l → ones (bytes_value (drop (8 * k) l)) ≡ ones (bytes_value (drop (8 * (k + 1)) l)) + ones (word_at l k)
ones_word l k b = rw (words_from l k) (ones_cat 64 (bytes_value (drop (8 * (k + 1)) l)) (word_at l k) (word_lt l k b))
