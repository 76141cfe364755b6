-- Words of eight bytes: one, read from the top byte down; all of a number, and its low bytes. Assumes nothing.
use mathlib.Core.Path.{◌≡◌, refl, sym, ap, ◌∙◌}
use mathlib.Core.List.{List, [], ◌∷◌, ◌++◌, append_assoc}
use Prim.Native.Nat.{ℕ, zero, suc, ◌+◌, ◌*◌, ◌-◌, ◌/◌, ◌%◌, ◌^◌, ◌<◌, ◌≤◌}
use native.Mathlib.Nat.{mul_assoc}
use native.Mathlib.Omega.{arith}
use lib.ListN.{length, get_or, take, drop, length-take, length-drop}
use lib.Pow.{pow-add}
use lib.Seq.{drop-append_seam, drop-drop, take-take, take_all}
use Rattle.std.proofs.lemmas.List.{drop-take}
use Rattle.std.specs.Int.{w64, from_le_bytes}
use Rattle.integers.specs.Bits.{bit}
use Rattle.integers.specs.Positional.{positional, bytes_value, words_value, low_bytes}
use Rattle.integers.specs.Tabulate.{tabulate}
use Rattle.integers.proofs.Powers.{power_of_power}
use Rattle.integers.proofs.Positional.{Below, below_take, below_drop, positional_drop, positional_take, positional_lt, positional_split, positional_div}
use Rattle.integers.proofs.Bits.{bit_of_element}
use Rattle.integers.proofs.LowBytes.{low_add, low_above}
use Rattle.integers.proofs.Tabulate.{get_d_tabulate, below_tabulate, positional_tabulate}

-- the count bytes from `from` on
abbrev pub part : ℕ → ℕ → List ℕ → List ℕ
part from count l = take count (drop from l)

-- the value of eight bytes, as std says it
pub eight_bytes : (l : List ℕ) → length l ≡ 8 → from_le_bytes w64 l ≡ bytes_value l
unfolding positional
eight_bytes l h =
    let none : bytes_value (take 0 l) ≡ 0 = refl in
    omega (arith, ap bytes_value (take_all 8 l (omega arith)), positional_take 256 0 l, positional_take 256 1 l, positional_take 256 2 l, positional_take 256 3 l, positional_take 256 4 l, positional_take 256 5 l, positional_take 256 6 l, positional_take 256 7 l)

-- a word of bytes that are read from the top down: x is next, and then those that are left
module _ (l left : List ℕ) (x word : ℕ) (read : (left ++ (x ∷ [])) ++ drop (length (left ++ (x ∷ []))) l ≡ l) (value : word ≡ bytes_value (drop (length (left ++ (x ∷ []))) l)) where
  above : drop (length left) l ≡ x ∷ drop (length (left ++ (x ∷ []))) l
  above =
      let rest : List ℕ = drop (length (left ++ (x ∷ []))) l in
      ap (drop (length left)) (sym read ∙ append_assoc left (x ∷ []) rest) ∙ drop-append_seam left (x ∷ rest)

  pub word_left : left ++ drop (length left) l ≡ l
  word_left = rw above (sym (append_assoc left (x ∷ []) (drop (length (left ++ (x ∷ []))) l)) ∙ read)

  pub word_more : 256 * word + x ≡ bytes_value (drop (length left) l)
  unfolding positional
  word_more = rw above (omega (arith, value))

  pub word_room : length l ≤ 8 → Below 256 l → 256 * word + x < 2 ^ 64
  word_room few b =
      rw word_more (positional_lt 256 8 (drop (length left) l) (omega (arith, length-drop (length left) l)) (below_drop 256 (length left) l (omega arith) b))

-- ---- all words of a number

-- the word at k
abbrev pub word_at : List ℕ → ℕ → ℕ
word_at l k = bytes_value (take 8 (drop (8 * k) l))

pub words_value_lem : (l : List ℕ) (n : ℕ) → words_value (tabulate (word_at l) n) ≡ bytes_value (take (8 * n) l)
unfolding tabulate positional
words_value_lem l zero = refl
words_value_lem l (suc n) =
    let e : 8 * suc n ≡ 8 * n + 8 = omega arith in
    let top : words_value (tabulate (word_at l) (suc n)) ≡ words_value (tabulate (word_at l) n) + (2 ^ 64) ^ n * word_at l n = positional_tabulate (2 ^ 64) (word_at l) n in
    let low : bytes_value (take (8 * n + 8) l) ≡ bytes_value (take (8 * n) l) + 256 ^ (8 * n) * word_at l n =
    rw (positional_split 256 (8 * n) (take (8 * n + 8) l), take-take (8 * n) (8 * n + 8) l (omega arith), drop-take (8 * n) 8 l) in
    rw e (top ∙ ap (λ (v : ℕ). v + (2 ^ 64) ^ n * word_at l n) (words_value_lem l n) ∙ ap (λ (p : ℕ). bytes_value (take (8 * n) l) + p * word_at l n) (power_of_power 256 8 n) ∙ sym low)

-- the word at k, and the bytes above it
pub words_from : (l : List ℕ) (k : ℕ) → bytes_value (drop (8 * k) l) ≡ bytes_value (drop (8 * (k + 1)) l) * 2 ^ 64 + word_at l k
words_from l k =
    let e : 8 * (k + 1) ≡ 8 * k + 8 = omega arith in
    rw (e, ← drop-drop 8 (8 * k) l) (omega (arith, positional_split 256 8 (drop (8 * k) l)))

pub word_lt : (l : List ℕ) (k : ℕ) → Below 256 l → word_at l k < 2 ^ 64
word_lt l k b =
    positional_lt 256 8 (take 8 (drop (8 * k) l)) (omega (arith, length-take 8 (drop (8 * k) l)))
    (below_take 256 8 (drop (8 * k) l) (omega arith) (below_drop 256 (8 * k) l (omega arith) b))

-- a part of a part
pub part_part : (l : List ℕ) (at size from count : ℕ) → from + count ≤ size → part from count (part at size l) ≡ part (at + from) count l
part_part l at size from count h =
    let e : size ≡ from + (size - from) = omega arith in
    rw (e, drop-take from (size - from) (drop at l), take-take count (size - from) (drop from (drop at l)) (omega arith), drop-drop from at l)

-- the low bytes up to the word at k, and the lowest of that word
pub words_low : (words : List ℕ) (k n : ℕ) → n ≤ 8 → Below (2 ^ 64) words
    → low_bytes (8 * k + n) (words_value words) ≡ low_bytes (8 * k) (words_value words) ++ low_bytes n (get_or words k 0)
words_low words k n h b =
    let above : ℕ = words_value (drop (suc k) words) in
    let e : 256 ^ 8 ≡ 256 ^ n * 256 ^ (8 - n) = let f : 8 ≡ n + (8 - n) = omega arith in ap (λ (i : ℕ). 256 ^ i) f ∙ pow-add 256 n (8 - n) in
    let q : words_value words / 256 ^ (8 * k) ≡ get_or words k 0 + 256 ^ n * (256 ^ (8 - n) * above) =
    rw (← power_of_power 256 8 k, ← positional_div (2 ^ 64) words k b, positional_drop (2 ^ 64) words k, ← mul_assoc (256 ^ n) (256 ^ (8 - n)) above, ← e) in
    rw (low_add (8 * k) n (words_value words), q, low_above n (get_or words k 0) (256 ^ (8 - n) * above))

-- a bit stands in its word
pub bit_of_word : (l : List ℕ) (place : ℕ) → Below 256 l → word_at l (place / 64) / 2 ^ (place % 64) % 2 ≡ bit (bytes_value l) place
bit_of_word l place b =
    let k : ℕ = place / 64 in
    let n : ℕ = length l + suc k in
    let words : List ℕ = tabulate (word_at l) n in
    let whole : words_value words ≡ bytes_value l = words_value_lem l n ∙ ap bytes_value (take_all (8 * n) l (omega arith)) in
    let e : 64 * k + place % 64 ≡ place = omega arith in
    rw (e, whole, get_d_tabulate (word_at l) n k (omega arith)) at (bit_of_element 64 words k (place % 64) (omega arith) (below_tabulate (2 ^ 64) (word_at l) n (λ i. word_lt l i b)))
