-- Four digits by their number in the table, and eight by two such. Assumes nothing.
use mathlib.Core.Path.{◌≡◌, refl, sym, ap, ◌∙◌}
use mathlib.Core.Bool.{Bool, true, false, ◌&&◌, ◌||◌, and-eq-true_iff}
use mathlib.Core.List.{List, ◌++◌}
use Prim.Native.Nat.{ℕ, ◌+◌, ◌*◌, ◌-◌, ◌/◌, ◌%◌, ◌^◌, ◌<◌, ◌≤◌}
use borrow.Author.Tests.{eqb-true, ltb-true}
use native.Mathlib.Nat.{zero-add}
use native.Mathlib.Omega.{arith}
use lib.Bits.{bit_xor, xor_shr, xor_mod}
use lib.Dec.{eqb, ltb}
use lib.ListN.{length, get_or, take, drop}
use lib.Pow.{shr-shr, field, mod-mod-pow}
use Rattle.integers.specs.Bits.{bit}
use Rattle.integers.specs.Positional.{positional, bytes_value, low_bytes}
use Rattle.integers.specs.Tabulate.{tabulate}
use Rattle.integers.proofs.Blocks.{placed, place_more}
use Rattle.integers.proofs.LowBytes.{low_of, low_above}
use Rattle.integers.proofs.Positional.{positional_append}
use Rattle.integers.proofs.Tabulate.{tabulate_same, tabulate_add, length_tabulate, below_tabulate}
use Rattle.recoding_digits.specs.Internal.{difference}
use Rattle.recoding_digits.proofs.SpreadBits.{all, all_below}
use Rattle.word_digits.specs.Internal.{Apart, index_of, index_byte, four_digits, entries}
use Rattle.word_digits.proofs.Lookup.{index_at}

-- ---- the table, for all four bits of two words

right : ℕ → ℕ → Bool
right m l =
    let x : ℕ = bit_xor m l in
    ltb 1 (bit x 0 + bit x 1) || (ltb 1 (bit x 1 + bit x 2) || (ltb 1 (bit x 2 + bit x 3) || (ltb (index_of m l) 32 && eqb (get_or four_digits (index_of m l) 0) (bytes_value (tabulate (difference m l) 4)))))

rights : all (λ m. all (right m) 16) 16 ≡ true
unfolding all right four_digits tabulate positional difference bit
rights = refl

-- the second, where the first is not
or_left : {p q : Bool} → (p ≡ true → ⊥) → (p || q) ≡ true → q ≡ true
or_left {p = true} n e = absurd (n refl)
or_left {p = false} n e = e

module _ (m l : ℕ) (hm : m < 16) (hl : l < 16) (apart : (i : ℕ) → i < 3 → bit (bit_xor m l) i + bit (bit_xor m l) (i + 1) ≤ 1) where
  not_both : (i : ℕ) → i < 3 → ltb 1 (bit (bit_xor m l) i + bit (bit_xor m l) (i + 1)) ≡ true → ⊥
  not_both i h t = omega (arith, apart i h, ltb-true 1 (bit (bit_xor m l) i + bit (bit_xor m l) (i + 1)) t)

  both : (ltb (index_of m l) 32 && eqb (get_or four_digits (index_of m l) 0) (bytes_value (tabulate (difference m l) 4))) ≡ true
  unfolding right
  both =
      let r : right m l ≡ true = all_below (right m) 16 (all_below (λ m. all (right m) 16) 16 rights m hm) l hl in
      or_left (not_both 2 (omega arith)) (or_left (not_both 1 (omega arith)) (or_left (not_both 0 (omega arith)) r))

  index_small : index_of m l < 32
  index_small = ltb-true (index_of m l) 32 ((and-eq-true_iff (ltb (index_of m l) 32) (eqb (get_or four_digits (index_of m l) 0) (bytes_value (tabulate (difference m l) 4)))).0 both).0

  found : get_or four_digits (index_of m l) 0 ≡ bytes_value (tabulate (difference m l) 4)
  found = eqb-true (get_or four_digits (index_of m l) 0) (bytes_value (tabulate (difference m l) 4)) ((and-eq-true_iff (ltb (index_of m l) 32) (eqb (get_or four_digits (index_of m l) 0) (bytes_value (tabulate (difference m l) 4)))).0 both).1

-- ---- four digits of two words

-- a bit among four
bit_within : (v i j : ℕ) → j < 4 → bit (v / 2 ^ i % 16) j ≡ bit v (i + j)
unfolding bit
bit_within v i j h =
    let e : 4 ≡ (3 - j + 1) + j = omega arith in
    ap (λ (n : ℕ). v / 2 ^ i % 2 ^ n / 2 ^ j % 2) e
    ∙ ap (λ (n : ℕ). n % 2) (field (v / 2 ^ i) (3 - j + 1) j)
    ∙ mod-mod-pow (v / 2 ^ i / 2 ^ j) (3 - j) 1
    ∙ rw (shr-shr v i j)

module _ (more less : ℕ) (apart : Apart (bit_xor more less)) where
  module _ (i : ℕ) where
    four_apart : (j : ℕ) → j < 3 → bit (bit_xor (more / 2 ^ i % 16) (less / 2 ^ i % 16)) j + bit (bit_xor (more / 2 ^ i % 16) (less / 2 ^ i % 16)) (j + 1) ≤ 1
    four_apart j h =
        let x : ℕ = bit_xor more less in
        let s : bit_xor (more / 2 ^ i % 16) (less / 2 ^ i % 16) ≡ x / 2 ^ i % 16 = rw (xor_shr more less i, xor_mod (more / 2 ^ i) (less / 2 ^ i) 4) in
        let u : i + (j + 1) ≡ i + j + 1 = omega arith in
        rw (s, bit_within x i j (omega arith), bit_within x i (j + 1) (omega arith), u) (apart (i + j))

    four_small : index_of (more / 2 ^ i % 16) (less / 2 ^ i % 16) < 32
    four_small = index_small (more / 2 ^ i % 16) (less / 2 ^ i % 16) (omega arith) (omega arith) four_apart

    four_found : get_or four_digits (index_of (more / 2 ^ i % 16) (less / 2 ^ i % 16)) 0 ≡ bytes_value (tabulate (λ j. difference more less (i + j)) 4)
    unfolding difference
    four_found =
        found (more / 2 ^ i % 16) (less / 2 ^ i % 16) (omega arith) (omega arith) four_apart
        ∙ ap bytes_value (tabulate_same (difference (more / 2 ^ i % 16) (less / 2 ^ i % 16)) (λ j. difference more less (i + j)) 4 (λ j h. rw (bit_within more i j h, bit_within less i j h)))

  -- eight digits, by the numbers in byte j of two words
  pub eight_digits : (low high j : ℕ) → j < 8 → low ≡ bytes_value (tabulate (index_byte more less) 8) → high ≡ bytes_value (tabulate (index_byte (more / 16) (less / 16)) 8)
      → entries four_digits low high j ≡ bytes_value (tabulate (λ i. difference more less (8 * j + i)) 8)
  unfolding index_byte
  eight_digits low high j h el eh =
      let f : ℕ → ℕ = λ i. difference more less (8 * j + i) in
      let four : 4 + 8 * j ≡ 8 * j + 4 = omega arith in
      let above : (v : ℕ) → v / 16 / 2 ^ (8 * j) ≡ v / 2 ^ (8 * j + 4) = λ v. shr-shr v 4 (8 * j) ∙ rw four in
      let li : low / 2 ^ (8 * j) % 32 ≡ index_of (more / 2 ^ (8 * j) % 16) (less / 2 ^ (8 * j) % 16) = omega (arith, index_at more less low j el h, four_small (8 * j)) in
      let hi : high / 2 ^ (8 * j) % 32 ≡ index_of (more / 2 ^ (8 * j + 4) % 16) (less / 2 ^ (8 * j + 4) % 16) =
      omega (arith, rw (above more, above less) at (index_at (more / 16) (less / 16) high j eh h), four_small (8 * j + 4)) in
      let a : get_or four_digits (low / 2 ^ (8 * j) % 32) 0 ≡ bytes_value (tabulate f 4) = rw li (four_found (8 * j)) in
      let b : get_or four_digits (high / 2 ^ (8 * j) % 32) 0 ≡ bytes_value (tabulate (λ i. f (4 + i)) 4) =
      rw hi (four_found (8 * j + 4) ∙ ap bytes_value (tabulate_same (λ i. difference more less (8 * j + 4 + i)) (λ i. f (4 + i)) 4 (λ i l. ap (difference more less) (omega arith)))) in
      let s : bytes_value (tabulate f 8) ≡ bytes_value (tabulate f 4) + 0x100000000 * bytes_value (tabulate (λ i. f (4 + i)) 4) =
      ap bytes_value (tabulate_add f 4 4) ∙ positional_append 256 (tabulate f 4) (tabulate (λ i. f (4 + i)) 4) ∙ rw (length_tabulate f 4) in
      rw (a, b) (sym s)

-- ---- stored

module _ (f : ℕ → ℕ) (small : (i : ℕ) → f i < 256) where
  -- the low bytes of a word that holds eight
  low_eight : (n : ℕ) → n ≤ 8 → low_bytes n (bytes_value (tabulate f 8)) ≡ tabulate f n
  low_eight n h =
      let s : 8 ≡ n + (8 - n) = omega arith in
      let v : bytes_value (tabulate f 8) ≡ bytes_value (tabulate f n) + 256 ^ n * bytes_value (tabulate (λ i. f (n + i)) (8 - n)) =
      ap (λ (m : ℕ). bytes_value (tabulate f m)) s ∙ ap bytes_value (tabulate_add f n (8 - n)) ∙ positional_append 256 (tabulate f n) (tabulate (λ i. f (n + i)) (8 - n)) ∙ rw (length_tabulate f n) in
      rw (v, low_above n (bytes_value (tabulate f n)) (bytes_value (tabulate (λ i. f (n + i)) (8 - n))))
      (ap (λ (m : ℕ). low_bytes m (bytes_value (tabulate f n))) (sym (length_tabulate f n)) ∙ low_of (tabulate f n) (below_tabulate 256 f n small))

difference_small : (more less i : ℕ) → difference more less i < 256
unfolding difference
difference_small more less i = omega arith

-- n digits more above m
pub digits_more : (more less at m n : ℕ) (l out after : List ℕ) (w : ℕ) → n ≤ 8 → at ≤ length l → out ≡ placed l at m (tabulate (difference more less) m)
    → w ≡ bytes_value (tabulate (λ i. difference more less (m + i)) 8) → after ≡ placed out (at + m) n (low_bytes n w)
    → after ≡ placed l at (m + n) (tabulate (difference more less) (m + n))
digits_more more less at m n l out after w h fits eo ew ea =
    let f : ℕ → ℕ = difference more less in
    let y : low_bytes n w ≡ tabulate (λ i. f (m + i)) n = rw ew (low_eight (λ i. f (m + i)) (λ i. difference_small more less (m + i)) n h) in
    ea ∙ rw (y, eo) (place_more l at m (tabulate f m) (length_tabulate f m) n (tabulate (λ i. f (m + i)) n) fits ∙ rw (tabulate_add f m n))

-- the same from the start of the buffer
pub digits_from_start : (more less m n : ℕ) (l out after : List ℕ) (w : ℕ) → n ≤ 8 → out ≡ tabulate (difference more less) m ++ drop m l
    → w ≡ bytes_value (tabulate (λ i. difference more less (m + i)) 8) → after ≡ take m out ++ (low_bytes n w ++ drop (m + n) out)
    → after ≡ tabulate (difference more less) (m + n) ++ drop (m + n) l
digits_from_start more less m n l out after w h eo ew ea =
    simp zero-add at (digits_more more less 0 m n l out after w h (omega arith) (simp zero-add eo) ew (simp zero-add ea))
