-- The words of 3 e and of e hold the digits of e, one place up. Assumes nothing.
use mathlib.Core.Path.{◌≡◌, sym, ap, ◌∙◌}
use mathlib.Core.List.{List, ◌++◌}
use Prim.Native.Nat.{ℕ, ◌+◌, ◌*◌, ◌-◌, ◌/◌, ◌%◌, ◌^◌, ◌<◌, ◌≤◌}
use native.Mathlib.Decide.{dec_lt}
use native.Mathlib.Nat.{div-eq_of_lt}
use native.Mathlib.Omega.{arith}
use lib.Bits.{bit_xor, xor_shr, xor_lt}
use lib.IntN.{pos}
use lib.ListN.{length, get_or, take, drop, get_or-append}
use lib.Pow.{pow_mono, shr-shr}
use lib.Seq.{drop-drop, drop_at}
use Rattle.integers.specs.Bits.{bit}
use Rattle.integers.specs.Positional.{words_value}
use Rattle.integers.specs.Tabulate.{tabulate}
use Rattle.integers.proofs.Bits.{bit_small, bit_of_element}
use Rattle.integers.proofs.Positional.{Below}
use Rattle.integers.proofs.Tabulate.{length_tabulate, tabulate_same, tabulate_join, get_d_tabulate}
use Rattle.signed_digits.specs.Naf.{canonical}
use Rattle.signed_digits.proofs.Triple.{digit_byte_at}
use Rattle.digit_strings.specs.Places.{place_byte}
use Rattle.recoding_digits.specs.Internal.{difference}
use Rattle.word_digits.specs.Internal.{Apart}
use Rattle.recoding_words_digits.proofs.Places.{xor_bit, xor_apart}

-- halved, the bits stand one place down
half_bit : (v i : ℕ) → bit (v / 2) i ≡ bit v (i + 1)
unfolding bit
half_bit v i =
    let s : 1 + i ≡ i + 1 = omega arith in
    ap (λ (n : ℕ). n % 2) (shr-shr v 1 i ∙ rw s)

half_difference : (more less i : ℕ) → difference (more / 2) (less / 2) i ≡ difference more less (i + 1)
unfolding difference
half_difference more less i = rw (half_bit more i, half_bit less i)

-- a number below 2 ^ 64 has no bit above
no_bit : (v i : ℕ) → v < 2 ^ 64 → 64 ≤ i → bit v i ≡ 0
unfolding bit
no_bit v i h l =
    let p : 2 ^ 64 ≤ 2 ^ i = pow_mono l in
    let q : v / 2 ^ i ≡ 0 = div-eq_of_lt (omega arith) in
    rw q

-- the first n entries are written: what stands above is as it was
module _ (f : ℕ → ℕ) (n : ℕ) (lent out : List ℕ) (written : out ≡ tabulate f n ++ drop n lent) where
  pub above_written : (m : ℕ) → n ≤ m → drop m out ≡ drop m lent
  above_written m h =
      let e : m ≡ n + (m - n) = omega arith in
      rw (e, written, ← drop-drop (m - n) n (tabulate f n ++ drop n lent), drop_at (tabulate f n) (drop n lent) n (length_tabulate f n), drop-drop (m - n) n lent)

  pub written_again : out ≡ tabulate f n ++ drop n out
  written_again = written ∙ rw (above_written n (omega arith))

module _ (words triple : List ℕ) (hw : Below (2 ^ 64) words) (ht : Below (2 ^ 64) triple) (three : words_value triple ≡ 3 * words_value words) where
  -- the digit at a place
  abbrev digit : ℕ → ℕ
  digit = place_byte (canonical (pos (words_value words)))

  digit_is : (i : ℕ) → digit i ≡ (bit (3 * words_value words) (i + 1) + 255 * bit (words_value words) (i + 1)) % 256
  unfolding place_byte bit
  digit_is i = digit_byte_at (words_value words) i

  -- a bit of a word
  more_bit : (k j : ℕ) → j < 64 → bit (get_or triple k 0) j ≡ bit (3 * words_value words) (64 * k + j)
  unfolding bit
  more_bit k j h = bit_of_element 64 triple k j h ht ∙ rw three

  less_bit : (k j : ℕ) → j < 64 → bit (get_or words k 0) j ≡ bit (words_value words) (64 * k + j)
  unfolding bit
  less_bit k j h = bit_of_element 64 words k j h hw

  -- the digit that is raised to a place, where its bit is
  abbrev raised : ℕ → ℕ
  raised = difference (3 * words_value words) (words_value words)

  digit_raised : (i : ℕ) → raised (i + 1) ≡ digit i
  unfolding difference
  digit_raised i = sym (digit_is i)

  word_raised : (k j : ℕ) → j < 64 → difference (get_or triple k 0) (get_or words k 0) j ≡ raised (64 * k + j)
  unfolding difference
  word_raised k j h = rw (more_bit k j h, less_bit k j h)

  -- the digits of a word above the lowest
  word_digit : (k j : ℕ) → 0 < k → j < 64 → difference (get_or triple k 0) (get_or words k 0) j ≡ digit (64 * k - 1 + j)
  word_digit k j some h =
      let u : 64 * k + j ≡ 64 * k - 1 + j + 1 = omega arith in
      word_raised k j h ∙ ap raised u ∙ digit_raised (64 * k - 1 + j)

  -- those of the lowest
  low_digit_lem : (j : ℕ) → j < 63 → difference (get_or triple 0 0 / 2) (get_or words 0 0 / 2) j ≡ digit j
  low_digit_lem j h =
      let u : 64 * 0 + (j + 1) ≡ j + 1 = omega arith in
      halved ∙ word_raised 0 (j + 1) (omega arith) ∙ ap raised u ∙ digit_raised j
    where
      halved : difference (get_or triple 0 0 / 2) (get_or words 0 0 / 2) j ≡ difference (get_or triple 0 0) (get_or words 0 0) (j + 1)
      halved = half_difference (get_or triple 0 0) (get_or words 0 0) j

  -- of two neighbouring places one is 0
  pub word_apart : (k : ℕ) → Apart (bit_xor (get_or triple k 0) (get_or words k 0))
  word_apart k i = go (dec_lt (i + 1) 64)
    where
      same : (j : ℕ) → j < 64 → bit (bit_xor (get_or triple k 0) (get_or words k 0)) j ≡ bit (bit_xor (3 * words_value words) (words_value words)) (64 * k + j)
      same j h = rw (xor_bit (get_or triple k 0) (get_or words k 0) j, more_bit k j h, less_bit k j h, xor_bit (3 * words_value words) (words_value words) (64 * k + j))

      go : Dec (i + 1 < 64) → bit (bit_xor (get_or triple k 0) (get_or words k 0)) i + bit (bit_xor (get_or triple k 0) (get_or words k 0)) (i + 1) ≤ 1
      go (yes h) =
          let u : 64 * k + (i + 1) ≡ 64 * k + i + 1 = omega arith in
          rw (same i (omega arith), same (i + 1) h, u) (xor_apart (words_value words) (64 * k + i))
      go (no h) =
          let none = no_bit (bit_xor (get_or triple k 0) (get_or words k 0)) (i + 1) (xor_lt 64 (get_or triple k 0) (get_or words k 0) (ht k) (hw k)) (omega arith) in
          omega (arith, none, bit_small (bit_xor (get_or triple k 0) (get_or words k 0)) i)

  pub low_apart : Apart (bit_xor (get_or triple 0 0 / 2) (get_or words 0 0 / 2))
  low_apart i =
      let s : bit_xor (get_or triple 0 0 / 2) (get_or words 0 0 / 2) ≡ bit_xor (get_or triple 0 0) (get_or words 0 0) / 2 = sym (xor_shr (get_or triple 0 0) (get_or words 0 0) 1) in
      rw (s, half_bit (bit_xor (get_or triple 0 0) (get_or words 0 0)) i, half_bit (bit_xor (get_or triple 0 0) (get_or words 0 0)) (i + 1)) (word_apart 0 (i + 1))

  -- ---- what is written

  -- n digits of the lowest word
  pub low_written : (n : ℕ) (out after : List ℕ) → n ≤ 63
      → after ≡ tabulate (difference (get_or triple 0 0 / 2) (get_or words 0 0 / 2)) n ++ drop n out → after ≡ tabulate digit n ++ drop n out
  low_written n out after h w =
      w ∙ rw (tabulate_same (difference (get_or triple 0 0 / 2) (get_or words 0 0 / 2)) digit n (λ j l. low_digit_lem j (omega arith)))

  -- n digits of word k, above those of the words below
  pub word_written : (k n : ℕ) (lent out after : List ℕ) → 0 < k → n ≤ 64 → 64 * k - 1 ≤ length lent → out ≡ tabulate digit (64 * k - 1) ++ drop (64 * k - 1) lent
      → after ≡ take (64 * k - 1) out ++ (tabulate (difference (get_or triple k 0) (get_or words k 0)) n ++ drop (64 * k - 1 + n) out)
      → after ≡ tabulate digit (64 * k - 1 + n) ++ drop (64 * k - 1 + n) lent
  word_written k n lent out after some h fits o w =
      w ∙ rw (tabulate_same (difference (get_or triple k 0) (get_or words k 0)) (λ j. digit (64 * k - 1 + j)) n (λ j l. word_digit k j some (omega arith)), o) (tabulate_join digit lent (64 * k - 1) n fits)

  -- word k, raised, above the words below
  pub raised_written : (k : ℕ) (lent out after : List ℕ) → 64 * k ≤ length lent → out ≡ tabulate raised (64 * k) ++ drop (64 * k) lent
      → after ≡ take (64 * k) out ++ (tabulate (difference (get_or triple k 0) (get_or words k 0)) 64 ++ drop (64 * k + 64) out)
      → after ≡ tabulate raised (64 * k + 64) ++ drop (64 * k + 64) lent
  raised_written k lent out after fits o w =
      w ∙ rw (tabulate_same (difference (get_or triple k 0) (get_or words k 0)) (λ j. raised (64 * k + j)) 64 (λ j l. word_raised k j l), o) (tabulate_join raised lent (64 * k) 64 fits)

  pub raised_at : (n : ℕ) (lent out : List ℕ) → out ≡ tabulate raised n ++ drop n lent → (i : ℕ) → i + 1 < n → get_or out (i + 1) 0 ≡ digit i
  raised_at n lent out o i h =
      rw (o, get_or-append (tabulate raised n) (drop n lent) 0 (i + 1) (rw (length_tabulate raised n) h), get_d_tabulate raised n (i + 1) h) (digit_raised i)
