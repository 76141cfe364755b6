-- The numbers that the digits of a word are looked up by, four and four, in the bytes of a word. Assumes nothing.
use mathlib.Core.Path.{◌≡◌, refl, sym, ap, ◌∙◌}
use Prim.Native.Nat.{ℕ, zero, suc, ◌+◌, ◌*◌, ◌-◌, ◌/◌, ◌%◌, ◌^◌, ◌<◌, ◌≤◌}
use native.Mathlib.Nat.{mod-lt}
use native.Mathlib.Omega.{arith}
use lib.Bits.{bit_and, bit_xor, and_block, and_mask, and_zero_r, and_le_l, xor_lt}
use lib.Pow.{pow_pos, split, field, mod-mod-pow}
use Rattle.integers.specs.Positional.{positional, bytes_value}
use Rattle.integers.specs.Tabulate.{tabulate}
use Rattle.integers.proofs.Bits.{power_of_bytes}
use Rattle.integers.proofs.Positional.{positional_at}
use Rattle.integers.proofs.Tabulate.{tabulate_same, get_d_tabulate, below_tabulate}
use Rattle.recoding_digits.proofs.SpreadBits.{value_small, value_none, value_more, value_add, value_each, value_xor}
use Rattle.word_digits.specs.Internal.{index_byte}

-- ---- the low four bits of each byte

abbrev low : ℕ → ℕ → ℕ
low x j = x / 2 ^ (8 * j) % 16

-- those of the low n bits
within : (v n i : ℕ) → i + 4 ≤ n → v % 2 ^ n / 2 ^ i % 16 ≡ v / 2 ^ i % 16
within v n i h =
    let e : n ≡ (n - i - 4 + 4) + i = omega arith in
    ap (λ (m : ℕ). v % 2 ^ m / 2 ^ i % 16) e ∙ ap (λ (m : ℕ). m % 16) (field v (n - i - 4 + 4) i) ∙ mod-mod-pow (v / 2 ^ i) (n - i - 4) 4

lows : (n x : ℕ) → bit_and x (bytes_value (tabulate (λ _. 15) n)) ≡ bytes_value (tabulate (low x) n)
lows zero x = rw (value_none (λ _. 15), value_none (low x)) (and_zero_r x)
lows (suc n) x =
    let q : ℕ = x / 2 ^ (8 * n) in
    let r : ℕ = x % 2 ^ (8 * n) in
    let m : ℕ = bytes_value (tabulate (λ _. 15) n) in
    let whole : x ≡ q * 2 ^ (8 * n) + r = sym (split x (8 * n)) in
    let block : bit_and (q * 2 ^ (8 * n) + r) (15 * 2 ^ (8 * n) + m) ≡ bit_and q 15 * 2 ^ (8 * n) + bit_and r m =
    and_block (8 * n) q 15 r m (mod-lt x (pow_pos (8 * n))) (value_small (λ _. 15) n (λ j. omega arith)) in
    let below : bit_and r m ≡ bytes_value (tabulate (low x) n) =
    lows n r ∙ ap bytes_value (tabulate_same (low r) (low x) n (λ j l. within x (8 * n) (8 * j) (omega arith))) in
    ap (λ (y : ℕ). bit_and y (bytes_value (tabulate (λ _. 15) (suc n)))) whole
    ∙ ap (bit_and (q * 2 ^ (8 * n) + r)) (value_more (λ _. 15) n)
    ∙ block
    ∙ (rw (and_mask q 4, below))
    ∙ sym (value_more (low x) n)

-- 15 in each byte
abbrev pub mask : ℕ
mask = 0x0F0F0F0F0F0F0F0F

mask_is : mask ≡ bytes_value (tabulate (λ _. 15) 8)
unfolding tabulate positional
mask_is = refl

masked : (x : ℕ) → bit_and x mask ≡ bytes_value (tabulate (low x) 8)
masked x = rw mask_is (lows 8 x)

-- ---- the numbers

module _ (more less : ℕ) where
  -- the places that hold other bits, and those of them that hold a 1 of `less`
  abbrev pub others : ℕ
  others = bit_xor (bit_and more mask) (bit_and less mask)

  abbrev pub negative : ℕ
  negative = bit_and others (bit_and less mask)

  other : ℕ → ℕ
  other j = bit_xor (low more j) (low less j)

  negatives : ℕ → ℕ
  negatives j = bit_and (other j) (low less j)

  other_small : (j : ℕ) → other j < 16
  unfolding other
  other_small j = xor_lt 4 (low more j) (low less j) (omega arith) (omega arith)

  negatives_small : (j : ℕ) → negatives j < 16
  unfolding negatives
  negatives_small j = omega (arith, and_le_l (other j) (low less j), other_small j)

  others_are : others ≡ bytes_value (tabulate other 8)
  unfolding other
  others_are = rw (masked more, masked less) (value_xor (low more) (low less) 8 (λ j. omega arith) (λ j. omega arith))

  negative_is : negative ≡ bytes_value (tabulate negatives 8)
  unfolding negatives
  negative_is = rw (others_are, masked less) (value_each bit_and refl and_block other (low less) 8 (λ j. omega (arith, other_small j)) (λ j. omega arith))

  twice : 2 * negative ≡ bytes_value (tabulate (λ j. 2 * negatives j) 8)
  twice =
      let t = tabulate_same (λ j. negatives j + negatives j) (λ j. 2 * negatives j) 8 (λ j l. omega arith) in
      omega (arith, negative_is, value_add negatives negatives 8 ∙ ap bytes_value t)

  index_is : (j : ℕ) → other j + 2 * negatives j ≡ index_byte more less j
  unfolding other negatives index_byte
  index_is j = refl

  index_small : (j : ℕ) → index_byte more less j < 256
  index_small j = omega (arith, index_is j, other_small j, negatives_small j)

  pub indices_are : others + 2 * negative ≡ bytes_value (tabulate (index_byte more less) 8)
  indices_are =
      let t = tabulate_same (λ j. other j + 2 * negatives j) (index_byte more less) 8 (λ j l. index_is j) in
      rw (twice, others_are) (value_add other (λ j. 2 * negatives j) 8 ∙ ap bytes_value t)

  -- what is looked up for byte j
  pub index_at : (word j : ℕ) → word ≡ bytes_value (tabulate (index_byte more less) 8) → j < 8 → word / 2 ^ (8 * j) % 256 ≡ index_byte more less j
  index_at word j e l =
      rw (e, ← power_of_bytes j, ← positional_at 256 (tabulate (index_byte more less) 8) j (below_tabulate 256 (index_byte more less) 8 index_small)) (get_d_tabulate (index_byte more less) 8 j l)
