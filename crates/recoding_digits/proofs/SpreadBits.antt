-- Eight bits in the bytes of a word, and the differences of two such words. Assumes nothing.
use mathlib.Core.Path.{◌≡◌, refl, sym, ap, ◌∙◌}
use mathlib.Core.Bool.{Bool, true, ◌&&◌, and-eq-true_iff}
use Prim.Native.Nat.{ℕ, zero, suc, ◌+◌, ◌*◌, ◌-◌, ◌/◌, ◌%◌, ◌^◌, ◌<◌, ◌≤◌}
use borrow.Author.Tests.{eqb-true}
use native.Mathlib.Decide.{dec_lt}
use native.Mathlib.Omega.{arith}
use lib.Bits.{bit_and, bit_xor, xor_block}
use lib.Dec.{eqb}
use Rattle.integers.specs.Bits.{bit}
use Rattle.integers.specs.Positional.{positional, bytes_value}
use Rattle.integers.specs.Tabulate.{tabulate}
use Rattle.integers.proofs.Bits.{bit_small, low_bits, power_of_bytes}
use Rattle.integers.proofs.Positional.{positional_at, positional_lt}
use Rattle.integers.proofs.Tabulate.{length_tabulate, tabulate_same, get_d_tabulate, below_tabulate, positional_tabulate}
use Rattle.recoding_digits.specs.Internal.{difference}

-- ---- the number whose bytes are f 0, f 1, .., f (n - 1)

pub value_small : (f : ℕ → ℕ) (n : ℕ) → ((j : ℕ) → f j < 256) → bytes_value (tabulate f n) < 2 ^ (8 * n)
value_small f n h = rw (← power_of_bytes n) (positional_lt 256 n (tabulate f n) (omega (arith, length_tabulate f n)) (below_tabulate 256 f n h))

pub value_none : (f : ℕ → ℕ) → bytes_value (tabulate f 0) ≡ 0
unfolding tabulate positional
value_none f = refl

pub value_more : (f : ℕ → ℕ) (n : ℕ) → bytes_value (tabulate f (suc n)) ≡ f n * 2 ^ (8 * n) + bytes_value (tabulate f n)
value_more f n = positional_tabulate 256 f n ∙ rw (power_of_bytes n) (omega arith)

pub value_add : (f g : ℕ → ℕ) (n : ℕ) → bytes_value (tabulate f n) + bytes_value (tabulate g n) ≡ bytes_value (tabulate (λ j. f j + g j) n)
value_add f g zero = omega (arith, value_none f, value_none g, value_none (λ j. f j + g j))
value_add f g (suc n) = omega (arith, value_more f n, value_more g n, value_more (λ j. f j + g j) n, value_add f g n)

-- an operation that acts on each bit by itself acts on each byte
pub value_each : (op : ℕ → ℕ → ℕ) → op 0 0 ≡ 0
    → ((k a b r s : ℕ) → r < 2 ^ k → s < 2 ^ k → op (a * 2 ^ k + r) (b * 2 ^ k + s) ≡ op a b * 2 ^ k + op r s)
    → (f g : ℕ → ℕ) (n : ℕ) → ((j : ℕ) → f j < 256) → ((j : ℕ) → g j < 256)
    → op (bytes_value (tabulate f n)) (bytes_value (tabulate g n)) ≡ bytes_value (tabulate (λ j. op (f j) (g j)) n)
value_each op none block f g zero hf hg = rw (value_none f, value_none g, value_none (λ j. op (f j) (g j))) none
value_each op none block f g (suc n) hf hg =
    rw (value_more f n, value_more g n, value_more (λ j. op (f j) (g j)) n, block (8 * n) (f n) (g n) (bytes_value (tabulate f n)) (bytes_value (tabulate g n)) (value_small f n hf) (value_small g n hg), value_each op none block f g n hf hg)

pub value_xor : (f g : ℕ → ℕ) (n : ℕ) → ((j : ℕ) → f j < 256) → ((j : ℕ) → g j < 256)
    → bit_xor (bytes_value (tabulate f n)) (bytes_value (tabulate g n)) ≡ bytes_value (tabulate (λ j. bit_xor (f j) (g j)) n)
value_xor = value_each bit_xor refl xor_block

-- ---- eight bits, one to a byte

-- a test passes at each number below n
unfoldable pub all : (ℕ → Bool) → ℕ → Bool
all f zero = true
all f (suc n) = f n && all f n

pub all_below : (f : ℕ → Bool) (n : ℕ) → all f n ≡ true → (k : ℕ) → k < n → f k ≡ true
unfolding all
all_below f zero e k h = absurd (omega arith)
all_below f (suc n) e k h = go (dec_lt k n) (λ l. all_below f n ((and-eq-true_iff (f n) (all f n)).0 e).1 k l)
  where
    go : Dec (k < n) → (k < n → f k ≡ true) → f k ≡ true
    go (yes l) below = below l
    go (no l) below = let i : k ≡ n = omega arith in rw i ((and-eq-true_iff (f n) (all f n)).0 e).0

-- what the code computes
abbrev copies : ℕ → ℕ
copies n = bit_and (0x204081 * (n % 16 + 0x100000000 * (n / 16 % 16))) 0x0101010101010101

right : ℕ → Bool
right n = eqb (copies n) (bytes_value (tabulate (bit n) 8))

rights : all right 256 ≡ true
unfolding all right tabulate positional bit
rights = refl

same : (a b q : ℕ) → b ≡ a + 16 * q → a % 16 ≡ b % 16
same a b q h = omega arith

pub spread_is : (word : ℕ) → copies word ≡ bytes_value (tabulate (bit word) 8)
unfolding bit right
spread_is word =
    let n : ℕ = word % 256 in
    let low : n % 16 ≡ word % 16 = omega arith in
    let split : word / 16 ≡ n / 16 + 16 * (word / 256) = omega arith in
    let high : n / 16 % 16 ≡ word / 16 % 16 = same (n / 16) (word / 16) (word / 256) split in
    let e : copies n ≡ bytes_value (tabulate (bit n) 8) = eqb-true (copies n) (bytes_value (tabulate (bit n) 8)) (all_below right 256 rights n (omega arith)) in
    (rw (low, high) at e) ∙ ap bytes_value (tabulate_same (bit n) (bit word) 8 (λ j l. low_bits n word j (omega arith) l))

-- ---- the differences

-- 128 in each byte
abbrev high : ℕ
high = 0x8080808080808080

high_is : high ≡ bytes_value (tabulate (λ _. 128) 8)
unfolding tabulate positional
high_is = refl

flip : (m l : ℕ) → m < 2 → l < 2 → bit_xor (m + 128 - l) 128 ≡ (m + 255 * l) % 256
flip zero zero h k = refl
flip zero (suc zero) h k = refl
flip (suc zero) zero h k = refl
flip (suc zero) (suc zero) h k = refl
flip zero (suc (suc l)) h k = absurd (omega arith)
flip (suc zero) (suc (suc l)) h k = absurd (omega arith)
flip (suc (suc m)) l h k = absurd (omega arith)

module _ (more less : ℕ) where
  byte : ℕ → ℕ
  byte j = bit more j + 128 - bit less j

  byte_small : (j : ℕ) → byte j < 256
  unfolding byte
  byte_small j = omega (arith, bit_small more j)

  flipped : (j : ℕ) → bit_xor (byte j) 128 ≡ difference more less j
  unfolding byte difference
  flipped j = flip (bit more j) (bit less j) (bit_small more j) (bit_small less j)

  pub fits : bytes_value (tabulate (bit more) 8) + high < 2 ^ 64
  fits =
      let s = value_small (λ j. bit more j + 128) 8 (λ j. omega (arith, bit_small more j)) in
      rw (high_is, value_add (bit more) (λ _. 128) 8) s

  above : bytes_value (tabulate (bit less) 8) + bytes_value (tabulate byte 8) ≡ bytes_value (tabulate (bit more) 8) + high
  unfolding byte
  above =
      let t = tabulate_same (λ j. bit less j + byte j) (λ j. bit more j + 128) 8 (λ j l. omega (arith, bit_small more j, bit_small less j)) in
      value_add (bit less) byte 8 ∙ ap bytes_value t ∙ sym (value_add (bit more) (λ _. 128) 8) ∙ rw high_is

  pub below : bytes_value (tabulate (bit less) 8) ≤ bytes_value (tabulate (bit more) 8) + high
  below = omega (arith, above)

  pub differences_are : bit_xor (bytes_value (tabulate (bit more) 8) + high - bytes_value (tabulate (bit less) 8)) high ≡ bytes_value (tabulate (difference more less) 8)
  differences_are =
      let e : bytes_value (tabulate (bit more) 8) + high - bytes_value (tabulate (bit less) 8) ≡ bytes_value (tabulate byte 8) = omega (arith, above) in
      rw (e, high_is) (value_xor byte (λ _. 128) 8 byte_small (λ j. omega arith) ∙ ap bytes_value (tabulate_same (λ j. bit_xor (byte j) 128) (difference more less) 8 (λ j l. flipped j)))

  small : (j : ℕ) → difference more less j < 256
  unfolding difference
  small j = omega arith

  -- what is stored at j
  pub difference_stored : (j : ℕ) → j < 8 → bytes_value (tabulate (difference more less) 8) / 2 ^ (8 * j) % 256 ≡ difference more less j
  difference_stored j l = rw (← power_of_bytes j, ← positional_at 256 (tabulate (difference more less) 8) j (below_tabulate 256 (difference more less) 8 small)) (get_d_tabulate (difference more less) 8 j l)
