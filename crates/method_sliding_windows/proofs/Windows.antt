-- The longest window at a place, by the trailing zeros of as many bits as it may have. Assumes nothing.
use mathlib.Core.Path.{◌≡◌, sym, ap, ◌∙◌}
use mathlib.Core.Logic.{◌≢◌}
use Prim.Native.Nat.{ℕ, zero, suc, ◌+◌, ◌-◌, ◌/◌, ◌%◌, ◌^◌, ◌<◌, ◌≤◌}
use borrow.Author.Tests.{eq-eqb, ne_eqb, le-leb}
use native.Mathlib.Decide.{ℕ_discrete}
use native.Mathlib.Nat.{sub-zero, mod-eq_of_lt}
use native.Mathlib.Numerals.{add-one, one-add}
use native.Mathlib.Omega.{arith}
use lib.Count.{count_leading_zeros, count_trailing_zeros}
use lib.Pow.{shr_lt, shr-shr, field}
use Rattle.integers.specs.Bits.{bit, bit_length}
use Rattle.integers.proofs.Bits.{bit_small, bit_length_iff}
use Rattle.methods.specs.Widths.{sliding_window_bits}
use Rattle.methods.specs.SlidingWindows.{longest, window_value}
use Rattle.methods.proofs.SlidingWindows.{low_bit}
use Rattle.method_sliding_windows.specs.Scan.{first_in}
use Rattle.method_sliding_windows.proofs.Bits.{leading_bits, top_one, more_bits}

module _ (e n : ℕ) where
  -- the t trailing zeros of l bits are not in the window
  record Stripped (l t : ℕ) : Type 0 where
    some : t < l
    bits : longest e n l ≡ l - t
    value : window_value e n l / 2 ^ t ≡ window_value e n (l - t)

  module _ (l : ℕ) (within : l ≤ n) where
    lowest : window_value e n (suc l) % 2 ≡ bit e (n - l)
    unfolding bit
    lowest = let s : suc n - suc l ≡ n - l = omega arith in rw s (low_bit (e / 2 ^ (n - l)) (suc l) (omega arith))

    half : window_value e n (suc l) / 2 ≡ window_value e n l
    half =
        let s : suc n - suc l ≡ n - l = omega arith in
        let up : n - l + 1 ≡ suc n - l = omega arith in
        rw (s, ← add-one l) (field (e / 2 ^ (n - l)) l 1 ∙ ap (λ (x : ℕ). x % 2 ^ l) (shr-shr e (n - l) 1 ∙ ap (λ (i : ℕ). e / 2 ^ i) up))

    ends : bit e (n - l) ≡ 1 → Stripped (suc l) 0
    unfolding longest
    ends o = record {
      some = omega arith;
      bits = rw (le-leb l n within, eq-eqb (bit e (n - l)) 1 o, sub-zero);
      value = rw (sub-zero (suc l)) (omega arith);
    }

    shorter : (t : ℕ) → bit e (n - l) ≢ 1 → Stripped l t → Stripped (suc l) (suc t)
    unfolding longest
    shorter t z s =
        let same : suc l - suc t ≡ l - t = omega arith in
        record {
          some = omega (arith, s.some);
          bits = rw (le-leb l n within, ne_eqb (bit e (n - l)) 1 z, same) s.bits;
          value = rw (same, ← one-add t) (sym (shr-shr (window_value e n (suc l)) 1 t) ∙ rw half s.value);
        }

  stripped : (k l : ℕ) → bit e n ≡ 1 → l ≤ k → 1 ≤ l → l ≤ suc n → Stripped l (count_trailing_zeros k (window_value e n l))
  unfolding count_trailing_zeros
  stripped zero l one h some m = absurd (omega arith)
  stripped (suc k) zero one h some m = absurd (omega arith)
  stripped (suc k) (suc l) one h some m =
      elim (ℕ_discrete (bit e (n - l)) 1) [
        | yes o ↦ rw (lowest l (omega arith) ∙ o) (ends l (omega arith) o)
        | no z ↦
            let even : bit e (n - l) ≡ 0 = omega (arith, bit_small e (n - l)) in
            let more : l ≢ 0 = λ q. z (rw (q, sub-zero n) one) in
            rw (lowest l (omega arith) ∙ even, half l (omega arith)) (shorter l (omega arith) _ z (stripped k l one (omega arith) (omega arith) (omega arith)))
      ]

-- b is the value of the d bits from place n down
module _ (e n d b : ℕ) (one : bit e n ≡ 1) (wide : 1 ≤ d) (few : d ≤ 64) (within : d ≤ suc n) (read : b ≡ window_value e n d) where
  all : Stripped e n d (count_trailing_zeros 64 b)
  all = rw read (stripped e n 64 d one few wide within)

  stripped_few : count_trailing_zeros 64 b < d
  stripped_few = all.some

  window_bits : longest e n d ≡ d - count_trailing_zeros 64 b
  window_bits = all.bits

  window_value_lem : b / 2 ^ count_trailing_zeros 64 b ≡ window_value e n (longest e n d)
  window_value_lem = ap (λ (x : ℕ). x / 2 ^ count_trailing_zeros 64 b) read ∙ all.value ∙ ap (λ (l : ℕ). window_value e n l) (sym window_bits)

-- of 64 bits, by their leading zeros
module _ (x d : ℕ) (big : 2 ^ sliding_window_bits ≤ x) (small : x < 2 ^ 64) (wide : 1 ≤ d) (narrow : d ≤ sliding_window_bits) where
  abbrev zeros : ℕ
  zeros = count_leading_zeros 64 x

  abbrev read : ℕ
  read = x / 2 ^ (64 - zeros - d)

  abbrev trailing : ℕ
  trailing = count_trailing_zeros 64 read

  pub zeros_few : (zeros + bit_length x ≡ 64) × (sliding_window_bits < bit_length x)
  zeros_few = (leading_bits x (omega arith) small, more_bits x big)

  reads : read ≡ window_value x (bit_length x - 1) d
  reads =
      let k : ℕ = suc (bit_length x - 1) - d in
      let s : 64 - zeros - d ≡ k = omega (arith, zeros_few) in
      let all : bit_length x ≡ d + k = omega (arith, zeros_few) in
      let fits : x < 2 ^ (d + k) = rw (← all) ((bit_length_iff x (bit_length x)).0 (omega arith)) in
      rw s (sym (mod-eq_of_lt (shr_lt d k fits)))

  one : bit x (bit_length x - 1) ≡ 1
  one = top_one x (omega arith)

  within : d ≤ suc (bit_length x - 1)
  within = omega (arith, zeros_few)

  pub trailing_few : trailing < d
  trailing_few = stripped_few x (bit_length x - 1) d read one wide (omega arith) within reads

  pub first_read : record { bits = zeros + d - trailing; value = read / 2 ^ trailing } ≡ first_in x d
  first_read =
      let bits : zeros + d - trailing ≡ 64 - bit_length x + longest x (bit_length x - 1) d = omega (arith, zeros_few, trailing_few, window_bits x (bit_length x - 1) d read one wide (omega arith) within reads) in
      rw (bits, window_value_lem x (bit_length x - 1) d read one wide (omega arith) within reads)
