-- What the 64 bits from a place down say of a number: its bits there, and the window at the highest 1. Assumes nothing.
use mathlib.Core.Path.{◌≡◌, refl, sym, ap, ◌∙◌}
use mathlib.Core.Logic.{◌≢◌}
use Prim.Native.Nat.{ℕ, zero, suc, ◌+◌, ◌-◌, ◌*◌, ◌/◌, ◌%◌, ◌^◌, ◌<◌, ◌≤◌}
use borrow.Author.Tests.{ne_eqb, le-leb, lt-leb}
use native.Mathlib.Decide.{dec_le}
use native.Mathlib.Nat.{zero-add, mul_comm, mul_assoc, mod-lt, div-eq_of_lt, pow-suc}
use native.Mathlib.Omega.{arith}
use lib.Count.{count_leading_zeros, leading_length}
use lib.Pow.{pow_pos, pow-add, shr-shr, shl-shr, field, mod-mod-pow}
use Rattle.integers.specs.Bits.{bit, bit_length}
use Rattle.integers.proofs.Bits.{bit_length_iff, top_bit, place_down, bit_small, length_from}
use Rattle.methods.specs.Widths.{sliding_window_bits}
use Rattle.methods.specs.SlidingWindows.{longest, window_value}
use Rattle.methods.proofs.SlidingWindows.{longest_window}
use Rattle.method_sliding_windows.specs.declared.Window.{Window}
use Rattle.method_sliding_windows.specs.Scan.{window_at, bits_down, first_in}

-- the length by the leading zeros
pub leading_bits : (x : ℕ) → 0 < x → x < 2 ^ 64 → count_leading_zeros 64 x + bit_length x ≡ 64
leading_bits x some small =
    let (m, zeros, low, high) = leading_length 64 x small in
    omega (arith, length_from x 0 m (omega arith) (omega arith) (omega arith))

-- above its length a number has zeros
above_length : (x j : ℕ) → bit_length x ≤ j → bit x j ≡ 0
unfolding bit
above_length x j h = rw (div-eq_of_lt {n = x} {m = 2 ^ j} ((bit_length_iff x j).0 h))

pub top_one : (x : ℕ) → 0 < x → bit x (bit_length x - 1) ≡ 1
top_one x some = omega (arith, place_down x (bit_length x - 1), top_bit x some, bit_small x (bit_length x - 1))

-- a number with more values below it than a window has, has more bits
pub more_bits : (x : ℕ) → 2 ^ sliding_window_bits ≤ x → sliding_window_bits < bit_length x
more_bits x h = elim (dec_le (bit_length x) sliding_window_bits) [
  | yes l ↦ absurd (omega (arith, (bit_length_iff x sliding_window_bits).0 l))
  | no l ↦ omega arith
]

module _ (e p : ℕ) where
  abbrev x : ℕ
  x = bits_down e p

  bits_small : x < 2 ^ 64
  bits_small = mod-lt (2 ^ 64 * e / 2 ^ (p + 1)) (pow_pos 64)

  -- the l bits from m on
  field_of : (m l : ℕ) → m + l ≤ 64 → x / 2 ^ m % 2 ^ l ≡ 2 ^ 64 * e / 2 ^ (p + 1 + m) % 2 ^ l
  field_of m l h =
      let v : ℕ = 2 ^ 64 * e / 2 ^ (p + 1) in
      let s : 64 ≡ (64 - m - l + l) + m = omega arith in
      ap (λ (i : ℕ). v % 2 ^ i / 2 ^ m % 2 ^ l) s ∙ ap (λ (y : ℕ). y % 2 ^ l) (field v (64 - m - l + l) m) ∙ mod-mod-pow (v / 2 ^ m) (64 - m - l) l
      ∙ ap (λ (y : ℕ). y % 2 ^ l) (shr-shr (2 ^ 64 * e) (p + 1) m)

  -- are the number's
  field_above : (m l q : ℕ) → m + l ≤ 64 → p + m ≡ q + 63 → x / 2 ^ m % 2 ^ l ≡ e / 2 ^ q % 2 ^ l
  field_above m l q h t =
      let s : p + 1 + m ≡ 64 + q = omega arith in
      field_of m l h ∙ rw (s, ← shr-shr (2 ^ 64 * e) 64 q, mul_comm (2 ^ 64) e, shl-shr e 64)

  bit_above : (j q : ℕ) → j < 64 → p + j ≡ q + 63 → bit x j ≡ bit e q
  unfolding bit
  bit_above j q h t = field_above j 1 q (omega arith) t

  -- and zeros below place 0
  bit_below : (j : ℕ) → j < 64 → p + j < 63 → bit x j ≡ 0
  unfolding bit
  bit_below j h t =
      let i : ℕ = p + 1 + j in
      let k : ℕ = 63 - i in
      let s : 64 ≡ suc k + i = omega arith in
      let f : 2 ^ 64 * e ≡ e * 2 ^ suc k * 2 ^ i = mul_comm (2 ^ 64) e ∙ ap (λ (n : ℕ). e * 2 ^ n) s ∙ ap (λ (y : ℕ). e * y) (pow-add 2 (suc k) i) ∙ sym (mul_assoc e (2 ^ suc k) (2 ^ i)) in
      let g : e * 2 ^ suc k ≡ e * 2 ^ k * 2 = ap (λ (y : ℕ). e * y) (pow-suc 2 k) ∙ sym (mul_assoc e (2 ^ k) 2) in
      field_of j 1 (omega arith) ∙ rw (f, shl-shr (e * 2 ^ suc k) i, g) (omega arith)

  module _ (m n : ℕ) (at : p + m ≡ n + 63) (low : m < 64) where
    same_longest : (l : ℕ) → l ≤ suc m → longest x m l ≡ longest e n l
    unfolding longest
    same_longest zero h = refl
    same_longest (suc l) h =
        elim (dec_le l n) [
          | yes t ↦ rw (le-leb l m (omega arith), le-leb l n t, bit_above (m - l) (n - l) (omega arith) (omega arith), same_longest l (omega arith))
          | no t ↦
              let z : bit x (m - l) ≢ 1 = omega (arith, bit_below (m - l) (omega arith) (omega arith)) in
              rw (le-leb l m (omega arith), lt-leb l n (omega arith), ne_eqb (bit x (m - l)) 1 z) (same_longest l (omega arith))
        ]

    same_value : (l : ℕ) → l ≤ suc m → l ≤ suc n → window_value x m l ≡ window_value e n l
    same_value l h k = field_above (suc m - l) l (suc n - l) (omega arith) (omega arith)

    same_window : (d : ℕ) → bit x m ≡ 1 → 1 ≤ d → d ≤ suc m → window_at x m d ≡ window_at e n d
    same_window d one wide h =
        let w = longest_window x m d one wide in
        let v = longest_window e n d (sym (bit_above m n low at) ∙ one) wide in
        let same = same_longest d h in
        rw (same, same_value (longest e n d) (omega arith) v.within)

  -- what is zero among the bits is zero in the number
  pub bits_zero : (q j : ℕ) → j < 64 → p + j ≡ q + 63 → bit_length x ≤ j → bit e q ≡ 0
  bits_zero q j h t above = sym (bit_above j q h t) ∙ above_length x j above

  -- the highest 1 among the bits, and where it stands in the number
  pub record First (d : ℕ) : Type 0 where
    pub place : ℕ
    pub below : p + bit_length x ≡ place + 64
    pub length : bit_length x ≤ 64
    pub one : bit e place ≡ 1
    pub zeros : (j : ℕ) → suc place ≤ j → j < suc p → bit e j ≡ 0
    pub window : first_in x d ≡ record { bits = 64 - bit_length x + longest e place d; value = window_value e place (longest e place d) }

  pub first_in_lem : (d : ℕ) → 1 ≤ d → d ≤ sliding_window_bits → 2 ^ sliding_window_bits ≤ x → First d
  first_in_lem d wide narrow big =
      let m : ℕ = bit_length x - 1 in
      let one : bit x m ≡ 1 = top_one x (omega arith) in
      let length : bit_length x ≤ 64 = (bit_length_iff x 64).1 bits_small in
      let long : sliding_window_bits < bit_length x = more_bits x big in
      let reached : 63 ≤ p + m = reach m one (omega arith) in
      let n : ℕ = p + m - 63 in
      let at : p + m ≡ n + 63 = omega arith in
      let same = same_window m n at (omega arith) d one wide (omega arith) in
      record {
        place = n;
        below = omega arith;
        length = length;
        one = sym (bit_above m n (omega arith) at) ∙ one;
        zeros = λ j h l. bits_zero j (j + 63 - p) (omega arith) (omega arith) (omega arith);
        window = ap (λ (w : Window). record { bits = 64 - bit_length x + w.bits; value = w.value }) same;
      }
    where
      reach : (m : ℕ) → bit x m ≡ 1 → m < 64 → 63 ≤ p + m
      reach m one low = elim (dec_le 63 (p + m)) [
        | yes h ↦ h
        | no h ↦ absurd (omega (arith, bit_below m low (omega arith)))
      ]

-- from the top bit down the bits begin with a window
module _ (e d : ℕ) (some : 0 < e) (wide : 1 ≤ d) (narrow : d ≤ sliding_window_bits) where
  abbrev n : ℕ
  n = bit_length e - 1

  abbrev y : ℕ
  y = bits_down e n

  high : 2 ^ 63 ≤ y
  unfolding bit
  high = omega (arith, bit_above e n 63 n (omega arith) (omega arith) ∙ top_one e some)

  pub start_large : 2 ^ sliding_window_bits ≤ y
  start_large = omega (arith, high)

  full : bit_length y ≡ 64
  full = elim (dec_le 64 (bit_length y)) [
    | yes h ↦ omega (arith, (bit_length_iff y 64).1 (bits_small e n))
    | no h ↦ absurd (omega (arith, high, (bit_length_iff y 63).0 (omega arith)))
  ]

  pub start_window : first_in y d ≡ window_at e n d
  start_window = rw (full, zero-add) (same_window e n 63 n (omega arith) (omega arith) d (bit_above e n 63 n (omega arith) (omega arith) ∙ top_one e some) wide (omega arith))
