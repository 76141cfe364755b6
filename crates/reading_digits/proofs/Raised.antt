-- A digit string with each digit raised by the largest of its width: its value by that sum. Assumes nothing.
use mathlib.Core.Path.{◌≡◌, refl, sym, ap, ◌∙◌}
use mathlib.Core.Bool.{true}
use mathlib.Core.List.{List, [], ◌∷◌}
use Prim.Native.Nat.{ℕ, zero, suc, ◌+◌, ◌-◌, ◌*◌, ◌%◌, ◌^◌, ◌<◌, ◌≤◌}
use native.Mathlib.Nat.{zero-add, pow-suc, mul-add, mul-le-mul}
use native.Mathlib.Numerals.{sub-one}
use native.Mathlib.Omega.{arith}
use lib.ListN.{length, get_or, take, drop, length-take, length-drop, length-map}
use lib.Pow.{pow-add, pow_pos, pow_mono}
use lib.Seq.{take-add, take-length, drop-cons, drop-length, get_or-drop, length-take-le}
use Rattle.std.specs.Prelude.{map}
use Rattle.std.proofs.lemmas.List.{get_or-take, drop-map, take-map}
use Rattle.rules.specs.Limits.{least_width, largest_width}
use Rattle.integers.specs.Positional.{positional, bytes_value, Significant}
use Rattle.integers.proofs.Positional.{Below, below_take, below_drop, positional_append}
use Rattle.signed_digits.specs.Bytes.{string_of}
use Rattle.signed_digits.proofs.Parts.{positive_part, negative_part, positive_sum, negative_sum, value_parts}
use Rattle.digit_strings.specs.Admission.{largest_digit, is_digit, string_value, DigitString}
use Rattle.digit_strings.proofs.Raised.{raised_is}
use Rattle.reading_digits.specs.Sums.{raised_digits, SizesUpTo, raised_sum, raised_zeros, by_sign, carry_zero}

-- ---- zeros

pub zeros_none : (t : ℕ) → raised_zeros t 0 ≡ 0
unfolding raised_zeros
zeros_none t = omega arith

-- the lowest of them, and those above it
pub zeros_low : (t n : ℕ) → raised_zeros t (suc n) ≡ t + 2 * raised_zeros t n
unfolding raised_zeros
zeros_low t n =
    let e : 2 ^ suc n - 1 ≡ 1 + 2 * (2 ^ n - 1) = omega (arith, pow-suc 2 n, pow_pos n) in
    rw e (omega arith)

pub zeros_add : (t m c : ℕ) → raised_zeros t (m + c) ≡ raised_zeros t m + 2 ^ m * raised_zeros t c
unfolding raised_zeros
zeros_add t m c =
    let p : ℕ = 2 ^ m in
    let q : ℕ = 2 ^ c - 1 in
    let e : 2 ^ (m + c) ≡ p * (1 + q) = pow-add 2 m c ∙ ap (λ (x : ℕ). p * x) (omega (arith, pow_pos c)) in
    let f : 2 ^ (m + c) - 1 ≡ (p - 1) + p * q = omega (arith, e, pow_pos m) in
    rw (f, mul-add) (omega arith)

-- those of a byte
pub zeros_byte : (t c : ℕ) → t < carry_zero → c ≤ 8 → raised_zeros t c ≤ 127 * 255
unfolding raised_zeros
zeros_byte t c h l = mul-le-mul {n₁ = t} {m₁ = 2 ^ c - 1} {n₂ = 127} {m₂ = 255} (omega arith) (omega (arith, pow_mono {i = c} {j = 8} l))

-- as the code makes them
pub zeros_made : (t c : ℕ) → c ≤ 8 → t * (1 * 2 ^ c % 2 ^ 64 - 1) ≡ raised_zeros t c
unfolding raised_zeros
zeros_made t c h =
    let e : 1 * 2 ^ c % 2 ^ 64 - 1 ≡ 2 ^ c - 1 = omega (arith, pow_mono {i = c} {j = 8} h) in
    ap (λ (x : ℕ). t * x) e

-- ---- sums

module _ (t : ℕ) where
  raised_at : (l : List ℕ) (i : ℕ) → i < length l → get_or (raised_digits t l) i 0 ≡ (get_or l i 0 + t) % 256
  raised_at [] i h = absurd (omega arith)
  raised_at (x ∷ l) zero h = refl
  raised_at (x ∷ l) (suc i) h = raised_at l i (omega arith)

  raised_below : (l : List ℕ) → SizesUpTo t l → Below (2 * t + 1) (raised_digits t l)
  raised_below [] d i = omega arith
  raised_below (x ∷ l) d zero = omega (arith, d 0 (omega arith))
  raised_below (x ∷ l) d (suc i) = raised_below l (λ k h. d (suc k) (omega arith)) i

  -- k raised digits come to at most twice as much as k zeros
  raised_most : (k : ℕ) (l : List ℕ) → length l ≤ k → Below (2 * t + 1) l → positional 2 l ≤ 2 * raised_zeros t k
  unfolding positional
  raised_most k [] h b = omega arith
  raised_most zero (x ∷ l) h b = absurd (omega arith)
  raised_most (suc k) (x ∷ l) h b = omega (arith, zeros_low t k, b 0, raised_most k l (omega arith) (λ i. b (suc i)))

  pub raised_few : (l : List ℕ) (m c : ℕ) → SizesUpTo t l → raised_sum t l m c ≤ 2 * raised_zeros t c
  unfolding raised_sum
  raised_few l m c d =
      raised_most c (take c (drop m (raised_digits t l))) (omega (arith, length-take c (drop m (raised_digits t l))))
      (below_take (2 * t + 1) c (drop m (raised_digits t l)) (omega arith) (below_drop (2 * t + 1) m (raised_digits t l) (omega arith) (raised_below l d)))

  -- the sum of m digits and of the c above them
  pub raised_add : (l : List ℕ) (m c : ℕ) → m + c ≤ length l → raised_sum t l 0 (m + c) ≡ raised_sum t l 0 m + 2 ^ m * raised_sum t l m c
  unfolding raised_sum
  raised_add l m c h =
      let long : length (take m (raised_digits t l)) ≡ m = length-take-le m (raised_digits t l) (rw length-map (omega arith)) in
      rw (take-add m c (raised_digits t l), positional_append 2 (take m (raised_digits t l)) (take c (drop m (raised_digits t l))), long)

  pub raised_none : (l : List ℕ) (m : ℕ) → raised_sum t l m 0 ≡ 0
  unfolding raised_sum positional
  raised_none l m = refl

  -- the lowest digit and those above it
  pub raised_low : (l : List ℕ) (m c : ℕ) → m < length l → raised_sum t l m (suc c) ≡ (get_or l m 0 + t) % 256 + 2 * raised_sum t l (suc m) c
  unfolding raised_sum positional
  raised_low l m c h =
      let p : m < length (raised_digits t l) = rw length-map h in
      rw (drop-cons (raised_digits t l) m 0 p, raised_at l m h)

  -- a sum from the top down, one digit more
  pub raised_down : (l : List ℕ) (from count i : ℕ) → from + count ≤ length l → 0 < i → i ≤ count
      → raised_sum t l (from + i) (count - i) * 2 + (get_or l (from + (i - 1)) 0 + t) % 256 ≡ raised_sum t l (from + (i - 1)) (count - (i - 1))
  raised_down l from count i h some k =
      let place : from + i ≡ suc (from + (i - 1)) = omega arith in
      let left : count - (i - 1) ≡ suc (count - i) = omega arith in
      rw (left, place) (omega (arith, raised_low l (from + (i - 1)) (count - i) (omega arith)))

  -- the same from the end of the string
  pub raised_from_end : (l : List ℕ) (i sum : ℕ) → i < length l → sum ≡ raised_sum t l (suc i) (length l - suc i)
      → sum * 2 + (get_or l i 0 + t) % 256 ≡ raised_sum t l i (length l - i)
  raised_from_end l i sum h e =
      rw e (simp (sub-one, zero-add) at (raised_down l 0 (length l) (suc i) (omega arith) (omega arith) (omega arith)))

-- the digits from m up to e by themselves
module _ (t : ℕ) (l : List ℕ) (m e : ℕ) (order : m ≤ e) (fits : e ≤ length l) where
  abbrev part : List ℕ
  part = take (e - m) (drop m l)

  part_size : length part ≡ e - m
  part_size = length-take-le (e - m) (drop m l) (omega (arith, length-drop m l))

  pub part_sizes : SizesUpTo t l → SizesUpTo t part
  part_sizes d i h =
      let there : get_or part i 0 ≡ get_or l (m + i) 0 = get_or-take (e - m) (drop m l) i 0 (omega (arith, part_size)) ∙ get_or-drop m l i 0 in
      rw there (d (m + i) (omega (arith, part_size)))

  part_sum : raised_sum t part 0 (length part) ≡ raised_sum t l m (e - m)
  unfolding raised_sum
  part_sum =
      let f : ℕ → ℕ = λ byte. (byte + t) % 256 in
      let all : take (length part) (map f part) ≡ map f part = ap (λ (n : ℕ). take n (map f part)) (sym (length-map part f)) ∙ take-length (map f part) in
      rw (all, drop-map f m l, take-map f (e - m) (drop m l))

  -- what `byte_of` says of them
  pub part_byte : (sign carry b : ℕ)
      → b + by_sign sign (raised_zeros t (length part)) (raised_sum t part 0 (length part)) ≡ carry + 255 * carry_zero + by_sign sign (raised_sum t part 0 (length part)) (raised_zeros t (length part))
      → b + by_sign sign (raised_zeros t (e - m)) (raised_sum t l m (e - m)) ≡ carry + 255 * carry_zero + by_sign sign (raised_sum t l m (e - m)) (raised_zeros t (e - m))
  part_byte sign carry b h = rw (part_sum, part_size) at h

-- ---- the digits of a width

-- above all digits there is none
pub none_above : (l : List ℕ) → bytes_value (drop (length l) l) ≡ 0
unfolding positional
none_above l = rw (drop-length l) refl

-- a width from the least on has digits other than 0
pub some_digit : (w : ℕ) → least_width ≤ w → 1 ≤ largest_digit w
some_digit w h = omega (arith, pow_mono {i = 1} {j = w - 1} (omega arith))

module _ (w : ℕ) (most : w ≤ largest_width) where
  abbrev Digits : List ℕ → Type 0
  Digits l = (i : ℕ) → i < length l → is_digit w (get_or l i 0) ≡ true

  pub sizes_up_to : (l : List ℕ) → DigitString w l → SizesUpTo (largest_digit w) l
  sizes_up_to l d i h = (raised_is w (get_or l i 0) most (d.digits i h)).1

  -- the sums of the digits above and below zero, by n digits with zeros alone above them
  sums : (l : List ℕ) (n : ℕ) → Digits l → n ≤ length l → bytes_value (drop n l) ≡ 0
      → positive_sum (string_of l) + raised_zeros (largest_digit w) n ≡ positional 2 (take n (raised_digits (largest_digit w) l)) + negative_sum (string_of l)
  unfolding positional positive_sum negative_sum
  sums [] zero d h z = omega (arith, zeros_none (largest_digit w))
  sums [] (suc n) d h z = absurd (omega arith)
  sums (x ∷ l) zero d h z =
      let e : x ≡ 0 = omega arith in
      rw e (omega (arith, zeros_none (largest_digit w), sums l zero (λ k p. d (suc k) (omega arith)) (omega arith) (omega arith)))
  sums (x ∷ l) (suc n) d h z =
      omega (arith, raised_is w x most (d 0 (omega arith)), zeros_low (largest_digit w) n, sums l n (λ k p. d (suc k) (omega arith)) (omega arith) z)

  -- the value by the sum of these
  pub value_by_sum : (l : List ℕ) (n : ℕ) → DigitString w l → n ≤ length l → bytes_value (drop n l) ≡ 0
      → positive_part (string_value l) + raised_zeros (largest_digit w) n ≡ raised_sum (largest_digit w) l 0 n + negative_part (string_value l)
  unfolding raised_sum
  value_by_sum l n d h z = omega (arith, value_parts (string_of l), sums l n d.digits h z)

  -- by that of the significant digits
  pub raised_value : (l : List ℕ) (n : ℕ) → DigitString w l → Significant l n
      → positive_part (string_value l) + raised_zeros (largest_digit w) n ≡ raised_sum (largest_digit w) l 0 n + negative_part (string_value l)
  raised_value l n d s = value_by_sum l n d s.within s.whole
