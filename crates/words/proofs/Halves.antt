-- Whether words hold nothing, and half of what they hold. Assumes nothing.
use Rattle.std.proofs.Common.{◌≡◌, ℕ, zero, suc, ◌+◌, ◌*◌, ◌/◌, ◌%◌, ◌^◌, ◌<◌, ◌≤◌, Bool, ◌&&◌, eqb, List, [], length, get_or, take, drop, set, sym, refl, ap, ◌∙◌, add-zero, mul_assoc, mul-pos, pow-suc, mul-zero, mul-add, add-one, arith, drop_of_length-le, length-take, get_or-drop, get_or-take, get_or-set_same, drop-drop, drop-set-lt, eq-eqb, ne_eqb}
use native.Mathlib.Nat.{one-le-pow, mul-mod_left}
use lib.Bits.{bit_and, bit_or, and_comm, and_shifted}
use Rattle.std.proofs.lemmas.Nat.{or_disjoint}
use lib.ListN.{get_or-eq_default}
use lib.Pow.{shl-shr, mod-pow-add}
use lib.Seq.{take-set-le}
use Rattle.integers.specs.Positional.{positional, words_value}
use Rattle.integers.proofs.Positional.{positional_drop, positional_take}

-- ---- whether words hold nothing

both_zero : (p a x : ℕ) → 0 < p → (eqb a 0 && eqb x 0) ≡ eqb (a + p * x) 0
both_zero p zero zero h = sym (eq-eqb (0 + p * 0) 0 (omega (arith, mul-zero p)))
both_zero p zero (suc x) h =
    let some : 0 < p * suc x = mul-pos h (omega arith) in
    ne_eqb (suc x) 0 (λ z. omega arith) ∙ sym (ne_eqb (0 + p * suc x) 0 (λ z. omega arith))
both_zero p (suc a) x h = ap (λ (t : Bool). t && eqb x 0) (ne_eqb (suc a) 0 (λ z. omega arith)) ∙ sym (ne_eqb (suc a + p * x) 0 (λ z. omega arith))

-- the k low words and the next
pub zero_more : (l : List ℕ) (k : ℕ) → (eqb (words_value (take k l)) 0 && eqb (get_or l k 0) 0) ≡ eqb (words_value (take (k + 1) l)) 0
zero_more l k =
    rw (add-one, positional_take (2 ^ 64) k l) (both_zero ((2 ^ 64) ^ k) (words_value (take k l)) (get_or l k 0) (one-le-pow k (2 ^ 64) (omega arith)))

-- ---- half a word, and the low bit of another on top

-- of a word shifted up as far as it goes, the lowest bit is left
on_top : (x : ℕ) → x * 2 ^ 63 % 2 ^ 64 ≡ x % 2 * 2 ^ 63
on_top x = mod-pow-add (x * 2 ^ 63) 1 63 ∙ rw (shl-shr x 63, mul-mod_left x (2 ^ 63), add-zero)

-- a word turned by a bit: its half, with its own lowest bit on top
turned : (w : ℕ) → w < 2 ^ 64 → bit_or (w / 2) (w * 2 ^ 63 % 2 ^ 64) ≡ w / 2 + w % 2 * 2 ^ 63
turned w h =
    let apart : bit_and (w / 2) (w % 2 * 2 ^ 63) ≡ 0 = and_comm (w / 2) (w % 2 * 2 ^ 63) ∙ and_shifted (w % 2) 63 (w / 2) (omega arith) in
    rw (on_top w) (or_disjoint (w / 2) (w % 2 * 2 ^ 63) apart)

-- the lowest bit of w stands on top of its half twice, which carries out of the word, and that of n once
pub turned_half : (w n : ℕ) → w < 2 ^ 64 → (bit_or (w / 2) (w * 2 ^ 63 % 2 ^ 64) + (w + n) % 2 ^ 64 * 2 ^ 63 % 2 ^ 64) % 2 ^ 64 ≡ w / 2 + n % 2 * 2 ^ 63
turned_half w n h =
    rw (turned w h, on_top ((w + n) % 2 ^ 64)) (both (w / 2) (w % 2) (n % 2) ((w + n) % 2 ^ 64 % 2) (omega arith) (omega arith) (omega arith) (omega arith))
  where
    both : (a c d t : ℕ) → a < 2 ^ 63 → c < 2 → d < 2 → t ≡ (c + d) % 2 → (a + c * 2 ^ 63 + t * 2 ^ 63) % 2 ^ 64 ≡ a + d * 2 ^ 63
    both a c d t ha hc hd e = omega arith

-- ---- halving in place, from the lowest word up

-- the number is that of the n low words of l. The k low words of `half` are those of half of it, half of the words from k on is still to come, and from k on
-- `half` is as l
abbrev pub Halved : ℕ → List ℕ → ℕ → List ℕ → Type 0
Halved n l k half =
    (words_value (take k half) + (2 ^ 64) ^ k * (words_value (drop k (take n l)) / 2) ≡ words_value (take n l) / 2) × (drop k half ≡ drop k l)

pub halved_none : (n : ℕ) (l : List ℕ) → Halved n l 0 l
unfolding positional
halved_none n l = (omega arith, refl)

-- a word's half takes the low bit of the word above for its top one
half_word : (l : List ℕ) (k : ℕ) → words_value (drop k l) / 2 ≡ get_or l k 0 / 2 + get_or l (suc k) 0 % 2 * 2 ^ 63 + 2 ^ 64 * (words_value (drop (suc k) l) / 2)
half_word l k =
    let u : ℕ = words_value (drop (suc k) l) in
    let low : get_or l (suc k) 0 % 2 ≡ u % 2 = omega (arith, positional_drop (2 ^ 64) l (suc k)) in
    ap (λ (n : ℕ). n / 2) (positional_drop (2 ^ 64) l k) ∙ rw low (split_half (get_or l k 0) u)
  where
    split_half : (w u : ℕ) → (w + 2 ^ 64 * u) / 2 ≡ w / 2 + u % 2 * 2 ^ 63 + 2 ^ 64 * (u / 2)
    split_half w u = omega arith

one_above : (P a x u q v : ℕ) → q ≡ x + 2 ^ 64 * u → a + P * q ≡ v → a + P * x + P * 2 ^ 64 * u ≡ v
one_above P a x u q v e h =
    let m : P * (x + 2 ^ 64 * u) ≡ P * x + P * 2 ^ 64 * u = rw (mul-add P x (2 ^ 64 * u), mul_assoc P (2 ^ 64) u) in
    omega (arith, ap (λ (n : ℕ). P * n) e)

module _ (n : ℕ) (l half : List ℕ) (k : ℕ) (within : k < length half) where
  -- a word that still stands
  stands : (i j : ℕ) → i ≡ k + j → i < n → drop k half ≡ drop k l → get_or half i 0 ≡ get_or (take n l) i 0
  stands i j e h same = rw (get_or-take n l i 0 h, e, ← get_or-drop k half j 0, same, get_or-drop k l j 0)

  stored : (x : ℕ) → x ≡ get_or (take n l) k 0 / 2 + get_or (take n l) (suc k) 0 % 2 * 2 ^ 63 → Halved n l k half → Halved n l (k + 1) (set half k x)
  stored x e (h, same) = (
    rw (add-one, positional_take (2 ^ 64) k (set half k x), take-set-le k half k x (omega arith), get_or-set_same half k x 0 within, pow-suc (2 ^ 64) k)
        (one_above ((2 ^ 64) ^ k) (words_value (take k half)) x (words_value (drop (suc k) (take n l)) / 2) (words_value (drop k (take n l)) / 2) (words_value (take n l) / 2) (omega (arith, half_word (take n l) k)) h),
    drop-set-lt (k + 1) half k x (omega arith) ∙ sym (drop-drop 1 k half) ∙ ap (λ (r : List ℕ). drop 1 r) same ∙ drop-drop 1 k l,
  )

  pub halved_more : k + 1 < n → Halved n l k half → Halved n l (k + 1) (set half k (get_or half k 0 / 2 + get_or half (k + 1) 0 % 2 * 2 ^ 63))
  halved_more h halves =
      stored _ (rw (stands k 0 (omega arith) (omega arith) halves.1, stands (k + 1) 1 refl h halves.1, add-one)) halves

  -- the top word has none above
  pub halved_all : n ≡ k + 1 → Halved n l k half →
      let done = set half k (get_or half k 0 / 2) in (words_value (take n done) ≡ words_value (take n l) / 2) × (drop n done ≡ drop n l)
  unfolding positional
  halved_all e halves =
      let x : ℕ = get_or half k 0 / 2 in
      let short : length (take n l) ≤ n = omega (arith, length-take n l) in
      let none : get_or (take n l) (suc k) 0 ≡ 0 = get_or-eq_default (take n l) 0 {n = suc k} (omega arith) in
      let all : Halved n l (k + 1) (set half k x) = stored x (omega (arith, stands k 0 (omega arith) (omega arith) halves.1)) halves in
      let high : drop (k + 1) (take n l) ≡ [] = drop_of_length-le (take n l) {i = k + 1} (omega arith) in
      (rw (high, mul-zero, add-zero, ← e) at all.0, rw (← e) at all.1)
