-- Binary digits that one number has and another has not, and the bit length, word by word. Assumes nothing.
use mathlib.Core.Path.{◌≡◌, refl, sym, ap, ◌∙◌}
use Prim.Native.Nat.{ℕ, zero, suc, ◌+◌, ◌-◌, ◌*◌, ◌/◌, ◌^◌, ◌<◌, ◌≤◌}
use native.Mathlib.Nat.{add-zero, zero-add, pow-suc}
use native.Mathlib.Omega.{arith}
use lib.Bits.{bit_and, and_le_l, and_block}
use lib.Count.{ones, ones_in, ones_cat, count_leading_zeros, leading_unique}
use Rattle.integers.specs.Bits.{bit_length}
use Rattle.integers.proofs.Bits.{bit_length_iff, length_from}
use Rattle.naf_tally.specs.Tally.{only_in, length_to, length_above, Tallied}
use Rattle.naf_tally.specs.declared.Tally.{Tally}

-- ---- places that hold 1 in a and 0 in b

-- a word, and what stands above
only_in_word : (a b r s : ℕ) → r < 2 ^ 64 → s < 2 ^ 64 → only_in (a * 2 ^ 64 + r) (b * 2 ^ 64 + s) ≡ only_in a b + only_in r s
unfolding only_in
only_in_word a b r s hr hs =
    let e : a * 2 ^ 64 + r - bit_and (a * 2 ^ 64 + r) (b * 2 ^ 64 + s) ≡ (a - bit_and a b) * 2 ^ 64 + (r - bit_and r s) =
    omega (arith, and_block 64 a b r s hr hs, and_le_l a b, and_le_l r s) in
    rw e (ones_cat 64 (a - bit_and a b) (r - bit_and r s) (omega arith))

-- ---- the bit length

-- no smaller number of places holds a number
tight : (v : ℕ) → 2 ^ bit_length v ≤ 2 * v + 1
tight v = go (bit_length v) refl
  where
    go : (n : ℕ) → bit_length v ≡ n → 2 ^ n ≤ 2 * v + 1
    go zero e = omega arith
    go (suc n) e =
        let more : v < 2 ^ n → ⊥ = λ l. omega (arith, (bit_length_iff v n).1 l) in
        omega (arith, pow-suc 2 n)

length_word : (v w : ℕ) → 0 < v → w < 2 ^ 64 → bit_length (v * 2 ^ 64 + w) ≡ 64 + bit_length v
length_word v w some h =
    let e : (v * 2 ^ 64 + w) / 256 ^ 8 ≡ v = omega arith in
    length_from (v * 2 ^ 64 + w) 8 (bit_length v) (rw e ((bit_length_iff v (bit_length v)).0 (omega arith))) (rw e (tight v)) (rw e some)

pub length_some : (below places v : ℕ) → 0 < v → length_above below places v ≡ places + bit_length v
unfolding length_above
length_some below places zero h = absurd (omega arith)
length_some below places (suc v) h = refl

pub length_none : (below places v : ℕ) → v ≡ 0 → length_above below places v ≡ below
unfolding length_above
length_none below places v z = rw z

pub length_by_zeros : (w : ℕ) → w < 2 ^ 64 → 64 - count_leading_zeros 64 w ≡ bit_length w
length_by_zeros w h =
    let few : bit_length w ≤ 64 = (bit_length_iff w 64).1 h in
    omega (arith, leading_unique 64 w (64 - bit_length w) (bit_length w) (omega arith) ((bit_length_iff w (bit_length w)).0 (omega arith)) (tight w))

length_more : (below places v w : ℕ) → w < 2 ^ 64 → length_above (length_above below places w) (places + 64) v ≡ length_above below places (v * 2 ^ 64 + w)
unfolding length_above
length_more below places zero w h = let e : w ≡ 0 * 2 ^ 64 + w = omega arith in ap (length_above below places) e
length_more below places (suc v) w h =
    omega (arith, length_some below places (suc v * 2 ^ 64 + w) (omega arith), length_word (suc v) w (omega arith) h)

-- ---- the tally

pub nothing_tallied : (e : ℕ) → Tallied e e (record { places = 0; plus = 0; minus = 0; top = record { under = 0; word = 0 }; carry = 0 })
nothing_tallied e = record { plus = rw (add-zero (3 * e), zero-add (only_in (3 * e) e)); minus = rw (add-zero (3 * e), zero-add (only_in e (3 * e))); length = rw (add-zero (3 * e)) (whole (3 * e)) }
  where
    whole : (v : ℕ) → length_above (0 + bit_length 0) 0 v ≡ bit_length v
    whole zero = length_none (0 + bit_length 0) 0 0 refl ∙ zero-add (bit_length 0)
    whole (suc v) = length_some (0 + bit_length 0) 0 (suc v) (omega arith) ∙ zero-add (bit_length (suc v))

-- a word of e, to which `carry` is carried, and the word of 3 e there, which carries `next`
module _ (word carry triple next : ℕ) (hw : word < 2 ^ 64) (ht : triple < 2 ^ 64) (sum : triple + 2 ^ 64 * next ≡ 3 * word + carry) where
  pub next_carry : next ≡ (3 * word + carry) / 2 ^ 64
  next_carry = omega arith

  pub next_small : carry ≤ 2 → next ≤ 2
  next_small h = omega arith

  pub tallied_word : (e left : ℕ) (t r : Tally) → t.carry ≡ carry → r.carry ≡ next → r.places ≡ t.places + 64
      → r.plus ≡ t.plus + only_in triple word → r.minus ≡ t.minus + only_in word triple → length_to r.top ≡ length_above (length_to t.top) t.places triple
      → Tallied e (left * 2 ^ 64 + word) t → Tallied e left r
  tallied_word e left t r from to places plus minus length h =
      let v : ℕ = 3 * left + next in
      let s : 3 * (left * 2 ^ 64 + word) + t.carry ≡ v * 2 ^ 64 + triple = omega arith in
      record {
        plus = rw to (omega (arith, rw s at h.plus, only_in_word v left triple word ht hw));
        minus = rw to (omega (arith, rw s at h.minus, only_in_word left v word triple hw ht));
        length = rw (to, places, length) (length_more (length_to t.top) t.places v triple ht ∙ (rw s at h.length));
      }

no_digits : only_in 0 0 ≡ 0
unfolding only_in ones ones_in
no_digits = refl

-- nothing is left
pub all_tallied : (e : ℕ) (t : Tally) → t.carry ≡ 0 → Tallied e 0 t → (t.plus ≡ only_in (3 * e) e) × (t.minus ≡ only_in e (3 * e)) × (length_to t.top ≡ bit_length (3 * e))
all_tallied e t c h =
    let z : 3 * 0 + t.carry ≡ 0 = omega arith in
    (omega (arith, rw z at h.plus, no_digits), omega (arith, rw z at h.minus, no_digits), sym (length_none (length_to t.top) t.places (3 * 0 + t.carry) z) ∙ h.length)
