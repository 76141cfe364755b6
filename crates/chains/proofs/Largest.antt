-- The largest size among the values of a plan: its bit length is the least number of bits that holds every size, and a step at most doubles it. Assumes
-- nothing.
use mathlib.Core.Path.{◌≡◌, refl}
use mathlib.Core.Logic.{◌↔◌}
use mathlib.Core.Bool.{Bool, true, false, cond}
use mathlib.Core.List.{List, [], ◌∷◌, ◌++◌}
use Prim.Native.Nat.{ℕ, zero, suc, max, ◌+◌, ◌*◌, ◌-◌, ◌/◌, ◌^◌, ◌<◌, ◌≤◌}
use borrow.Author.Tests.{ltb-true}
use native.Mathlib.Decide.{dec_lt, dec_le}
use native.Mathlib.Nat.{pow-suc, div-lt_iff_lt-mul, lt_of_le_of_lt}
use native.Mathlib.Omega.{arith}
use lib.Dec.{ltb, eqb}
use lib.IntN.{ℤ, pos, negsuc, neg_ℤ, ◌+ℤ◌, ◌-ℤ◌, sub_ℕ, nat_abs}
use lib.ListN.{length}
use lib.Pow.{pow_pos, pow_mono}
use lib.Seq.{get_or_at}
use Rattle.integers.specs.Bits.{bit, bit_length, length_up_to}
use Rattle.integers.proofs.Bits.{bit_length_iff, bit_small}
use Rattle.integers.proofs.Signed.{negated_size}
use Rattle.chains.specs.Steps.{Step, adding, add, subtract}
use Rattle.chains.specs.Values.{at, step_value, extend, values_of, end_of}
use Rattle.chains.specs.Largest.{largest, largest_bits}
use Rattle.chains.specs.Sound.{step_at, SoundBelow}
use Rattle.chains.proofs.Values.{values_after, length_values, length_after, after_none, after_all, after_more, value_first}

-- ---- of any values

-- no size is larger; what stands at no position is 0
pub largest_each : (values : List ℤ) (i : ℕ) → nat_abs (at values i) ≤ largest values
unfolding largest
largest_each [] i = omega arith
largest_each (z ∷ values) zero = omega arith
largest_each (z ∷ values) (suc i) = omega (arith, largest_each values i)

-- it is one of them
pub largest_one : (values : List ℤ) → 0 < length values → (i : ℕ) × (i < length values) × (nat_abs (at values i) ≡ largest values)
unfolding largest
largest_one [] h = absurd (omega arith)
largest_one (z ∷ []) h = (0, omega arith, omega arith)
largest_one (z ∷ (y ∷ values)) h =
    let (i, l, e) = largest_one (y ∷ values) (omega arith) in
    elim (dec_le (nat_abs z) (largest (y ∷ values))) [
      | yes g ↦ (suc i, omega arith, omega arith)
      | no g ↦ (0, omega arith, omega arith)
    ]

-- its bits are the least number that holds every size
pub largest_bits_lem : (values : List ℤ) (k : ℕ) → 0 < length values → bit_length (largest values) ≤ k ↔ ((i : ℕ) → i < length values → nat_abs (at values i) < 2 ^ k)
largest_bits_lem values k some = (
  λ h i w. lt_of_le_of_lt (largest_each values i) ((bit_length_iff (largest values) k).0 h),
  λ h. let (i, w, e) = largest_one values some in (bit_length_iff (largest values) k).1 (rw e at (h i w)),
)

-- one value more
largest_append : (values : List ℤ) (z : ℤ) → largest (values ++ (z ∷ [])) ≡ max (largest values) (nat_abs z)
unfolding largest
largest_append [] z = omega arith
largest_append (y ∷ values) z = omega (arith, largest_append values z)

difference_size : (a b : ℕ) → nat_abs (sub_ℕ a b) ≤ a + b
difference_size a b = go (ltb a b) refl
  where
    go : (t : Bool) → ltb a b ≡ t → nat_abs (cond t (negsuc (b - suc a)) (pos (a - b))) ≤ a + b
    go true e = omega (arith, ltb-true a b e)
    go false e = omega arith

sum_size : (x y : ℤ) → nat_abs (x +ℤ y) ≤ nat_abs x + nat_abs y
sum_size (pos a) (pos b) = omega arith
sum_size (pos a) (negsuc b) = difference_size a (suc b)
sum_size (negsuc a) (pos b) = omega (arith, difference_size b (suc a))
sum_size (negsuc a) (negsuc b) = omega arith

-- a step at most doubles it
pub step_size : (values : List ℤ) (s : Step) → nat_abs (step_value values s) ≤ 2 * largest values
unfolding step_value
step_size values s = go (eqb s.operation adding)
  where
    a : ℤ
    a = at values s.first

    b : ℤ
    b = at values s.second

    go : (t : Bool) → nat_abs (cond t (a +ℤ b) (a -ℤ b)) ≤ 2 * largest values
    go true = omega (arith, sum_size a b, largest_each values s.first, largest_each values s.second)
    go false = omega (arith, sum_size a (neg_ℤ b), negated_size b, largest_each values s.first, largest_each values s.second)

-- ---- bits

bits_up : (m n : ℕ) → m ≤ n → bit_length m ≤ bit_length n
bits_up m n h = (bit_length_iff m (bit_length n)).1 (lt_of_le_of_lt h ((bit_length_iff n (bit_length n)).0 (omega arith)))

-- the larger of two numbers, one of which is at most twice the other, has one bit more exactly where the bit above the other is 1
larger_bits : (m n : ℕ) → n ≤ 2 * m → bit_length (max m n) ≡ bit_length m + bit n (bit_length m)
unfolding bit
larger_bits m n h =
    let b : ℕ = bit_length m in
    let low : m < 2 ^ b = (bit_length_iff m b).0 (omega arith) in
    let below : n / 2 ^ b < 2 = (div-lt_iff_lt-mul (pow_pos b)).1 (omega arith) in
    elim (dec_lt n (2 ^ b)) [
      | yes l ↦
          let none : n / 2 ^ b < 1 = (div-lt_iff_lt-mul (pow_pos b)).1 (omega arith) in
          omega (arith, bits_up m (max m n) (omega arith), (bit_length_iff (max m n) b).1 (omega arith))
      | no l ↦
          let some : n / 2 ^ b < 1 → ⊥ = λ q. let r = (div-lt_iff_lt-mul (pow_pos b)).0 q in omega arith in
          let few : bit_length (max m n) ≤ b → ⊥ = λ q. let r = (bit_length_iff (max m n) b).0 q in omega arith in
          omega (arith, (bit_length_iff (max m n) (suc b)).1 (omega (arith, pow-suc 2 b)))
    ]

bits_append : (values : List ℤ) (s : Step) → let z = step_value values s in
    bit_length (largest (values ++ (z ∷ []))) ≡ bit_length (largest values) + bit (nat_abs z) (bit_length (largest values))
bits_append values s = rw (largest_append values (step_value values s)) (larger_bits (largest values) (nat_abs (step_value values s)) (step_size values s))

-- ---- of a plan

-- position 0 alone
pub bits_none : largest_bits [] ≡ 1
unfolding largest_bits largest values_of extend bit_length length_up_to
bits_none = refl

-- 1, 2, -1, -3, -6, 1: neither the last value nor the largest one, but the largest size decides
pub bits_below_zero : largest_bits (add 0 0 ∷ subtract 0 1 ∷ subtract 2 1 ∷ add 3 3 ∷ add 1 2 ∷ []) ≡ 3
unfolding largest_bits largest values_of extend step_value bit_length length_up_to
bits_below_zero = refl

module _ (steps : List Step) where
  -- once n steps are behind
  abbrev pub bits_after : ℕ → ℕ
  bits_after n = bit_length (largest (values_after steps n))

  -- the next step adds the bit of its size just above
  pub bits_next : (n : ℕ) → n < length steps → bits_after (suc n) ≡ bits_after n + bit (nat_abs (at (values_after steps (suc n)) (suc n))) (bits_after n)
  bits_next n h =
      let values : List ℤ = values_after steps n in
      let last : at (values ++ (step_value values (step_at steps n) ∷ [])) (suc n) ≡ step_value values (step_at steps n) = get_or_at values _ [] (pos 0) (suc n) (length_after steps n (omega arith)) in
      rw (after_more steps n h, last) (bits_append values (step_at steps n))

  pub bits_start : bits_after 0 ≡ 1
  unfolding largest bit_length length_up_to
  bits_start = rw (after_none steps)

  pub bits_all : bits_after (length steps) ≡ largest_bits steps
  unfolding largest_bits
  bits_all = rw (after_all steps)

  -- so n steps add at most n
  pub bits_few : (n : ℕ) → n ≤ length steps → bits_after n ≤ suc n
  bits_few zero h = omega (arith, bits_start)
  bits_few (suc n) h = omega (arith, bits_next n h, bits_few n (omega arith), bit_small (nat_abs (at (values_after steps (suc n)) (suc n))) (bits_after n))

  -- the least number of bits that holds every size
  pub bits_least : (k : ℕ) → largest_bits steps ≤ k ↔ ((i : ℕ) → i ≤ length steps → nat_abs (at (values_of steps) i) < 2 ^ k)
  unfolding largest_bits
  bits_least k =
      let all = largest_bits_lem (values_of steps) k (omega (arith, length_values steps)) in
      (λ h i w. all.0 h i (omega (arith, length_values steps)), λ h. all.1 (λ i w. h i (omega (arith, length_values steps))))

  -- so it holds the size of each position
  bits_each : (i : ℕ) → i ≤ length steps → bit_length (nat_abs (at (values_of steps) i)) ≤ largest_bits steps
  bits_each i w = (bit_length_iff _ (largest_bits steps)).1 ((bits_least (largest_bits steps)).0 (omega arith) i w)

  -- that of the last one, too, which is the number where a plan is accepted
  pub bits_end : bit_length (nat_abs (end_of steps)) ≤ largest_bits steps
  bits_end = bits_each (length steps) (omega arith)

  -- and where all values are below a power of two, its exponent is enough
  pub bits_below : {k : ℕ} → 0 < k → SoundBelow (2 ^ k) steps → largest_bits steps ≤ k
  bits_below {k} some sound = (bits_least k).1 each
    where
      each : (i : ℕ) → i ≤ length steps → nat_abs (at (values_of steps) i) < 2 ^ k
      each zero w = rw (value_first steps) (omega (arith, pow_mono {i = 1} {j = k} some))
      each (suc i) w = (sound.representable i (omega arith)).small
