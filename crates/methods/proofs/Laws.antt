-- What the methods share: a plan in the making whose latest position holds a known value, doublings of it, and adding or subtracting what stands at a
-- known position. Assumes nothing.
use mathlib.Core.Path.{◌≡◌, refl, sym, ap, ◌∙◌}
use mathlib.Core.Logic.{◌≢◌}
use mathlib.Core.List.{List, [], ◌∷◌, ◌++◌}
use Prim.Native.Nat.{ℕ, zero, suc, ◌+◌, ◌*◌, ◌-◌, ◌^◌, ◌<◌, ◌≤◌}
use native.Mathlib.Decide.{dec_lt}
use native.Mathlib.Nat.{le-add_right, pow-succ', mul_assoc, mul_comm, mul-le-mul_left, mul-pos, lt_of_le_of_lt, lt_of_lt_of_le, lt_of_not-le}
use native.Mathlib.Numerals.{add-one}
use native.Mathlib.Omega.{arith}
use lib.IntN.{ℤ, pos, neg_ℤ}
use lib.ListN.{length, length-append, get_or-append}
use lib.Pow.{pow_pos, pow_mono, pow-lt, add-lt-pow}
use lib.Seq.{get_or_at}
use Rattle.rules.specs.Limits.{number_bytes, plan_steps, value_bytes, value_bound}
use Rattle.integers.specs.Bits.{bit_length}
use Rattle.integers.specs.Positional.{bytes_value}
use Rattle.integers.proofs.Bits.{bit_length_iff, some_bits, bytes_length}
use Rattle.integers.proofs.Positional.{Below}
use Rattle.numbers.specs.Admission.{Positive}
use Rattle.chains.specs.Steps.{Step, add, subtract}
use Rattle.chains.specs.Values.{at, step_value, extend, values_of, end_of}
use Rattle.chains.specs.Largest.{largest_bits}
use Rattle.chains.specs.Sound.{step_at, WellFormed, RepresentableBelow, SoundBelow}
use Rattle.chains.specs.Counts.{HidesNone, NoHiddenDoubling}
use Rattle.chains.proofs.Values.{extend_append, length_values, value_first}
use Rattle.chains.proofs.Largest.{bits_least, bits_end, bits_below}
use Rattle.signed_digits.proofs.Steps.{minus_smaller}
use Rattle.methods.specs.PartialPlan.{PartialPlan, none, followed, double, add_at, subtract_at, doubled, down_from}

-- ---- one step more

values_followed : (steps : List Step) (s : Step) → values_of (steps ++ (s ∷ [])) ≡ values_of steps ++ (step_value (values_of steps) s ∷ [])
unfolding values_of extend
values_followed steps s = extend_append (pos 1 ∷ []) steps (s ∷ [])

-- the positions before keep their values
pub value_kept : (steps : List Step) (s : Step) (p : ℕ) → p ≤ length steps → at (values_of (steps ++ (s ∷ []))) p ≡ at (values_of steps) p
value_kept steps s p h =
    ap (λ (l : List ℤ). at l p) (values_followed steps s) ∙ get_or-append (values_of steps) (step_value (values_of steps) s ∷ []) (pos 0) p (omega (arith, length_values steps))

value_new : (steps : List Step) (s : Step) → at (values_of (steps ++ (s ∷ []))) (suc (length steps)) ≡ step_value (values_of steps) s
value_new steps s =
    ap (λ (l : List ℤ). at l (suc (length steps))) (values_followed steps s) ∙ get_or_at (values_of steps) (step_value (values_of steps) s) [] (pos 0) (suc (length steps)) (length_values steps)

sound_none : {limit : ℕ} → SoundBelow limit []
sound_none = record { formed = λ n h. absurd (omega arith); representable = λ n h. absurd (omega arith) }

sound_followed : {limit : ℕ} (steps : List Step) (s : Step) → SoundBelow limit steps → WellFormed (suc (length steps)) s → RepresentableBelow limit (step_value (values_of steps) s)
    → SoundBelow limit (steps ++ (s ∷ []))
sound_followed {limit} steps s all n v = record { formed = formed; representable = representable }
  where
    formed : (i : ℕ) → i < length (steps ++ (s ∷ [])) → WellFormed (suc i) (step_at (steps ++ (s ∷ [])) i)
    formed i h = go (dec_lt i (length steps))
      where
        go : Dec (i < length steps) → WellFormed (suc i) (step_at (steps ++ (s ∷ [])) i)
        go (yes l) = rw (get_or-append steps (s ∷ []) (add 0 0) i l) (all.formed i l)
        go (no l) =
            let e : i ≡ length steps = omega (arith, length-append steps (s ∷ [])) in
            rw (e, get_or_at steps s [] (add 0 0) (length steps) refl) n

    representable : (i : ℕ) → i < length (steps ++ (s ∷ [])) → RepresentableBelow limit (at (values_of (steps ++ (s ∷ []))) (suc i))
    representable i h = go (dec_lt i (length steps))
      where
        go : Dec (i < length steps) → RepresentableBelow limit (at (values_of (steps ++ (s ∷ []))) (suc i))
        go (yes l) = rw (value_kept steps s (suc i) (omega arith)) (all.representable i l)
        go (no l) =
            let e : i ≡ length steps = omega (arith, length-append steps (s ∷ [])) in
            rw (e, value_new steps s) v

unhidden_none : NoHiddenDoubling []
unhidden_none n h = absurd (omega arith)

-- a step that hides no doubling hides none once another follows
hides_kept : (steps : List Step) (s r : Step) → WellFormed (suc (length steps)) r → HidesNone (values_of steps) r → HidesNone (values_of (steps ++ (s ∷ []))) r
hides_kept steps s r n h =
    let first = value_kept steps s r.first (omega (arith, n.first)) in
    let second = value_kept steps s r.second (omega (arith, n.second)) in
    record { sums = rw (first, second) h.sums; differences = rw (first, second) h.differences }

unhidden_followed : (steps : List Step) (s : Step) → ((i : ℕ) → i < length steps → WellFormed (suc i) (step_at steps i)) → NoHiddenDoubling steps → WellFormed (suc (length steps)) s
    → HidesNone (values_of steps) s → NoHiddenDoubling (steps ++ (s ∷ []))
unhidden_followed steps s formed before n here i h = go (dec_lt i (length steps))
  where
    go : Dec (i < length steps) → HidesNone (values_of (steps ++ (s ∷ []))) (step_at (steps ++ (s ∷ [])) i)
    go (yes l) =
        let f : WellFormed (suc i) (step_at steps i) = formed i l in
        rw (get_or-append steps (s ∷ []) (add 0 0) i l)
        (hides_kept steps s (step_at steps i) (record { operation = f.operation; first = omega (arith, f.first); second = omega (arith, f.second) }) (before i l))
    go (no l) =
        let e : i ≡ length steps = omega (arith, length-append steps (s ∷ [])) in
        rw (e, get_or_at steps s [] (add 0 0) (length steps) refl) (hides_kept steps s s n here)

-- ---- a plan in the making

-- all steps so far are sound, with values below the limit; none hides a doubling, and the latest position holds v
pub record Holds (limit : ℕ) (b : PartialPlan) (v : ℕ) : Type 0 where
  pub sound : SoundBelow limit b.steps
  pub unhidden : NoHiddenDoubling b.steps
  pub within : b.latest ≤ length b.steps
  pub value : at (values_of b.steps) b.latest ≡ pos v

-- position p, filled already, holds w
pub record Stands (b : PartialPlan) (p w : ℕ) : Type 0 where
  pub filled : p ≤ length b.steps
  pub value : at (values_of b.steps) p ≡ pos w

pub none_holds : {limit : ℕ} → Holds limit none 1
unfolding values_of extend
none_holds = record { sound = sound_none; unhidden = unhidden_none; within = omega arith; value = refl }

pub latest_followed : (b : PartialPlan) (s : Step) → (followed b s).latest ≡ length (followed b s).steps
unfolding followed
latest_followed b s = sym (length-append b.steps (s ∷ []))

pub length_followed : (b : PartialPlan) (s : Step) → length (followed b s).steps ≡ length b.steps + 1
unfolding followed
length_followed b s = length-append b.steps (s ∷ [])

-- what stands stays
pub stands_followed : (b : PartialPlan) (s : Step) (p w : ℕ) → Stands b p w → Stands (followed b s) p w
unfolding followed
stands_followed b s p w t = record { filled = rw length-append (omega (arith, t.filled)); value = value_kept b.steps s p t.filled ∙ t.value }

-- position 0 holds 1 from the start
pub one_stands : (b : PartialPlan) → Stands b 0 1
one_stands b = record { filled = omega arith; value = value_first b.steps }

zero_not : (v : ℕ) → 0 < v → v ≡ 0 → ⊥
zero_not v p e = omega arith

followed_holds : {limit : ℕ} (b : PartialPlan) (s : Step) (u v : ℕ) → Holds limit b u → WellFormed (suc (length b.steps)) s → HidesNone (values_of b.steps) s
    → step_value (values_of b.steps) s ≡ pos v → 0 < v → v < limit → Holds limit (followed b s) v
unfolding followed
followed_holds b s u v h n hides e p l = record {
  sound = sound_followed b.steps s h.sound n (rw e (record { nonzero = λ z. let y : v ≡ 0 = cc in zero_not v p y; small = l }));
  unhidden = unhidden_followed b.steps s h.sound.formed h.unhidden n hides;
  within = rw length-append (omega arith);
  value = rw add-one (value_new b.steps s ∙ e);
}

-- ---- the three kinds of step

-- the latest is below the next position
formed_add : (b : PartialPlan) (p : ℕ) → b.latest ≤ length b.steps → p ≤ length b.steps → WellFormed (suc (length b.steps)) (add b.latest p)
formed_add b p h l = record { operation = omega arith; first = omega arith; second = omega arith }

-- what stands at another position is another value
pub add_holds : {limit : ℕ} (b : PartialPlan) (p v w : ℕ) → Holds limit b v → Stands b p w → (b.latest ≢ p → v ≢ w) → 0 < v + w → v + w < limit → Holds limit (add_at p b) (v + w)
unfolding step_value
add_holds b p v w h t other some small =
    followed_holds b (add b.latest p) v (v + w) h (formed_add b p h.within t.filled)
    (record { sums = λ o d e. other d (let f : pos v ≡ pos w = sym h.value ∙ e ∙ t.value in cc); differences = λ o. absurd (o refl) })
    (rw (h.value, t.value)) some small

pub double_holds : {limit : ℕ} (b : PartialPlan) (v : ℕ) → Holds limit b v → 0 < v → 2 * v < limit → Holds limit (double b) (2 * v)
double_holds b v h some small =
    let e : 2 * v ≡ v + v = omega arith in
    rw e (add_holds b b.latest v v h (record { filled = h.within; value = h.value }) (λ o. absurd (o refl)) (omega arith) (rw e at small))

-- what is above zero is not the opposite of a number
not_opposite : (v w : ℕ) → 0 < v → pos v ≢ neg_ℤ (pos w)
not_opposite v zero h e = let z : v ≡ 0 = cc in omega arith
not_opposite v (suc w) h e = let z : ◌≡◌ {A = ℕ} 0 1 = cc in omega arith

subtract_holds : {limit : ℕ} (b : PartialPlan) (p v w : ℕ) → Holds limit b v → Stands b p w → w < v → v < limit → Holds limit (subtract_at p b) (v - w)
unfolding step_value
subtract_holds b p v w h t less small =
    followed_holds b (subtract b.latest p) v (v - w) h (record { operation = omega arith; first = omega (arith, h.within); second = omega (arith, t.filled) })
    (record { sums = λ o. absurd (omega arith); differences = λ o e. not_opposite v w (omega arith) (sym h.value ∙ e ∙ ap neg_ℤ t.value) })
    (rw (h.value, t.value) (minus_smaller v w (omega arith))) (omega arith) (omega arith)

-- a doubling, then what stands at p added or taken away
pub double_add : {limit : ℕ} (b : PartialPlan) (p v w : ℕ) → Holds limit b v → Stands b p w → 2 * v ≢ w → 0 < v → 2 * v + w < limit → Holds limit (add_at p (double b)) (2 * v + w)
double_add b p v w h t other some small =
    add_holds (double b) p (2 * v) w (double_holds b v h some (omega arith))
    (stands_followed b (add b.latest b.latest) p w t) (λ o. other) (omega arith) small

pub double_subtract : {limit : ℕ} (b : PartialPlan) (p v w : ℕ) → Holds limit b v → Stands b p w → w < 2 * v → 2 * v < limit → Holds limit (subtract_at p (double b)) (2 * v - w)
double_subtract b p v w h t less small =
    subtract_holds (double b) p (2 * v) w (double_holds b v h (omega arith) small) (stands_followed b (add b.latest b.latest) p w t) less small

-- ---- repeated

-- n doublings, with what stood before
pub doubled_holds : {limit : ℕ} (n : ℕ) (b : PartialPlan) (v : ℕ) → Holds limit b v → 0 < v → v * 2 ^ n < limit → Holds limit (doubled n b) (v * 2 ^ n)
unfolding doubled
doubled_holds zero b v h some small = let e : v * 2 ^ 0 ≡ v = omega arith in rw e h
doubled_holds {limit} (suc n) b v h some small =
    let e : v * 2 ^ suc n ≡ 2 * v * 2 ^ n = rw (pow-succ', ← mul_assoc v 2 (2 ^ n), mul_comm v 2) in
    let all : 2 * v * 2 ^ n < limit = rw e at small in
    rw e (doubled_holds n (double b) (2 * v) (double_holds b v h some (omega (arith, mul-le-mul_left (2 * v) (pow_pos n)))) (omega arith) all)

pub stands_doubled : (n : ℕ) (b : PartialPlan) (p w : ℕ) → Stands b p w → Stands (doubled n b) p w
unfolding doubled
stands_doubled zero b p w t = t
stands_doubled (suc n) b p w t = stands_doubled n (double b) p w (stands_followed b (add b.latest b.latest) p w t)

pub length_doubled : (n : ℕ) (b : PartialPlan) → length (doubled n b).steps ≡ length b.steps + n
unfolding doubled
length_doubled zero b = omega arith
length_doubled (suc n) b = omega (arith, length_doubled n (double b), length_followed b (add b.latest b.latest))

-- the last of n + 1 doublings
pub doubled_last : (n : ℕ) (b : PartialPlan) → doubled (suc n) b ≡ double (doubled n b)
unfolding doubled
doubled_last zero b = refl
doubled_last (suc n) b = doubled_last n (double b)

-- after a doubling the latest is the last position
pub latest_doubled : (n : ℕ) (b : PartialPlan) → 1 ≤ n → (doubled n b).latest ≡ length (doubled n b).steps
unfolding doubled
latest_doubled zero b h = absurd (omega arith)
latest_doubled (suc zero) b h = latest_followed b (add b.latest b.latest)
latest_doubled (suc (suc n)) b h = latest_doubled (suc n) (double b) (omega arith)

-- n doublings, then what stands at p added
pub doubled_add : {limit : ℕ} (n : ℕ) (b : PartialPlan) (p v w : ℕ) → Holds limit b v → Stands b p w → v * 2 ^ n ≢ w → 0 < v → v * 2 ^ n + w < limit → Holds limit (add_at p (doubled n b)) (v * 2 ^ n + w)
doubled_add n b p v w h t other some small =
    add_holds (doubled n b) p (v * 2 ^ n) w (doubled_holds n b v h some (omega arith))
    (stands_doubled n b p w t) (λ o. other) (omega (arith, mul-pos some (pow_pos n))) small

-- from n places down to none
pub down_from_lem {ℓ} : (P : ℕ → PartialPlan → Type ℓ) (f : ℕ → PartialPlan → PartialPlan) (n : ℕ) (b : PartialPlan) → ((i : ℕ) (b : PartialPlan) → i < n → P (suc i) b → P i (f i b)) → P n b → P 0 (down_from f n b)
unfolding down_from
down_from_lem P f zero b step h = h
down_from_lem P f (suc n) b step h = down_from_lem P f n (f n b) (λ i c l q. step i c (omega arith) q) (step n b (omega arith) h)

-- steps are only added
pub down_grows : (f : ℕ → PartialPlan → PartialPlan) (n : ℕ) (b : PartialPlan) → ((i : ℕ) (b : PartialPlan) → length b.steps ≤ length (f i b).steps) → length b.steps ≤ length (down_from f n b).steps
unfolding down_from
down_grows f zero b more = omega arith
down_grows f (suc n) b more = omega (arith, more n b, down_grows f n (f n b) more)

-- ---- what every method comes to

-- sound steps that end at the number, with values below the limit and no hidden doubling
pub record Made (limit : ℕ) (steps : List Step) (e : ℕ) : Type 0 where
  pub sound : SoundBelow limit steps
  pub unhidden : NoHiddenDoubling steps
  pub end : end_of steps ≡ pos e

pub made : {limit : ℕ} (b : PartialPlan) (e : ℕ) → Holds limit b e → b.latest ≡ length b.steps → Made limit b.steps e
made b e h l = record { sound = h.sound; unhidden = h.unhidden; end = rw (← l) h.value }

-- ---- the bits of the largest size

-- no fewer than those of the number, and no more than hold the limit
pub made_bits : {k : ℕ} {steps : List Step} {e : ℕ} → 0 < k → Made (2 ^ k) steps e → (bit_length e ≤ largest_bits steps) × (largest_bits steps ≤ k)
made_bits {steps = steps} some m = (rw m.end at (bits_end steps), bits_below steps some m.sound)

-- so the number's own, where its bits are limit enough
pub own_bits : {steps : List Step} {e : ℕ} → 0 < e → (e < 2 ^ bit_length e → Made (2 ^ bit_length e) steps e) → largest_bits steps ≡ bit_length e
own_bits {e = e} some m = omega (arith, made_bits (some_bits e some) (m ((bit_length_iff e (bit_length e)).0 (omega arith))))

-- what stands is held
pub stands_bits : {k : ℕ} (b : PartialPlan) (p w : ℕ) → Stands b p w → 2 ^ k ≤ w → k < largest_bits b.steps
stands_bits {k} b p w t h =
    lt_of_not-le (λ few. let small : w < 2 ^ k = rw t.value at ((bits_least b.steps k).0 few p t.filled) in omega arith)

-- ---- within the limits of the rules

-- with the limit of the rules, and no more of them than a plan may have
pub record Fit (steps : List Step) (e : ℕ) : Type 0 where
  pub made : Made value_bound steps e
  pub few : length steps ≤ plan_steps

-- a number that a plan is made for: above zero and within the limit
pub record Plannable (e : ℕ) : Type 0 where
  pub some : 0 < e
  pub bits : bit_length e ≤ 8 * number_bytes

pub plannable : (number : List ℕ) → Below 256 number → Positive number → Plannable (bytes_value number)
plannable number bytes p = record { some = omega (arith, p.nonzero); bits = bytes_length number number_bytes bytes p.admitted.short }

-- a power of two that fits into the bytes of a value is below the limit
pub power_small : (d : ℕ) → d < 8 * value_bytes → 2 ^ d < value_bound
power_small d h =
    let more : 2 ^ d < 2 ^ suc d = rw (pow-succ' 2 d) (omega (arith, pow_pos d)) in
    lt_of_lt_of_le more (pow_mono h)

-- and so is a number, with a power of two to spare that the bytes of a number hold
pub plannable_near : {e : ℕ} → Plannable e → (k : ℕ) → k < 8 * number_bytes → e + 2 ^ k < value_bound
plannable_near {e} p k h =
    lt_of_lt_of_le (add-lt-pow (8 * number_bytes) ((bit_length_iff e (8 * number_bytes)).0 p.bits) (pow-lt h)) (pow_mono {i = suc (8 * number_bytes)} {j = 8 * value_bytes} (omega arith))

pub plannable_small : {e : ℕ} → Plannable e → e + 1 < value_bound
plannable_small p = plannable_near p 0 (omega arith)

pub plannable_below : {e : ℕ} → Plannable e → e < value_bound
plannable_below {e} p = lt_of_le_of_lt (le-add_right e 1) (plannable_small p)
