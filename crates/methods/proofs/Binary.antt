-- Method 1: its steps are sound and end at the number, how many there are, their counts, and the bits of the largest size. Assumes nothing.
use mathlib.Core.Path.{◌≡◌, refl, ◌∙◌}
use Prim.Native.Nat.{ℕ, zero, suc, ◌+◌, ◌*◌, ◌-◌, ◌/◌, ◌%◌, ◌^◌, ◌<◌, ◌≤◌}
use native.Mathlib.Decide.{dec_lt}
use native.Mathlib.Nat.{sub_self, sub-zero, lt-suc_self}
use native.Mathlib.Numerals.{add-one}
use native.Mathlib.Omega.{arith}
use lib.Arith.{bin_ind}
use lib.ListN.{length}
use lib.Count.{ones, ones_in, ones_step}
use lib.Pow.{shr-shr}
use Rattle.rules.specs.Limits.{plan_steps}
use Rattle.chains.specs.Steps.{add}
use Rattle.chains.specs.Counts.{counts, sum_counts, counts_of, NoHiddenDoubling}
use Rattle.chains.specs.Largest.{largest_bits}
use Rattle.chains.proofs.Counts.{position_counts, unhidden_counts}
use Rattle.methods.specs.PartialPlan.{PartialPlan, none, double, down_from}
use Rattle.integers.specs.Bits.{bit, bit_length}
use Rattle.methods.specs.Binary.{at_bit, binary_steps}
use Rattle.integers.proofs.Bits.{top_bit, above_top, place_down, bit_small, quotient_le, quotient_none}
use Rattle.methods.proofs.Counted.{counts_in, counts_double, counts_add, not_before}
use Rattle.methods.proofs.Laws.{Holds, Made, Fit, Plannable, plannable_below, none_holds, one_stands, double_holds, double_add, latest_followed, length_followed, down_from_lem, made, own_bits}

ones_place : (e i : ℕ) → e / 2 ^ i % 2 + ones (e / 2 ^ i / 2) ≡ bit e i + ones (e / 2 ^ suc i)
unfolding bit
ones_place e i = rw (shr-shr e i 1, add-one)

pub ones_positive : (n : ℕ) → 0 < n → 0 < ones n
ones_positive = bin_ind (λ (n : ℕ). 0 < n → 0 < ones n) (λ h. absurd (omega arith)) (λ n ih h. step n ih h (dec_lt 0 (n / 2)))
  where
    step : (n : ℕ) → (0 < n / 2 → 0 < ones (n / 2)) → 0 < n → Dec (0 < n / 2) → 0 < ones n
    step n ih h (yes p) = omega (arith, ones_step n, ih p)
    step n ih h (no p) = omega (arith, ones_step n)

none_counted : counts_in none ≡ counts 0 (ones 1 - 1) 0
unfolding position_counts sum_counts ones ones_in
none_counted = refl

-- how many steps a bit takes
pub length_at_bit : (x : ℕ) (b : PartialPlan) → x < 2 → length (at_bit x b).steps ≡ length b.steps + x + 1
length_at_bit zero b h = omega (arith, length_followed b (add b.latest b.latest))
length_at_bit (suc zero) b h = omega (arith, length_followed b (add b.latest b.latest), length_followed (double b) (add (double b).latest 0))
length_at_bit (suc (suc x)) b h = absurd (omega arith)

-- Above place i: the latest holds the bits from i on. Each bit below the top took a doubling, and an addition where it is 1.
record Above (limit e i : ℕ) (b : PartialPlan) : Type 0 where
  holds : Holds limit b (e / 2 ^ i)
  latest : b.latest ≡ length b.steps
  few : length b.steps + 2 * i ≤ 2 * (bit_length e - 1)
  counted : counts_in b ≡ counts (bit_length e - 1 - i) (ones (e / 2 ^ i) - 1) 0

module _ (e : ℕ) (some : 0 < e) {limit : ℕ} (small : e < limit) where
  at_bit_lem : (i x : ℕ) (b : PartialPlan) → i < bit_length e - 1 → bit e i ≡ x → Above limit e (suc i) b → Above limit e i (at_bit x b)
  at_bit_lem i x b l y a = go x y
    where
      v : ℕ
      v = e / 2 ^ suc i

      positive : 0 < v
      positive = above_top e some (suc i) (omega arith)

      down : e / 2 ^ i ≡ 2 * v + bit e i
      down = place_down e i

      weight : ones (e / 2 ^ i) ≡ bit e i + ones v
      weight = ones_step (e / 2 ^ i) ∙ ones_place e i

      d : ℕ
      d = bit_length e - 1 - suc i

      go : (x : ℕ) → bit e i ≡ x → Above limit e i (at_bit x b)
      go zero y =
          let q : e / 2 ^ i ≡ 2 * v = omega (arith, down) in
          let c : bit_length e - 1 - i ≡ d + 1 = omega arith in
          let o : ones (e / 2 ^ i) ≡ ones v = omega (arith, weight) in
          record {
            holds = rw q (double_holds b v a.holds positive (omega (arith, quotient_le e i)));
            latest = latest_followed b (add b.latest b.latest);
            few = omega (arith, a.few, length_followed b (add b.latest b.latest));
            counted = rw (c, o) (counts_double b d (ones v - 1) 0 a.counted);
          }
      go (suc zero) y =
          let q : e / 2 ^ i ≡ 2 * v + 1 = omega (arith, down) in
          let c : bit_length e - 1 - i ≡ d + 1 = omega arith in
          let o : ones (e / 2 ^ i) - 1 ≡ ones v - 1 + 1 = omega (arith, weight, ones_positive v positive) in
          record {
            holds = rw q (double_add b 0 v 1 a.holds (one_stands b) (omega arith) positive (omega (arith, quotient_le e i)));
            latest = latest_followed (double b) (add (double b).latest 0);
            few = omega (arith, a.few, length_followed b (add b.latest b.latest), length_followed (double b) (add (double b).latest 0));
            counted = rw (c, o) (counts_add (double b) (d + 1) (ones v - 1) 0 (counts_double b d (ones v - 1) 0 a.counted) 0 (not_before b (add b.latest b.latest) 0 (omega arith)));
          }
      go (suc (suc x)) y = absurd (omega (arith, bit_small e i))

  all : Above limit e 0 (down_from (λ i b. at_bit (bit e i) b) (bit_length e - 1) none)
  all =
      let t = top_bit e some in
      down_from_lem (Above limit e) (λ i b. at_bit (bit e i) b) (bit_length e - 1) none (λ i b l a. at_bit_lem i (bit e i) b l refl a)
      (record { holds = rw t none_holds; latest = refl; few = omega arith; counted = rw (sub_self (bit_length e - 1), t) none_counted })

  pub binary_made : Made limit (binary_steps e) e
  unfolding binary_steps
  binary_made = rw (quotient_none e) at (made _ (e / 2 ^ 0) all.holds all.latest)

module _ (e : ℕ) (some : 0 < e) where
  pub binary_unhidden : NoHiddenDoubling (binary_steps e)
  binary_unhidden = (binary_made e some (lt-suc_self e)).unhidden

  -- no size has more bits than the number
  pub binary_largest : largest_bits (binary_steps e) ≡ bit_length e
  binary_largest = own_bits some (binary_made e some)

  -- at most two steps for each bit below the top
  pub binary_short : length (binary_steps e) ≤ 2 * (bit_length e - 1)
  unfolding binary_steps
  binary_short = omega (arith, (all e some (lt-suc_self e)).few)

  binary_positions : position_counts (binary_steps e) ≡ counts (bit_length e - 1) (ones e - 1) 0
  unfolding binary_steps
  binary_positions = rw (quotient_none e, sub-zero) at (all e some (lt-suc_self e)).counted

  -- the bit length less one, and the ones less one
  pub binary_counts : counts_of (binary_steps e) ≡ counts (bit_length e - 1) (ones e - 1) 0
  binary_counts = unhidden_counts (binary_steps e) binary_unhidden ∙ binary_positions

module _ (e : ℕ) (plannable : Plannable e) where
  pub binary_few : length (binary_steps e) ≤ plan_steps
  binary_few = omega (arith, binary_short e plannable.some, plannable.bits)

  pub binary_fit : Fit (binary_steps e) e
  binary_fit = record { made = binary_made e plannable.some (plannable_below plannable); few = binary_few }
