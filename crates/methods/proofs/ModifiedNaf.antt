-- Method 6: its steps are sound and end at the number, how many there are, their counts, also beside method 4's, and the bits of the largest size.
-- Assumes nothing.
use mathlib.Core.Path.{◌≡◌, refl, ap, ◌∙◌}
use mathlib.Core.Logic.{◌≢◌}
use mathlib.Core.Bool.{Bool, true, false, cond}
use mathlib.Core.List.{List, [], ◌∷◌, ◌++◌}
use Prim.Native.Nat.{ℕ, zero, suc, ◌+◌, ◌*◌, ◌-◌, ◌%◌, ◌^◌, ◌<◌, ◌≤◌}
use borrow.Author.Tests.{lt-ltb, le-ltb, eq-eqb, ne_eqb}
use native.Mathlib.Decide.{dec_lt, ℕ_discrete}
use native.Mathlib.Nat.{pow-suc, zero-add, lt-suc_self, lt_of_not-le}
use native.Mathlib.Numerals.{add-one}
use native.Mathlib.Omega.{arith}
use lib.IntN.{ℤ, pos, negsuc}
use lib.ListN.{length}
use Rattle.signed_digits.specs.Strings.{digit_at}
use Rattle.signed_digits.specs.Naf.{residue, low_digit, rest, digits_of, naf, canonical}
use Rattle.signed_digits.specs.Modified.{leads, shortened, modified, saved}
use Rattle.signed_digits.proofs.Parts.{positive_part, negative_part, size_parts}
use Rattle.signed_digits.proofs.Left.{lowest}
use Rattle.signed_digits.proofs.Width.{low_near}
use Rattle.signed_digits.proofs.Tops.{below_power, joined}
use Rattle.signed_digits.proofs.Modified.{modified_kept, modified_cut, modified_value, modified_bits, modified_top, modified_lowest, modified_at_most}
use Rattle.rules.specs.Limits.{plan_steps}
use Rattle.chains.specs.Counts.{counts, counts_of, NoHiddenDoubling}
use Rattle.chains.specs.Largest.{largest_bits}
use Rattle.integers.specs.Bits.{bit_length}
use Rattle.integers.proofs.Bits.{bit_length_iff}
use Rattle.methods.specs.Tables.{table_counts}
use Rattle.methods.specs.NonAdjacentForm.{naf_steps}
use Rattle.methods.specs.ModifiedNaf.{modified_naf_steps}
use Rattle.methods.specs.Forecast.{plus_digits, minus_digits}
use Rattle.methods.specs.Largest.{modified_largest_bits}
use Rattle.methods.proofs.Laws.{Made, Fit, Plannable, plannable_small, made_bits, own_bits}
use Rattle.methods.proofs.OddMultiples.{halved}
use Rattle.methods.proofs.DigitSteps.{Suited, digits_made, digits_before, digits_counts, digits_short}
use Rattle.methods.proofs.SignedBits.{bits_suited}
use Rattle.methods.proofs.NonAdjacentForm.{naf_counts}

-- the bit length, or one digit more
pub modified_length : (e : ℕ) → (bit_length e ≤ length (modified e)) × (length (modified e) ≤ bit_length e + 1)
modified_length e =
    let small : e < 2 ^ bit_length e = (bit_length_iff e (bit_length e)).0 (omega arith) in (
      (bit_length_iff e (length (modified e))).1 (below_power (modified e) e (modified_bits e) (modified_value e)),
      (modified_at_most e (bit_length e + 1)).1 (rw (add-one, pow-suc) (omega arith)),
    )

module _ (e : ℕ) (some : 0 < e) where
  abbrev ds : List ℤ
  ds = modified e

  -- what the lowest digit is subtracted from, if it is below zero, and otherwise the number
  abbrev before : ℕ
  before = e + negative_part (digit_at ds 0)

  suited : {limit : ℕ} → before < limit → Suited limit 0 ds
  suited small = bits_suited ds (modified_bits e) (modified_top e some) (rw (modified_value e) small)

  suited_alone : Suited (suc before) 0 ds
  suited_alone = suited (lt-suc_self before)

  made_above : {limit : ℕ} → before < limit → Made limit (modified_naf_steps e) e
  unfolding modified_naf_steps
  made_above small = rw (modified_value e) at (digits_made 0 ds (suited small))

  pub modified_made : {limit : ℕ} → e + 1 < limit → Made limit (modified_naf_steps e) e
  modified_made small = made_above (omega (arith, modified_bits e 0, size_parts (digit_at ds 0)))

  pub modified_unhidden : NoHiddenDoubling (modified_naf_steps e)
  modified_unhidden = (modified_made (lt-suc_self (e + 1))).unhidden

  -- at most two steps for each digit below the top
  pub modified_short : length (modified_naf_steps e) ≤ 2 * (length (modified e) - 1)
  unfolding modified_naf_steps
  modified_short = omega (arith, digits_short 0 ds suited_alone)

  -- a doubling for each digit below the top; the digits 1 below it, and the digits -1
  pub modified_counts : counts_of (modified_naf_steps e) ≡ counts (length (modified e) - 1) (plus_digits (modified e) - 1) (minus_digits (modified e))
  unfolding modified_naf_steps table_counts
  modified_counts = simp zero-add at (digits_counts 0 ds suited_alone)

-- ---- beside method 4

signs_joined : (low tops : List ℤ) →
    (plus_digits (low ++ tops) ≡ plus_digits low + plus_digits tops) × (minus_digits (low ++ tops) ≡ minus_digits low + minus_digits tops)
unfolding plus_digits minus_digits
signs_joined [] tops = omega arith
signs_joined (d ∷ low) tops = omega (arith, signs_joined low tops)

-- of 1 0 -1 remain 1 1: a doubling and a subtraction fewer, and an addition more
pub modified_counts_by_naf : (e : ℕ) → 0 < e →
    ((counts_of (modified_naf_steps e)).doublings + saved e ≡ (counts_of (naf_steps e)).doublings) ×
    ((counts_of (modified_naf_steps e)).additions ≡ (counts_of (naf_steps e)).additions + saved e) ×
    ((counts_of (modified_naf_steps e)).subtractions + saved e ≡ (counts_of (naf_steps e)).subtractions)
unfolding plus_digits minus_digits
modified_counts_by_naf e some = rw (modified_counts e some, naf_counts e some) (go (leads c) refl)
  where
    c : List ℤ
    c = canonical (pos e)

    go : (b : Bool) → leads c ≡ b →
        (length (modified e) - 1 + cond b 1 0 ≡ length c - 1) ×
        (plus_digits (modified e) - 1 ≡ plus_digits c - 1 + cond b 1 0) ×
        (minus_digits (modified e) + cond b 1 0 ≡ minus_digits c)
    go true t =
        let two : List ℤ = pos 1 ∷ pos 1 ∷ [] in
        let three : List ℤ = negsuc 0 ∷ pos 0 ∷ pos 1 ∷ [] in
        let (low, q, f) = modified_cut e t in
        rw (f, q) (omega (arith, (joined low two).size, (joined low three).size, signs_joined low two, signs_joined low three))
    go false t = rw (modified_kept e t) (omega arith)

-- ---- the bits of the largest size

-- the lowest digit of a number to 3 is not below zero
few_lowest : (e : ℕ) → e ≤ 3 → negative_part (digit_at (modified e) 0) ≡ 0
unfolding residue low_digit rest digits_of naf leads shortened modified
few_lowest zero h = refl
few_lowest (suc zero) h = refl
few_lowest (suc (suc zero)) h = refl
few_lowest (suc (suc (suc zero))) h = refl
few_lowest (suc (suc (suc (suc e)))) h = absurd (omega arith)

module _ (e : ℕ) (some : 0 < e) where
  -- 2 ^ L stands before the last subtraction
  power_largest : 3 < e → e + 1 ≡ 2 ^ bit_length e → largest_bits (modified_naf_steps e) ≡ bit_length e + 1
  unfolding modified_naf_steps
  power_largest more ones =
      let long : 2 < bit_length e = lt_of_not-le (λ l. omega (arith, (bit_length_iff e 2).0 l)) in
      let odd : e % 2 ≡ 1 = omega (arith, halved (bit_length e) (omega arith)) in
      let power = low_near 2 (omega arith) (bit_length e) e (omega arith) (omega arith) (omega arith) in
      let low = ap negative_part (modified_lowest e (omega arith) ∙ lowest 2 (omega arith) e) in
      let value = ap positive_part (modified_value e) in
      let high = digits_before 0 (modified e) (suited_alone e some) {k = bit_length e} (omega arith) (omega arith) in
      let twice = pow-suc 2 (bit_length e) in
      omega (arith, made_bits {k = suc (bit_length e)} (omega arith) (modified_made e some (omega arith)))

  -- no other value has more bits than the number
  own_largest : (3 < e → e + 1 ≢ 2 ^ bit_length e) → largest_bits (modified_naf_steps e) ≡ bit_length e
  own_largest far = own_bits some (λ small. made_above e some (low small))
    where
      low : e < 2 ^ bit_length e → e + negative_part (digit_at (modified e) 0) < 2 ^ bit_length e
      low small =
          elim (dec_lt 3 e) [
            | yes more ↦ let other = far more in omega (arith, modified_bits e 0, size_parts (digit_at (modified e) 0))
            | no few ↦ omega (arith, few_lowest e (omega arith))
          ]

  pub modified_largest : largest_bits (modified_naf_steps e) ≡ modified_largest_bits e
  modified_largest =
      elim (dec_lt 3 e) [
        | yes more ↦ rw (lt-ltb 3 e more) (elim (ℕ_discrete (e + 1) (2 ^ bit_length e)) [
          | yes ones ↦ rw (eq-eqb (e + 1) (2 ^ bit_length e) ones) (power_largest more ones)
          | no other ↦ rw (ne_eqb (e + 1) (2 ^ bit_length e) other) (own_largest (λ _. other))
        ])
        | no few ↦ rw (le-ltb 3 e (omega arith)) (own_largest (λ more. absurd (few more)))
      ]

-- ---- within the limits of the rules

module _ (e : ℕ) (plannable : Plannable e) where
  pub modified_few : length (modified_naf_steps e) ≤ plan_steps
  modified_few = omega (arith, modified_short e plannable.some, modified_length e, plannable.bits)

  pub modified_fit : Fit (modified_naf_steps e) e
  modified_fit = record { made = modified_made e plannable.some (plannable_small plannable); few = modified_few }
