-- The modified form: a signed digit string for the number, with 1 on top and as many nonzero digits as the canonical string has. It is that string, or a digit
-- shorter where that leads with 1 0 -1. Assumes nothing.
use mathlib.Core.Path.{◌≡◌, refl, sym, ◌∙◌, ap, subst}
use mathlib.Core.Logic.{◌↔◌, ◌≢◌}
use mathlib.Core.Bool.{Bool, true, false, cond}
use mathlib.Core.List.{List, [], ◌∷◌, ◌++◌}
use Prim.Native.Nat.{ℕ, suc, ◌+◌, ◌*◌, ◌-◌, ◌<◌, ◌≤◌, ◌^◌, ◌/◌}
use native.Mathlib.Decide.{dec_lt}
use native.Mathlib.Nat.{pow-suc, div-lt_iff_lt-mul, div-eq_of_lt-le}
use native.Mathlib.Numerals.{add-one}
use native.Mathlib.Omega.{arith}
use borrow.Author.Tests.{eqb-true, eqb-false}
use lib.IntN.{ℤ, pos, negsuc, nat_abs, pos-ne-negsuc}
use lib.ListN.{length, take, drop, length-append, get_or-append, take-append-drop, drop_of_length-le}
use lib.Pow.{pow_pos, pow-add}
use lib.Seq.{drop-cons, get_or-append-add}
use Rattle.signed_digits.specs.Strings.{value, digit_at}
use Rattle.signed_digits.specs.Form.{SignedBits}
use Rattle.signed_digits.specs.Naf.{digits_of, naf, canonical}
use Rattle.signed_digits.specs.Weight.{nonzero, nonzeros}
use Rattle.signed_digits.specs.Modified.{top_digit, leads, shortened, modified, saved}
use Rattle.signed_digits.proofs.Parts.{cond_cases, positive_sum, negative_sum}
use Rattle.signed_digits.proofs.Canonical.{canonical_form, canonical_value}
use Rattle.signed_digits.proofs.Length.{length_at_most}
use Rattle.signed_digits.proofs.Leading.{leads_is, length_is, canonical_top, leads_top}
use Rattle.signed_digits.proofs.Tops.{value_sums, joined, retopped, pair_bits}

-- a string that leads with 1 0 -1 has these three above the others: 1 is not -1, nor is 0, so they stand at three places
lead : (ds : List ℤ) → leads ds ≡ true → ds ≡ take (length ds - 3) ds ++ (negsuc 0 ∷ pos 0 ∷ pos 1 ∷ [])
lead ds e =
    let k : ℕ = length ds - 3 in
    let (first, second, third) = (leads_is ds).0 e in
    let a : length ds - 1 ≡ k → ⊥ = λ q. pos-ne-negsuc 1 0 (sym first ∙ ap (digit_at ds) q ∙ third) in
    let b : length ds - 2 ≡ k → ⊥ = λ q. pos-ne-negsuc 0 0 (sym second ∙ ap (digit_at ds) q ∙ third) in
    let e₁ : length ds - 1 ≡ suc (suc k) = omega arith in
    let e₂ : length ds - 2 ≡ suc k = omega arith in
    let tops : drop k ds ≡ negsuc 0 ∷ pos 0 ∷ pos 1 ∷ [] = rw (
      drop-cons ds k (pos 0) (omega arith),
      drop-cons ds (suc k) (pos 0) (omega arith),
      drop-cons ds (suc (suc k)) (pos 0) (omega arith),
      drop_of_length-le ds {i = suc (suc (suc k))} (omega arith),
      ← e₁,
      ← e₂,
      first,
      second,
      third,
    ) in
    sym (take-append-drop k ds) ∙ ap (λ (l : List ℤ). take k ds ++ l) tops

-- ---- the two cases

pub modified_zero : modified 0 ≡ []
unfolding modified shortened leads naf digits_of
modified_zero = refl

pub modified_kept : (n : ℕ) → leads (canonical (pos n)) ≡ false → modified n ≡ canonical (pos n)
unfolding modified shortened
modified_kept n f = rw f

pub modified_cut : (n : ℕ) → leads (canonical (pos n)) ≡ true →
    (low : List ℤ) × (canonical (pos n) ≡ low ++ (negsuc 0 ∷ pos 0 ∷ pos 1 ∷ [])) × (modified n ≡ low ++ (pos 1 ∷ pos 1 ∷ []))
unfolding modified shortened
modified_cut n t = let c : List ℤ = canonical (pos n) in (take (length c - 3) c, lead c t, rw t)

-- ---- both at once

-- a signed digit string for n with 1 on top, of as many nonzero digits as the canonical one, and `fewer` digits shorter
record Stands (n fewer : ℕ) (ds : List ℤ) : Type 0 where
  value_is : value ds ≡ pos n
  bits : SignedBits ds
  top : 0 < n → top_digit ds ≡ pos 1
  weight : nonzeros ds ≡ nonzeros (canonical (pos n))
  size : length ds + fewer ≡ length (canonical (pos n))

module _ (n : ℕ) where
  cut : (low : List ℤ) → canonical (pos n) ≡ low ++ (negsuc 0 ∷ pos 0 ∷ pos 1 ∷ []) → Stands n 1 (low ++ (pos 1 ∷ pos 1 ∷ []))
  unfolding positive_sum negative_sum nonzeros nonzero
  cut low e =
      let c : List ℤ = canonical (pos n) in
      let three : List ℤ = negsuc 0 ∷ pos 0 ∷ pos 1 ∷ [] in
      let two : List ℤ = pos 1 ∷ pos 1 ∷ [] in
      let j₃ = joined low three in
      let j₂ = joined low two in
      let k : length (low ++ two) - 1 ≡ length low + 1 = omega arith in
      record {
        value_is = (value_sums (low ++ two) n).1 (omega (arith, (value_sums c n).0 (canonical_value (pos n)), ap positive_sum e, ap negative_sum e));
        bits = retopped low three two (subst SignedBits e (canonical_form (pos n)).digits) (pair_bits 1 1 (omega arith) (omega arith));
        top = λ h. rw (k, get_or-append-add low two 1 (pos 0));
        weight = omega (arith, ap nonzeros e);
        size = omega (arith, ap length e);
      }

  stands : Stands n (saved n) (modified n)
  stands = go (leads (canonical (pos n))) refl
    where
      go : (b : Bool) → leads (canonical (pos n)) ≡ b → Stands n (cond b 1 0) (modified n)
      go true t = let (low, e, f) = modified_cut n t in rw f (cut low e)
      go false t =
          rw (modified_kept n t)
          (record { value_is = canonical_value (pos n); bits = (canonical_form (pos n)).digits; top = canonical_top n; weight = refl; size = omega arith })

  pub modified_value : value (modified n) ≡ pos n
  modified_value = stands.value_is

  pub modified_bits : SignedBits (modified n)
  modified_bits = stands.bits

  pub modified_top : 0 < n → top_digit (modified n) ≡ pos 1
  modified_top = stands.top

  pub modified_weight : nonzeros (modified n) ≡ nonzeros (canonical (pos n))
  modified_weight = stands.weight

  -- the lowest digit is the canonical one, but for 3, which is 1 1 from 1 0 -1
  pub modified_lowest : n ≢ 3 → digit_at (modified n) 0 ≡ digit_at (canonical (pos n)) 0
  unfolding value
  modified_lowest other = go (leads (canonical (pos n))) refl
    where
      below : (low : List ℤ) → value (low ++ (negsuc 0 ∷ pos 0 ∷ pos 1 ∷ [])) ≡ pos n → digit_at (low ++ (pos 1 ∷ pos 1 ∷ [])) 0 ≡ digit_at (low ++ (negsuc 0 ∷ pos 0 ∷ pos 1 ∷ [])) 0
      below [] v = absurd (other (omega (arith, ap nat_abs v)))
      below (d ∷ low) v = refl

      go : (b : Bool) → leads (canonical (pos n)) ≡ b → digit_at (modified n) 0 ≡ digit_at (canonical (pos n)) 0
      go true t = let (low, e, f) = modified_cut n t in rw (f, e) (below low (ap value (sym e) ∙ canonical_value (pos n)))
      go false t = rw (modified_kept n t)

  -- one digit fewer exactly where the canonical string leads with 1 0 -1
  pub modified_size : length (modified n) + saved n ≡ length (canonical (pos n))
  modified_size = stands.size

  pub saved_at_most : saved n ≤ 1
  saved_at_most = cond_cases (leads (canonical (pos n))) 1 0 (λ k. k ≤ 1) (λ t. omega arith) (λ f. omega arith)

  -- it has at most m digits just where 6 n < 5 * 2 ^ m. Where the canonical string has m + 1, the top three bits of 3 n are 6 n / 2 ^ m.
  pub modified_at_most : (m : ℕ) → length (modified n) ≤ m ↔ 6 * n < 5 * 2 ^ m
  modified_at_most m = go (dec_lt m size) (dec_lt (suc m) size)
    where
      size : ℕ
      size = length (canonical (pos n))

      p : 2 ^ (m + 1) ≡ 2 * 2 ^ m
      p = rw (add-one, pow-suc) (omega arith)

      q : 2 ^ (suc m + 1) ≡ 4 * 2 ^ m
      q = rw (add-one, pow-suc, pow-suc) (omega arith)

      at : size ≡ suc m → (b : Bool) → leads (canonical (pos n)) ≡ b → length (modified n) ≤ m ↔ 6 * n < 5 * 2 ^ m
      at e true t =
          let four : 8 * (3 * n) / 2 ^ (suc m + 1) ≡ 4 = eqb-true _ _ (sym (rw (t, e) at (leads_top n))) in
          let one : saved n ≡ 1 = rw t in
          let small : 8 * (3 * n) < 5 * 2 ^ (suc m + 1) = (div-lt_iff_lt-mul (pow_pos (suc m + 1))).0 (omega arith) in
          (λ l. omega (arith, q), λ h. omega (arith, modified_size))
      at e false t =
          let other : 8 * (3 * n) / 2 ^ (suc m + 1) ≡ 4 → ⊥ = eqb-false _ _ (sym (rw (t, e) at (leads_top n))) in
          let none : saved n ≡ 0 = rw t in
          let b = (length_is n m).0 e in
          (λ l. absurd (omega (arith, modified_size)), λ h. absurd (other (div-eq_of_lt-le (2 ^ (suc m + 1)) (omega (arith, q)) (omega (arith, q)))))

      go : Dec (m < size) → Dec (suc m < size) → length (modified n) ≤ m ↔ 6 * n < 5 * 2 ^ m
      go (no l) _ = (λ _. omega (arith, p, pow_pos m, (length_at_most n m).0 (omega arith)), λ _. omega (arith, modified_size))
      go (yes _) (yes l) = (λ h. absurd (omega (arith, modified_size, saved_at_most)), λ h. absurd (omega (arith, (length_at_most n (suc m)).1 (omega (arith, q)))))
      go (yes l) (no h) = at (omega arith) (leads (canonical (pos n))) refl

  -- a number of k + 1 bits has k + 1 digits or k + 2
  pub modified_length_by_power : (k : ℕ) → 2 ^ k ≤ n → n < 2 ^ (k + 1) → (k + 1 ≤ length (modified n)) × (length (modified n) ≤ k + 2)
  modified_length_by_power k l h =
      let short : length (modified n) ≤ k → ⊥ = λ s. omega (arith, (modified_at_most k).0 s) in
      (omega arith, (modified_at_most (k + 2)).1 (rw pow-add (omega (arith, rw (add-one, pow-suc) at h))))

  -- ---- its digits: those of the canonical string, but for the three that become 1 1

  pub modified_low : (i : ℕ) → i < length (canonical (pos n)) - 3 * saved n → digit_at (canonical (pos n)) i ≡ digit_at (modified n) i
  modified_low i h = go (leads (canonical (pos n))) refl
    where
      go : (b : Bool) → leads (canonical (pos n)) ≡ b → digit_at (canonical (pos n)) i ≡ digit_at (modified n) i
      go false f = rw (modified_kept n f)
      go true t =
          let (low, e, m) = modified_cut n t in
          let below : i < length low = omega (arith, rw t at h, ap length e, length-append low (negsuc 0 ∷ pos 0 ∷ pos 1 ∷ [])) in
          rw (e, m, get_or-append low (negsuc 0 ∷ pos 0 ∷ pos 1 ∷ []) (pos 0) i below, get_or-append low (pos 1 ∷ pos 1 ∷ []) (pos 0) i below)

  pub modified_ones : saved n ≡ 1 → (3 ≤ length (canonical (pos n))) × (digit_at (modified n) (length (canonical (pos n)) - 3) ≡ pos 1) × (digit_at (modified n) (length (canonical (pos n)) - 3 + 1) ≡ pos 1)
  modified_ones one = go (leads (canonical (pos n))) refl
    where
      go : (b : Bool) → leads (canonical (pos n)) ≡ b → (3 ≤ length (canonical (pos n))) × (digit_at (modified n) (length (canonical (pos n)) - 3) ≡ pos 1) × (digit_at (modified n) (length (canonical (pos n)) - 3 + 1) ≡ pos 1)
      go false f = absurd (omega (arith, rw f at one))
      go true t =
          let (low, e, m) = modified_cut n t in
          let size = ap length e ∙ length-append low (negsuc 0 ∷ pos 0 ∷ pos 1 ∷ []) in
          let at : length (canonical (pos n)) - 3 ≡ length low + 0 = omega arith in
          let next : length (canonical (pos n)) - 3 + 1 ≡ length low + 1 = omega arith in
          (omega arith, rw (at, m) (get_or-append-add low (pos 1 ∷ pos 1 ∷ []) 0 (pos 0)), rw (next, m) (get_or-append-add low (pos 1 ∷ pos 1 ∷ []) 1 (pos 0)))
