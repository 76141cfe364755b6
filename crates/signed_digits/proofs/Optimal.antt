-- The modified form is optimal (source document 004, Corollary 3): of all signed digit strings for the number whose top digit is 1, none has a smaller sum of
-- length and nonzero digits. Assumes nothing.
use mathlib.Core.Path.{◌≡◌, sym, ◌∙◌, ap, subst}
use mathlib.Core.List.{List, [], ◌∷◌, ◌++◌}
use Prim.Native.Nat.{ℕ, suc, ◌+◌, ◌*◌, ◌-◌, ◌<◌, ◌≤◌, ◌^◌}
use native.Mathlib.Decide.{dec_le}
use native.Mathlib.Nat.{pow-suc}
use native.Mathlib.Numerals.{add-one}
use native.Mathlib.Omega.{arith}
use lib.IntN.{ℤ, pos}
use lib.ListN.{length, take}
use Rattle.signed_digits.specs.Strings.{value}
use Rattle.signed_digits.specs.Form.{SignedBits}
use Rattle.signed_digits.specs.Naf.{canonical}
use Rattle.signed_digits.specs.Weight.{nonzero, nonzeros}
use Rattle.signed_digits.specs.Modified.{top_digit, modified}
use Rattle.signed_digits.proofs.Parts.{positive_sum, negative_sum}
use Rattle.signed_digits.proofs.Canonical.{canonical_form, canonical_value}
use Rattle.signed_digits.proofs.Fewest.{fewest}
use Rattle.signed_digits.proofs.Leading.{length_is, canonical_top}
use Rattle.signed_digits.proofs.Tops.{value_sums, below_power, joined, retopped, pair_bits, with_top}
use Rattle.signed_digits.proofs.Modified.{modified_value, modified_bits, modified_top, modified_weight, modified_at_most}

-- A string for n with a 1 at place k, the top, where 3 n is at least 5 * 2 ^ k. The digits below make n - 2 ^ k, whose canonical string has its top, a 1, at place k too.
-- One place higher, that 1 makes it a string for n: so the digits below alone have as many nonzero ones as the canonical string of n, or more.
one_more : (n : ℕ) (low : List ℤ) → SignedBits (low ++ (pos 1 ∷ [])) → value (low ++ (pos 1 ∷ [])) ≡ pos n → 5 * 2 ^ length low ≤ 3 * n
    → nonzeros (canonical (pos n)) < nonzeros (low ++ (pos 1 ∷ []))
unfolding positive_sum negative_sum nonzeros nonzero
one_more n low bits e high =
    let one : List ℤ = pos 1 ∷ [] in
    let raised : List ℤ = pos 0 ∷ pos 1 ∷ [] in
    let j₁ = joined low one in
    let p : 2 ^ length (low ++ one) ≡ 2 * 2 ^ length low = rw (j₁.size, add-one, pow-suc) (omega arith) in
    let w = (value_sums (low ++ one) n).0 e in
    let small : n < 2 * 2 ^ length low = omega (arith, below_power (low ++ one) n bits e) in
    -- the digits below
    let m : ℕ = n - 2 ^ length low in
    let j₂ = joined low [] in
    let light = fewest (pos m) (low ++ []) (retopped low one [] bits (λ i. omega arith)) ((value_sums (low ++ []) m).1 (omega arith)) in
    -- the canonical string of what they make
    let c : List ℤ = canonical (pos m) in
    let size : length c ≡ suc (length low) = (length_is m (length low)).1 (omega arith) in
    let rest : List ℤ = take (length c - 1) c in
    let s : c ≡ rest ++ one = with_top c (canonical_top m (omega arith)) in
    let v = (value_sums c m).0 (canonical_value (pos m)) in
    -- its 1 a place higher
    let j₃ = joined rest one in
    let j₄ = joined rest raised in
    let q : 2 ^ length rest ≡ 2 ^ length low = ap (λ (k : ℕ). 2 ^ k) (omega (arith, ap length s)) in
    let f : value (rest ++ raised) ≡ pos n = (value_sums (rest ++ raised) n).1 (omega (arith, ap positive_sum s, ap negative_sum s)) in
    let b = retopped rest one raised (subst SignedBits s (canonical_form (pos m)).digits) (pair_bits 0 1 (omega arith) (omega arith)) in
    omega (arith, ap nonzeros s, fewest (pos n) (rest ++ raised) b f)

-- that n is above zero need not be said: it has a string with 1 on top
module _ (n : ℕ) (ds : List ℤ) (bits : SignedBits ds) (e : value ds ≡ pos n) (top : top_digit ds ≡ pos 1) where
  pub fewest_nonzero : nonzeros (modified n) ≤ nonzeros ds
  fewest_nonzero = omega (arith, modified_weight n, fewest (pos n) ds bits e)

  -- a string that is shorter has a nonzero digit more
  shorter : length ds < length (modified n) → nonzeros (modified n) < nonzeros ds
  shorter less =
      let low : List ℤ = take (length ds - 1) ds in
      let s : ds ≡ low ++ (pos 1 ∷ []) = with_top ds top in
      let l : length ds ≡ suc (length low) = omega (arith, (joined low (pos 1 ∷ [])).size, ap length s) in
      let p : 2 ^ length ds ≡ 2 * 2 ^ length low = ap (λ (k : ℕ). 2 ^ k) l ∙ omega (arith, pow-suc 2 (length low)) in
      let few : 6 * n < 5 * 2 ^ length ds → ⊥ = λ h. omega (arith, (modified_at_most n (length ds)).1 h) in
      omega (arith, modified_weight n, ap nonzeros s, one_more n low (subst SignedBits s bits) (ap value (sym s) ∙ e) (omega arith))

  -- and is only one digit shorter
  pub least_sum : length (modified n) + nonzeros (modified n) ≤ length ds + nonzeros ds
  least_sum =
      elim (dec_le (length (modified n)) (length ds)) [
        | yes l ↦ omega (arith, fewest_nonzero)
        | no l ↦
            let long = (modified_at_most n (suc (length ds))).1 (rw pow-suc (omega (arith, below_power ds n bits e))) in
            omega (arith, shorter (omega arith))
      ]

  -- 004's optimal: the fewest nonzero digits, and of all strings with so few the shortest
  pub shortest : nonzeros ds ≡ nonzeros (modified n) → length (modified n) ≤ length ds
  shortest h = omega (arith, least_sum)

-- the modified form is itself such a string
pub least_attained : (n : ℕ) → 0 < n → SignedBits (modified n) × (value (modified n) ≡ pos n) × (top_digit (modified n) ≡ pos 1)
least_attained n h = (modified_bits n, modified_value n, modified_top n h)
