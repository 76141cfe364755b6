-- A string as its low digits and those above them, and other digits in place of the latter. Assumes nothing.
use mathlib.Core.Path.{◌≡◌, ◌∙◌, ap, subst}
use mathlib.Core.Logic.{◌↔◌}
use mathlib.Core.List.{List, [], ◌∷◌, ◌++◌}
use Prim.Native.Nat.{ℕ, zero, suc, ◌+◌, ◌*◌, ◌-◌, ◌<◌, ◌≤◌, ◌^◌}
use native.Mathlib.Nat.{pow-suc}
use native.Mathlib.Omega.{arith}
use lib.IntN.{ℤ, pos, nat_abs}
use lib.ListN.{length, take, drop, length-drop, drop_of_length-le}
use lib.Seq.{split_at, get_or-drop}
use Rattle.signed_digits.specs.Strings.{value, digit_at}
use Rattle.signed_digits.specs.Form.{SignedBits}
use Rattle.signed_digits.specs.Weight.{nonzeros}
use Rattle.signed_digits.specs.Modified.{top_digit}
use Rattle.signed_digits.proofs.Parts.{positive_part, negative_part, from_parts, size_parts, positive_sum, negative_sum, value_parts}
use Rattle.signed_digits.proofs.Width.{value_bound_lem}

-- the value n, as a fact that omega reads
pub value_sums : (ds : List ℤ) (n : ℕ) → (value ds ≡ pos n) ↔ (positive_sum ds ≡ n + negative_sum ds)
value_sums ds n = (λ e. omega (arith, value_parts ds, ap positive_part e, ap negative_part e), λ h. omega (arith, from_parts, value_parts ds))

-- it is below 2 ^ length
pub below_power : (ds : List ℤ) (n : ℕ) → SignedBits ds → value ds ≡ pos n → n < 2 ^ length ds
below_power ds n bits e = omega (arith, value_bound_lem 1 ds bits, ap nat_abs e)

-- ---- low digits and others above them

pub record Joined (low tops : List ℤ) : Type 0 where
  pub positive : positive_sum (low ++ tops) ≡ positive_sum low + 2 ^ length low * positive_sum tops
  pub negative : negative_sum (low ++ tops) ≡ negative_sum low + 2 ^ length low * negative_sum tops
  pub count : nonzeros (low ++ tops) ≡ nonzeros low + nonzeros tops
  pub size : length (low ++ tops) ≡ length low + length tops

pub joined : (low tops : List ℤ) → Joined low tops
unfolding positive_sum negative_sum nonzeros
joined [] tops = omega arith
joined (d ∷ low) tops =
    let j = joined low tops in
    record { positive = rw pow-suc (omega arith); negative = rw pow-suc (omega arith); count = omega arith; size = omega arith }

-- others in their place
pub retopped : (low tops others : List ℤ) → SignedBits (low ++ tops) → SignedBits others → SignedBits (low ++ others)
retopped [] tops others h k i = k i
retopped (d ∷ low) tops others h k zero = h 0
retopped (d ∷ low) tops others h k (suc i) = retopped low tops others (λ i. h (suc i)) k i

pub pair_bits : (a b : ℕ) → a ≤ 1 → b ≤ 1 → SignedBits (pos a ∷ pos b ∷ [])
pair_bits a b h k zero = h
pair_bits a b h k (suc zero) = k
pair_bits a b h k (suc (suc i)) = omega arith

-- ---- a string with 1 on top

pub some_digit : (ds : List ℤ) → top_digit ds ≡ pos 1 → 0 < length ds
some_digit [] t = absurd (omega (arith, ap nat_abs t))
some_digit (d ∷ ds) t = omega arith

pub with_top : (ds : List ℤ) → top_digit ds ≡ pos 1 → ds ≡ take (length ds - 1) ds ++ (pos 1 ∷ [])
with_top ds t =
    split_at ds (length ds - 1) (pos 0) (omega (arith, some_digit ds t)) ∙ rw (t, drop_of_length-le ds {i = suc (length ds - 1)} (omega arith))

-- its value is above zero: the digits below come to less than the top one
pub top_positive : (ds : List ℤ) → SignedBits ds → top_digit ds ≡ pos 1 → 0 < positive_part (value ds)
unfolding positive_sum negative_sum
top_positive ds bits t =
    let low : List ℤ = take (length ds - 1) ds in
    let one : List ℤ = pos 1 ∷ [] in
    let s : ds ≡ low ++ one = with_top ds t in
    let j₁ = joined low one in
    let j₀ = joined low [] in
    let below = value_bound_lem 1 (low ++ []) (retopped low one [] (subst SignedBits s bits) (λ i. omega arith)) in
    let p : 2 ^ length (low ++ []) ≡ 2 ^ length low = ap (λ (k : ℕ). 2 ^ k) (omega arith) in
    omega (arith, value_parts ds, ap positive_sum s, ap negative_sum s, value_parts (low ++ []), size_parts (value (low ++ [])))

-- from any place on it has 1 on top
pub dropped_top : (ds : List ℤ) (i : ℕ) → i < length ds → top_digit (drop i ds) ≡ top_digit ds
dropped_top ds i h = rw (length-drop, get_or-drop) (ap (digit_at ds) (omega arith))

pub dropped_bits : (ds : List ℤ) (i : ℕ) → SignedBits ds → SignedBits (drop i ds)
dropped_bits ds i bits j = rw get_or-drop (bits (i + j))
