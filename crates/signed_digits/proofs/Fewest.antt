-- Of all strings of the digits 0, 1 and -1 with its value, the canonical one has the fewest digits other than 0.
use mathlib.Core.Path.{◌≡◌, refl, sym, ◌∙◌}
use mathlib.Core.List.{List, [], ◌∷◌}
use Prim.Native.Nat.{ℕ, zero, suc, ◌+◌, ◌*◌, ◌<◌, ◌≤◌, ◌/◌}
use native.Mathlib.Omega.{arith}
use lib.ListN.{drop}
use lib.IntN.{ℤ, pos, negsuc, nat_abs}
use Rattle.signed_digits.specs.Strings.{value, digit_at}
use Rattle.signed_digits.specs.Form.{SignedBits}
use Rattle.signed_digits.specs.Naf.{canonical}
use Rattle.signed_digits.specs.Weight.{nonzero, nonzeros}
use Rattle.signed_digits.proofs.Parts.{positive_part, negative_part, zero_parts, size_parts, positive_sum, negative_sum, same_sums}
use Rattle.signed_digits.proofs.Spaced.{Spaced, empty, blank, digit, spaced_of_form}
use Rattle.signed_digits.proofs.Exists.{naf_form}
use Rattle.signed_digits.proofs.Canonical.{canonical_value}

nonzero_size : (d : ℤ) → nat_abs d ≤ 1 → nonzero d ≡ positive_part d + negative_part d
unfolding nonzero
nonzero_size (pos zero) h = refl
nonzero_size (pos (suc n)) h = omega arith
nonzero_size (negsuc n) h = omega arith

-- the lowest digit and the others, of which the empty string has 0 and itself
record Split (ys : List ℤ) (y : ℤ) : Type 0 where
  positive : positive_sum ys ≡ positive_part y + 2 * positive_sum (drop 1 ys)
  negative : negative_sum ys ≡ negative_part y + 2 * negative_sum (drop 1 ys)
  count : nonzeros ys ≡ (positive_part y + negative_part y) + nonzeros (drop 1 ys)
  small : positive_part y + negative_part y ≤ 1
  others : SignedBits (drop 1 ys)

split : (ys : List ℤ) → SignedBits ys → Split ys (digit_at ys 0)
unfolding positive_sum negative_sum nonzeros
split [] bits = record { positive = refl; negative = refl; count = refl; small = omega arith; others = bits }
split (y ∷ ys) bits =
    record {
      positive = refl;
      negative = refl;
      count = omega (arith, nonzero_size y (bits 0));
      small = omega (arith, size_parts y, bits 0);
      others = λ i. bits (suc i);
    }

-- A string of the form beside another, with up - down, at most 1 either way, carried in from the places below: the carry may cost one digit more, and none where a 0 is due.
with_carry : {g : ℕ} {xs : List ℤ} → Spaced 2 g xs → (ys : List ℤ) → SignedBits ys → (up down : ℕ) → up + down ≤ 1 →
    positive_sum xs + negative_sum ys + down ≡ positive_sum ys + negative_sum xs + up →
    (nonzeros xs ≤ nonzeros ys + (up + down)) × (0 < g → nonzeros xs ≤ nonzeros ys)
unfolding positive_sum negative_sum nonzeros nonzero
with_carry empty ys bits up down c h = omega arith
with_carry (blank {d = x} e l s) ys bits up down c h =
    let y : ℤ = digit_at ys 0 in
    let v = split ys bits in
    let none : nonzero x ≡ 0 = rw e in
    let ih = with_carry s (drop 1 ys) v.others ((positive_part y + up) / 2) ((negative_part y + down) / 2) (omega arith) (omega (arith, zero_parts)) in
    omega arith
with_carry (digit {d = x} e o s) ys bits up down c h =
    let y : ℤ = digit_at ys 0 in
    let v = split ys bits in
    let one : positive_part x + negative_part x ≡ 1 = omega (arith, size_parts x) in
    let odd : (positive_part y + negative_part y) + (up + down) ≡ 1 = omega arith in
    let ih = with_carry s (drop 1 ys) v.others ((positive_part y + up + negative_part x) / 2) ((negative_part y + down + positive_part x) / 2) (omega arith) (omega arith) in
    omega (arith, ih.1 (omega arith), nonzero_size x (omega (arith, size_parts x)))

pub fewest : (z : ℤ) (ys : List ℤ) → SignedBits ys → value ys ≡ z → nonzeros (canonical z) ≤ nonzeros ys
fewest z ys bits e =
    let xs : List ℤ = canonical z in
    let s : Spaced 2 0 xs = spaced_of_form 2 xs (naf_form 2 z (omega arith)) in
    let same = same_sums xs ys (canonical_value z ∙ sym e) in
    omega (arith, (with_carry s ys bits 0 0 (omega arith) (omega arith)).0)
