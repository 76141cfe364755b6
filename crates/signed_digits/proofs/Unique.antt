-- A string of the form is known by its value, so `naf` makes the only one.
use mathlib.Core.Path.{◌≡◌, refl, sym, ◌∙◌, ap}
use mathlib.Core.List.{List, [], ◌∷◌}
use Prim.Native.Nat.{ℕ, zero, suc, ◌+◌, ◌*◌, ◌-◌, ◌<◌, ◌≤◌, ◌^◌, ◌/◌}
use native.Mathlib.Omega.{arith}
use native.Mathlib.Numerals.{sub-one}
use native.Mathlib.Nat.{pow-suc}
use lib.Arith.{digits_div}
use lib.ListN.{length}
use lib.IntN.{ℤ}
use Rattle.signed_digits.specs.Strings.{value}
use Rattle.signed_digits.specs.Form.{OddDigit, NonAdjacent}
use Rattle.signed_digits.specs.Naf.{naf}
use Rattle.signed_digits.proofs.Parts.{Multiple, positive_part, negative_part, from_parts, zero_parts, size_parts, positive_sum, negative_sum, SameSums, same_sums}
use Rattle.signed_digits.proofs.Spaced.{Spaced, empty, blank, digit, spaced_of_form}
use Rattle.signed_digits.proofs.Exists.{naf_value, naf_form}

-- only the empty string is worth 0
value_zero : {w g : ℕ} {ds : List ℤ} → Spaced w g ds → SameSums ds [] → ds ≡ []
unfolding positive_sum negative_sum
value_zero empty h = refl
value_zero (blank e l s) h = absurd (omega (arith, ap length (value_zero s (omega (arith, zero_parts)))))
value_zero (digit {d = d} e o s) h = absurd (omega (arith, size_parts d))

-- after g zeros both sums are multiples of 2 ^ g
multiples : (w g : ℕ) (ds : List ℤ) → Spaced w g ds → Multiple g (positive_sum ds) × Multiple g (negative_sum ds)
unfolding positive_sum negative_sum
multiples w zero ds s = ((positive_sum ds, omega arith), (negative_sum ds, omega arith))
multiples w (suc g) [] empty = ((0, omega arith), (0, omega arith))
multiples w (suc g) (d ∷ ds) (blank e l s) =
    let ((p, e₁), (n, e₂)) = multiples w g ds (simp sub-one at s) in
    ((p, rw pow-suc (omega (arith, zero_parts))), (n, rw pow-suc (omega (arith, zero_parts))))
multiples w (suc g) (d ∷ ds) (digit e o s) = absurd (omega arith)

same_quotient : (c l r u v : ℕ) → u < c → v < c → l * c + u ≡ r * c + v → l ≡ r
same_quotient c l r u v hu hv e = sym (digits_div l hu) ∙ ap (λ (x : ℕ). x / c) e ∙ digits_div r hv

-- two odd digits agree, as does what follows them: modulo 2 ^ w only the digits count, and they are small
same_digit : (w : ℕ) (a b : ℤ) (xs ys : List ℤ) → OddDigit w a → OddDigit w b → Spaced w (w - 1) xs → Spaced w (w - 1) ys → SameSums (a ∷ xs) (b ∷ ys) →
    (a ≡ b) × SameSums xs ys
unfolding positive_sum negative_sum
same_digit w a b xs ys oa ob sa sb h =
    let half : ℕ = 2 ^ (w - 1) in
    let ((p, e₁), (n, e₂)) = multiples w (w - 1) xs sa in
    let ((q, e₃), (m, e₄)) = multiples w (w - 1) ys sb in
    let u : ℕ = positive_part a + negative_part b in
    let v : ℕ = positive_part b + negative_part a in
    let l₁ : u < 2 * half = omega (arith, size_parts a, size_parts b) in
    let l₂ : v < 2 * half = omega (arith, size_parts a, size_parts b) in
    let e : p + m ≡ q + n = same_quotient (2 * half) (p + m) (q + n) u v l₁ l₂ (omega arith) in
    let same : SameSums xs ys = omega (arith, ap (λ (x : ℕ). half * x) e) in
    (omega (arith, from_parts), same)

same_string : {w g : ℕ} {xs ys : List ℤ} → Spaced w g xs → Spaced w g ys → SameSums xs ys → xs ≡ ys
unfolding positive_sum negative_sum
same_string empty empty h = refl
same_string empty (blank e l s) h = sym (value_zero (blank e l s) (omega arith))
same_string empty (digit e o s) h = sym (value_zero (digit e o s) (omega arith))
same_string (blank e l s) empty h = value_zero (blank e l s) h
same_string (digit e o s) empty h = value_zero (digit e o s) h
same_string (blank e l s) (blank e' l' s') h = cc (same_string s s' (omega (arith, zero_parts)))
same_string (blank e l s) (digit {d = b} e' o s') h = absurd (omega (arith, zero_parts, size_parts b))
same_string (digit {d = a} e o s) (blank e' l s') h = absurd (omega (arith, zero_parts, size_parts a))
same_string {w} (digit {d = a} {ds = xs} e o s) (digit {d = b} {ds = ys} e' o' s') h =
    let r = same_digit w a b xs ys o o' s s' h in
    cc (same_string s s' r.1, r.0)

pub unique : (w : ℕ) (xs ys : List ℤ) → NonAdjacent w xs → NonAdjacent w ys → value xs ≡ value ys → xs ≡ ys
unique w xs ys fx fy e = same_string (spaced_of_form w xs fx) (spaced_of_form w ys fy) (same_sums xs ys e)

pub naf_only : (w : ℕ) (ds : List ℤ) → 2 ≤ w → NonAdjacent w ds → ds ≡ naf w (value ds)
naf_only w ds h form = unique w ds (naf w (value ds)) form (naf_form w (value ds) h) (sym (naf_value w (value ds) h))
