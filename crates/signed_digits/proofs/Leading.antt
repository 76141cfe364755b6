-- The leading digits of the canonical string of n, by the size of 3 n: which digit is on top, and whether they are 1 0 -1. Assumes nothing.
use mathlib.Core.Path.{◌≡◌, refl, ◌∙◌}
use mathlib.Core.Logic.{◌↔◌, ◌≢◌}
use mathlib.Core.Bool.{Bool, true, false, and-eq-true_iff}
use mathlib.Core.List.{List}
use Prim.Native.Nat.{ℕ, zero, suc, ◌+◌, ◌*◌, ◌-◌, ◌<◌, ◌≤◌, ◌^◌, ◌%◌, ◌/◌}
use native.Mathlib.Decide.{dec_lt}
use native.Mathlib.Nat.{pow-suc, div-eq_of_lt-le}
use native.Mathlib.Numerals.{add-one}
use native.Mathlib.Omega.{arith}
use borrow.Author.Tests.{eqb-true}
use lib.Dec.{eqb}
use lib.IntN.{ℤ, pos, negsuc, neg_ℤ, nat_abs, ◌-ℤ◌, pos-ne-negsuc}
use lib.ListN.{length}
use Rattle.signed_digits.specs.Strings.{digit_at}
use Rattle.signed_digits.specs.Naf.{residue, low_digit, rest, digits_of, naf, canonical}
use Rattle.signed_digits.specs.Modified.{top_digit, is_digit, leads}
use Rattle.signed_digits.proofs.Parts.{from_parts, size_parts, sum_parts, opposite_parts}
use Rattle.signed_digits.proofs.Left.{some_digits}
use Rattle.signed_digits.proofs.Length.{length_at_most}
use Rattle.signed_digits.proofs.Triple.{digit_at_lem}

-- ---- the test, as equations between digits

is_digit_lem : (d a : ℤ) → is_digit d a ≡ true → a ≡ d
is_digit_lem d a e = omega (arith, from_parts, eqb-true (nat_abs (a -ℤ d)) 0 e, size_parts (a -ℤ d), sum_parts a (neg_ℤ d), opposite_parts d)

pub leads_is : (ds : List ℤ) →
    (leads ds ≡ true) ↔ ((digit_at ds (length ds - 1) ≡ pos 1) × (digit_at ds (length ds - 2) ≡ pos 0) × (digit_at ds (length ds - 3) ≡ negsuc 0))
unfolding leads
leads_is ds = (
  λ e. let (r, c) = (and-eq-true_iff _ _).0 e in let (a, b) = (and-eq-true_iff _ _).0 r in (is_digit_lem _ _ a, is_digit_lem _ _ b, is_digit_lem _ _ c),
  λ (a, b, c). rw (a, b, c),
)

leads_not : (ds : List ℤ) → digit_at ds (length ds - 3) ≢ negsuc 0 → leads ds ≡ false
leads_not ds other = go (leads ds) refl
  where
    go : (b : Bool) → leads ds ≡ b → b ≡ false
    go true e = absurd (other ((leads_is ds).0 e).2)
    go false e = refl

-- ---- the canonical string

-- a length above zero, by the number
pub length_is : (n k : ℕ) → (length (canonical (pos n)) ≡ suc k) ↔ ((2 * 2 ^ k ≤ 3 * n) × (3 * n < 4 * 2 ^ k))
length_is n k =
    let least = length_at_most n k in
    let most = length_at_most n (suc k) in
    let p : 2 ^ (k + 1) ≡ 2 * 2 ^ k = rw (add-one, pow-suc) (omega arith) in
    let q : 2 ^ (suc k + 1) ≡ 4 * 2 ^ k = rw (add-one, pow-suc, pow-suc) (omega arith) in (
      λ e. let low : 3 * n < 2 ^ (k + 1) → ⊥ = λ h. omega (arith, least.1 h) in omega (arith, most.0 (omega arith)),
      λ h. let more : length (canonical (pos n)) ≤ k → ⊥ = λ l. omega (arith, least.0 l) in omega (arith, most.1 (omega arith)),
    )

-- the digit at place i, where 3 n and n are x and y times 2 ^ (i + 1), rounded down
digit_of : (n i x y : ℕ) → x * 2 ^ suc i ≤ 3 * n → 3 * n < (x + 1) * 2 ^ suc i → y * 2 ^ suc i ≤ n → n < (y + 1) * 2 ^ suc i
    → digit_at (canonical (pos n)) i ≡ pos (x % 2) -ℤ pos (y % 2)
digit_of n i x y a b c d = digit_at_lem n i ∙ rw (add-one, div-eq_of_lt-le (2 ^ suc i) a b, div-eq_of_lt-le (2 ^ suc i) c d)

pub canonical_top : (n : ℕ) → 0 < n → top_digit (canonical (pos n)) ≡ pos 1
canonical_top n h =
    let k : ℕ = length (canonical (pos n)) - 1 in
    let b = (length_is n k).0 (omega (arith, some_digits 2 (omega arith) n h)) in
    let p = pow-suc 2 k in
    digit_of n k 1 0 (omega arith) (omega arith) (omega arith) (omega arith)

-- a string of i + 3 digits, so that 3 n is from 4 to 8 times 2 ^ (i + 1)
module _ (n i : ℕ) (size : length (canonical (pos n)) ≡ suc (suc (suc i))) where
  low_leads : 3 * n < 5 * 2 ^ suc i → leads (canonical (pos n)) ≡ true
  low_leads h =
      let b = (length_is n (suc (suc i))).0 size in
      let p = pow-suc 2 (suc i) in
      let q = pow-suc 2 (suc (suc i)) in
      let k₁ : length (canonical (pos n)) - 1 ≡ suc (suc i) = omega arith in
      let k₂ : length (canonical (pos n)) - 2 ≡ suc i = omega arith in
      let k₃ : length (canonical (pos n)) - 3 ≡ i = omega arith in
      (leads_is (canonical (pos n))).1 (
        rw k₁ (digit_of n (suc (suc i)) 1 0 (omega arith) (omega arith) (omega arith) (omega arith)),
        rw k₂ (digit_of n (suc i) 2 0 (omega arith) (omega arith) (omega arith) (omega arith)),
        rw k₃ (digit_of n i 4 1 (omega arith) (omega arith) (omega arith) (omega arith)),
      )

  -- the top three bits of 3 n
  top_bits : (x : ℕ) → x * 2 ^ suc i ≤ 3 * n → 3 * n < (x + 1) * 2 ^ suc i → 8 * (3 * n) / 2 ^ (length (canonical (pos n)) + 1) ≡ x
  top_bits x a b =
      let p : 2 ^ (length (canonical (pos n)) + 1) ≡ 8 * 2 ^ suc i = rw (size, add-one, pow-suc 2 (suc (suc (suc i))), pow-suc 2 (suc (suc i)), pow-suc 2 (suc i)) (omega arith) in
      rw p (div-eq_of_lt-le (8 * 2 ^ suc i) (omega arith) (omega arith))

  -- where they are not 100, the third digit is 0 or 1
  high_leads : (x y : ℕ) → (pos (x % 2) -ℤ pos (y % 2)) ≢ negsuc 0 → x * 2 ^ suc i ≤ 3 * n → 3 * n < (x + 1) * 2 ^ suc i → y * 2 ^ suc i ≤ n → n < (y + 1) * 2 ^ suc i
      → leads (canonical (pos n)) ≡ false
  high_leads x y other a b c d =
      let k : length (canonical (pos n)) - 3 ≡ i = omega arith in
      leads_not (canonical (pos n)) (rw (k, digit_of n i x y a b c d) other)

  leads_by : leads (canonical (pos n)) ≡ eqb (8 * (3 * n) / 2 ^ (length (canonical (pos n)) + 1)) 4
  leads_by = go (dec_lt (3 * n) (5 * p)) (dec_lt (3 * n) (6 * p)) (dec_lt (3 * n) (7 * p))
    where
      p : ℕ
      p = 2 ^ suc i

      b : (4 * p ≤ 3 * n) × (3 * n < 8 * p)
      b = omega (arith, (length_is n (suc (suc i))).0 size, pow-suc 2 (suc i))

      go : Dec (3 * n < 5 * p) → Dec (3 * n < 6 * p) → Dec (3 * n < 7 * p) → leads (canonical (pos n)) ≡ eqb (8 * (3 * n) / 2 ^ (length (canonical (pos n)) + 1)) 4
      go (yes h) _ _ = rw (low_leads h, top_bits 4 (omega (arith, b)) (omega arith))
      go (no l) (yes h) _ = rw (high_leads 5 1 (pos-ne-negsuc 0 0) (omega arith) (omega arith) (omega arith) (omega arith), top_bits 5 (omega arith) (omega arith))
      go (no _) (no l) (yes h) = rw (high_leads 6 2 (pos-ne-negsuc 0 0) (omega arith) (omega arith) (omega arith) (omega arith), top_bits 6 (omega arith) (omega arith))
      go (no _) (no _) (no l) = rw (high_leads 7 2 (pos-ne-negsuc 1 0) (omega arith) (omega (arith, b)) (omega arith) (omega (arith, b)), top_bits 7 (omega arith) (omega (arith, b)))

-- with fewer digits, those of 0, 1 and 2, there are no three to test
leads_few : (n : ℕ) → n < 3 → leads (canonical (pos n)) ≡ eqb (8 * (3 * n) / 2 ^ (length (canonical (pos n)) + 1)) 4
unfolding leads naf digits_of rest low_digit residue
leads_few zero h = refl
leads_few (suc zero) h = refl
leads_few (suc (suc zero)) h = refl
leads_few (suc (suc (suc n))) h = absurd (omega arith)

-- The leading digits are 1 0 -1 just where the top three bits of 3 n are 100: it has one bit more than the string has digits. (Of 0, which has none, neither is so.)
pub leads_top : (n : ℕ) → leads (canonical (pos n)) ≡ eqb (8 * (3 * n) / 2 ^ (length (canonical (pos n)) + 1)) 4
leads_top n =
    elim (dec_lt n 3) [
      | yes h ↦ leads_few n h
      | no h ↦
          let more : length (canonical (pos n)) ≤ 2 → ⊥ = λ l. omega (arith, (length_at_most n 2).0 l) in
          leads_by n (length (canonical (pos n)) - 3) (omega arith)
    ]
