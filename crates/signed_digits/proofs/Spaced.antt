-- The non-adjacent form by recursion over the string, which is what induction wants, and that it is the form by places.
use mathlib.Core.Path.{◌≡◌, refl, ap}
use mathlib.Core.Logic.{◌≢◌}
use mathlib.Core.List.{List, [], ◌∷◌}
use Prim.Native.Nat.{ℕ, zero, suc, ◌+◌, ◌-◌, ◌<◌, ◌≤◌}
use native.Mathlib.Omega.{arith}
use lib.ListN.{length}
use lib.IntN.{ℤ, pos, nat_abs, ℤ_discrete}
use Rattle.lists.proofs.Top.{top_cons}
use Rattle.signed_digits.specs.Strings.{digit_at}
use Rattle.signed_digits.specs.Form.{OddDigit, TopNonzero, NonAdjacent}

-- A string of the form of which the first g places must be 0: it is empty, or a 0 and more digits, or, where no 0 is due, an odd digit, after which w - 1 are due.
pub data Spaced (w : ℕ) : ℕ → List ℤ → Type 0 where
  empty : {g : ℕ} → Spaced w g []
  blank : {g : ℕ} {d : ℤ} {ds : List ℤ} → d ≡ pos 0 → 0 < length ds → Spaced w (g - 1) ds → Spaced w g (d ∷ ds)
  digit : {g : ℕ} {d : ℤ} {ds : List ℤ} → g ≡ 0 → OddDigit w d → Spaced w (w - 1) ds → Spaced w g (d ∷ ds)

-- ---- from the places
tail_form : (w : ℕ) (d : ℤ) (ds : List ℤ) → NonAdjacent w (d ∷ ds) → NonAdjacent w ds
tail_form w d ds form =
    record {
      digit = λ i. form.digit (suc i);
      apart = λ i j l h k. omega (arith, form.apart (suc i) (suc j) (omega arith) h k);
      top = ((top_cons (pos 0) d ds).0 form.top).1;
    }

-- the first g places are 0
abbrev Clear : ℕ → List ℤ → Type 0
Clear g ds = (i : ℕ) → digit_at ds i ≢ pos 0 → g ≤ i

from_places : (w g : ℕ) (ds : List ℤ) → NonAdjacent w ds → Clear g ds → Spaced w g ds
from_places w g [] form clear = empty
from_places w g (d ∷ ds) form clear = go (ℤ_discrete d (pos 0)) (λ g. from_places w g ds (tail_form w d ds form))
  where
    go : Dec (d ≡ pos 0) → ((g : ℕ) → Clear g ds → Spaced w g ds) → Spaced w g (d ∷ ds)
    go (yes e) tail = blank e (((top_cons (pos 0) d ds).0 form.top).0 e) (tail (g - 1) (λ i h. omega (arith, clear (suc i) h)))
    go (no n) tail =
        digit {g = g} (omega (arith, clear 0 n)) (form.digit 0 n) (tail (w - 1) (λ i h. omega (arith, form.apart 0 (suc i) (omega arith) n h)))

pub spaced_of_form : (w : ℕ) (ds : List ℤ) → NonAdjacent w ds → Spaced w 0 ds
spaced_of_form w ds form = from_places w 0 ds form (λ i h. omega arith)

-- ---- and back
-- a nonzero digit stands above the zeros that are due, and is odd
digit_place : {w g : ℕ} {ds : List ℤ} → Spaced w g ds → (i : ℕ) → digit_at ds i ≢ pos 0 → (g ≤ i) × OddDigit w (digit_at ds i)
digit_place empty i h = absurd (h refl)
digit_place (blank e l s) zero h = absurd (h e)
digit_place (blank e l s) (suc i) h = let r = digit_place s i h in (omega arith, r.1)
digit_place (digit e o s) zero h = (omega arith, o)
digit_place (digit e o s) (suc i) h = (omega arith, (digit_place s i h).1)

places_apart : {w g : ℕ} {ds : List ℤ} → Spaced w g ds → (i j : ℕ) → i < j → digit_at ds i ≢ pos 0 → digit_at ds j ≢ pos 0 → i + w ≤ j
places_apart empty i j l h k = absurd (h refl)
places_apart (blank e _ s) i zero l h k = absurd (omega arith)
places_apart (blank e _ s) zero (suc j) l h k = absurd (h e)
places_apart (blank e _ s) (suc i) (suc j) l h k = omega (arith, places_apart s i j (omega arith) h k)
places_apart (digit e o s) i zero l h k = absurd (omega arith)
places_apart (digit e o s) zero (suc j) l h k = omega (arith, (digit_place s j k).0)
places_apart (digit e o s) (suc i) (suc j) l h k = omega (arith, places_apart s i j (omega arith) h k)

top_nonzero : {w g : ℕ} {ds : List ℤ} → Spaced w g ds → TopNonzero ds
top_nonzero empty = λ l. absurd (omega arith)
top_nonzero (blank {d = d} {ds = ds} e l s) = (top_cons (pos 0) d ds).1 (λ _. l, top_nonzero s)
top_nonzero (digit {d = d} {ds = ds} e o s) = (top_cons (pos 0) d ds).1 (λ z. absurd (omega (arith, ap nat_abs z)), top_nonzero s)

pub form_of_spaced : (w : ℕ) (ds : List ℤ) → Spaced w 0 ds → NonAdjacent w ds
form_of_spaced w ds s = record { digit = λ i h. (digit_place s i h).1; apart = places_apart s; top = top_nonzero s }
