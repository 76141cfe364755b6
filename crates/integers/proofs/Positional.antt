-- Laws of positional numbers, over the base. Assumes nothing.
use mathlib.Core.Path.{◌≡◌, refl, sym, ap, ◌∙◌}
use mathlib.Core.List.{List, [], ◌∷◌, ◌++◌}
use Prim.Native.Nat.{ℕ, zero, suc, ◌+◌, ◌-◌, ◌*◌, ◌/◌, ◌%◌, ◌^◌, ◌<◌, ◌≤◌, zero-le}
use native.Mathlib.Nat.{pow-zero, pow-suc, pow-succ', mul-add, mul_assoc, mul_comm, mul-zero, mul-pos, zero-add, add-zero, lt_of_le_of_lt, add-mul-div_left, div-eq_of_lt, div-one, add-mul-mod_self_left, mod-eq_of_lt}
use native.Mathlib.Omega.{arith}
use lib.Arith.{digits_lt}
use lib.ListN.{length, get_or, take, drop, length-take, length-drop, replicate, length-replicate, get_or-replicate}
use lib.Seq.{get_or-drop, take-append_seam, drop-append_seam, drop-length, take-nil}
use Rattle.integers.specs.Positional.{positional, bytes_value, Unpadded, Significant}

-- every element is below the base
abbrev pub Below : ℕ → List ℕ → Type 0
Below base l = (i : ℕ) → get_or l i 0 < base

pub below_take : (base n : ℕ) (l : List ℕ) → 0 < base → Below base l → Below base (take n l)
below_take base zero l p b i = p
below_take base (suc n) [] p b i = p
below_take base (suc n) (x ∷ l) p b zero = b 0
below_take base (suc n) (x ∷ l) p b (suc i) = below_take base n l p (λ k. b (suc k)) i

pub below_drop : (base n : ℕ) (l : List ℕ) → 0 < base → Below base l → Below base (drop n l)
below_drop base zero l p b i = b i
below_drop base (suc n) [] p b i = p
below_drop base (suc n) (x ∷ l) p b i = below_drop base n l p (λ k. b (suc k)) i

-- the lowest element, and the rest; also past the end, where both are 0
pub positional_drop : (base : ℕ) (l : List ℕ) (i : ℕ) → positional base (drop i l) ≡ get_or l i 0 + base * positional base (drop (suc i) l)
unfolding positional
positional_drop base [] zero = omega (arith, mul-zero base)
positional_drop base [] (suc i) = omega (arith, mul-zero base)
positional_drop base (x ∷ l) zero = refl
positional_drop base (x ∷ l) (suc i) = positional_drop base l i

-- the first n elements, and those above them
pub positional_split : (base n : ℕ) (l : List ℕ) → positional base l ≡ positional base (take n l) + base ^ n * positional base (drop n l)
unfolding positional
positional_split base zero l = rw pow-zero (omega arith)
positional_split base (suc n) [] = omega (arith, mul-zero (base ^ suc n))
positional_split base (suc n) (x ∷ l) =
    let p : ℕ = positional base (take n l) in
    let q : ℕ = positional base (drop n l) in
    let e : base * (p + base ^ n * q) ≡ base * p + base ^ suc n * q = rw (mul-add, pow-succ', mul_assoc) in
    omega (arith, e, ap (λ (y : ℕ). base * y) (positional_split base n l))

-- one element more above the first k; also past the end, where it is 0
pub positional_take : (base k : ℕ) (l : List ℕ) → positional base (take (suc k) l) ≡ positional base (take k l) + base ^ k * get_or l k 0
unfolding positional
positional_take base k [] = rw (take-nil, mul-zero)
positional_take base zero (x ∷ l) = rw (pow-zero, mul-zero) (omega arith)
positional_take base (suc k) (x ∷ l) =
    let p : ℕ = positional base (take k l) in
    let g : ℕ = get_or l k 0 in
    let e : base * (p + base ^ k * g) ≡ base * p + base ^ suc k * g = rw (mul-add, pow-succ', mul_assoc) in
    omega (arith, e, ap (λ (y : ℕ). base * y) (positional_take base k l))

-- this many elements hold no more
pub positional_lt : (base k : ℕ) (l : List ℕ) → length l ≤ k → Below base l → positional base l < base ^ k
unfolding positional
positional_lt base zero [] h b = rw pow-zero (omega arith)
positional_lt base zero (x ∷ l) h b = absurd (omega arith)
positional_lt base (suc k) [] h b = rw pow-suc (mul-pos (positional_lt base k [] (omega arith) b) (b 0))
positional_lt base (suc k) (x ∷ l) h b =
    let d : positional base l * base + x < base ^ k * base = digits_lt (positional_lt base k l (omega arith) (λ i. b (suc i))) (b 0) in
    rw (pow-suc, mul_comm base (positional base l)) (omega arith)

-- one string above another
pub positional_append : (base : ℕ) (l m : List ℕ) → positional base (l ++ m) ≡ positional base l + base ^ length l * positional base m
positional_append base l m =
    rw (positional_split base (length l) (l ++ m), take-append_seam l m, drop-append_seam l m)

-- the elements from k on are the quotient by the base to the power of k
pub positional_div : (base : ℕ) (l : List ℕ) (k : ℕ) → Below base l → positional base (drop k l) ≡ positional base l / base ^ k
positional_div base l k b =
    let p : 0 < base = lt_of_le_of_lt (zero-le) (b 0) in
    let low : positional base (take k l) < base ^ k = positional_lt base k (take k l) (omega (arith, length-take k l)) (below_take base k l p b) in
    sym (rw (positional_split base k l, add-mul-div_left (positional base (take k l)) (positional base (drop k l)) (lt_of_le_of_lt zero-le low), div-eq_of_lt low, zero-add))

-- the element at k is a remainder of that
pub positional_at : (base : ℕ) (l : List ℕ) (k : ℕ) → Below base l → get_or l k 0 ≡ positional base l / base ^ k % base
positional_at base l k b =
    sym (rw (← positional_div base l k b, positional_drop base l k, add-mul-mod_self_left, mod-eq_of_lt (b k)))

-- a number below the base is its lowest element
pub positional_low : (base : ℕ) (l : List ℕ) → Below base l → positional base l < base → get_or l 0 0 ≡ positional base l
positional_low base l b h = positional_at base l 0 b ∙ rw (pow-zero, div-one, mod-eq_of_lt h)

-- zero is all zeros
positional_zero : (base : ℕ) (l : List ℕ) → ((i : ℕ) → i < length l → get_or l i 0 ≡ 0) → positional base l ≡ 0
unfolding positional
positional_zero base [] h = refl
positional_zero base (x ∷ l) h = rw (h 0 (omega arith), positional_zero base l (λ i p. h (suc i) (omega arith)), mul-zero) refl

-- the bytes from n on are zero
pub zero_above : (l : List ℕ) (n : ℕ) → ((k : ℕ) → n ≤ k → k < length l → get_or l k 0 ≡ 0) → bytes_value (drop n l) ≡ 0
zero_above l n zeros =
    positional_zero 256 (drop n l) (λ i h. get_or-drop n l i 0 ∙ zeros (n + i) (omega arith) (omega (arith, length-drop n l)))

pub positional_nonzero : (base : ℕ) (l : List ℕ) (i : ℕ) → 0 < base → (get_or l i 0 ≡ 0 → ⊥) → positional base l ≡ 0 → ⊥
unfolding positional
positional_nonzero base [] i p h z = h refl
positional_nonzero base (x ∷ l) zero p h z = h (omega arith)
positional_nonzero base (x ∷ l) (suc i) p h z = positional_nonzero base l i p h (go (positional base l) (omega arith))
  where
    go : (v : ℕ) → base * v ≡ 0 → v ≡ 0
    go zero e = refl
    go (suc v) e = absurd (omega (arith, mul-pos {m = base} {n = suc v} p (omega arith)))

-- high zeros change nothing
pub positional_zeros : (base n : ℕ) (l : List ℕ) → positional base (l ++ replicate n 0) ≡ positional base l
positional_zeros base n l =
    let z : positional base (replicate n 0) ≡ 0 = positional_zero base (replicate n 0) (λ i h. get_or-replicate n i 0 0 (omega (arith, length-replicate {A = ℕ} n 0))) in
    rw (positional_append base l (replicate n 0), z, mul-zero, add-zero)

-- ---- significant bytes

-- a number without bytes is zero
pub zero_if_empty : (l : List ℕ) → length l ≡ 0 → bytes_value l ≡ 0
unfolding positional
zero_if_empty [] h = refl
zero_if_empty (x ∷ l) h = absurd (omega arith)

-- all are significant where the highest is not zero
pub all_significant : (l : List ℕ) → Unpadded l → Significant l (length l)
unfolding positional
all_significant l top = record { within = omega arith; whole = rw (drop-length l); top = top }

pub significant_some : (l : List ℕ) (n : ℕ) → Significant l n → (n ≡ 0 → ⊥) → bytes_value l ≡ 0 → ⊥
significant_some l n s some = positional_nonzero 256 l (n - 1) (omega arith) (s.top (omega arith))
