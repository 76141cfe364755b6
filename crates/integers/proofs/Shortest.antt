-- The bytes of a number with no high zero byte: they have its value, and no other bytes do. Assumes nothing.
use mathlib.Core.Path.{◌≡◌, refl, sym, ap, ◌∙◌}
use mathlib.Core.Logic.{◌≢◌}
use mathlib.Core.List.{List, [], ◌∷◌}
use Prim.Native.Nat.{ℕ, zero, suc, ◌+◌, ◌-◌, ◌*◌, ◌/◌, ◌%◌, ◌^◌, ◌<◌, ◌≤◌}
use native.Mathlib.Decide.{dec_lt}
use native.Mathlib.Nat.{mul-zero, add-zero, div-eq_of_lt}
use native.Mathlib.Omega.{arith}
use lib.ListN.{length, get_or, take, drop}
use lib.Seq.{length-take-le, get_or-take, get_or-drop}
use Rattle.lists.proofs.Top.{top_cons}
use Rattle.integers.specs.Positional.{positional, bytes_value, Unpadded, bytes_up_to, bytes_of, Significant}
use Rattle.integers.proofs.Positional.{Below, below_take, positional_div, positional_split, positional_nonzero}

-- n bytes are enough for n, and more change nothing
enough : (f g n : ℕ) → n ≤ f → n ≤ g → bytes_up_to f n ≡ bytes_up_to g n
unfolding bytes_up_to
enough zero zero n p q = refl
enough zero (suc g) zero p q = refl
enough zero (suc g) (suc n) p q = absurd (omega arith)
enough (suc f) zero zero p q = refl
enough (suc f) zero (suc n) p q = absurd (omega arith)
enough (suc f) (suc g) zero p q = refl
enough (suc f) (suc g) (suc n) p q =
    ap (λ (l : List ℕ). suc n % 256 ∷ l) (enough f g (suc n / 256) (omega arith) (omega arith))

-- the lowest byte, and the others
bytes_step : (n : ℕ) → 0 < n → bytes_of n ≡ n % 256 ∷ bytes_of (n / 256)
unfolding bytes_of bytes_up_to
bytes_step zero h = absurd (omega arith)
bytes_step (suc n) h =
    ap (λ (l : List ℕ). suc n % 256 ∷ l) (enough n (suc n / 256) (suc n / 256) (omega arith) (omega arith))

pub bytes_zero : bytes_of 0 ≡ []
unfolding bytes_of bytes_up_to
bytes_zero = refl

-- proof by the bytes: what holds of 0, and of n where it holds of n without its lowest byte, holds of all
by_bytes : (P : ℕ → Type 0) → P 0 → ((n : ℕ) → 0 < n → P (n / 256) → P n) → (n : ℕ) → P n
by_bytes P none more n = go n n (omega arith)
  where
    go : (f n : ℕ) → n ≤ f → P n
    go zero zero h = none
    go zero (suc n) h = absurd (omega arith)
    go (suc f) zero h = none
    go (suc f) (suc n) h = more (suc n) (omega arith) (go f (suc n / 256) (omega arith))

pub bytes_value_lem : (n : ℕ) → bytes_value (bytes_of n) ≡ n
unfolding positional
bytes_value_lem = by_bytes (λ n. bytes_value (bytes_of n) ≡ n) (rw bytes_zero) (λ n h e. rw (bytes_step n h, e) (omega arith))

pub bytes_below : (n : ℕ) → Below 256 (bytes_of n)
bytes_below = by_bytes (λ n. Below 256 (bytes_of n)) (λ i. rw bytes_zero (omega arith)) (λ n h b. rw (bytes_step n h) (cons n b))
  where
    cons : (n : ℕ) → Below 256 (bytes_of (n / 256)) → Below 256 (n % 256 ∷ bytes_of (n / 256))
    cons n b zero = omega arith
    cons n b (suc i) = b i

pub bytes_top : (n : ℕ) → Unpadded (bytes_of n)
unfolding positional
bytes_top =
    by_bytes (λ n. Unpadded (bytes_of n)) (rw bytes_zero (λ h. absurd (omega arith)))
    (λ n h t. rw (bytes_step n h) ((top_cons 0 (n % 256) (bytes_of (n / 256))).1 (λ z. above n h z (bytes_of (n / 256)) (bytes_value_lem (n / 256)), t)))
  where
    above : (n : ℕ) → 0 < n → n % 256 ≡ 0 → (l : List ℕ) → bytes_value l ≡ n / 256 → 0 < length l
    above n h z [] v = absurd (omega arith)
    above n h z (x ∷ l) v = omega arith

-- bytes whose highest is not 0 are the bytes of their value
pub bytes_only : (l : List ℕ) → Below 256 l → Unpadded l → l ≡ bytes_of (bytes_value l)
unfolding positional
bytes_only [] b t = sym bytes_zero
bytes_only (x ∷ l) b t =
    let rest = bytes_only l (λ i. b (suc i)) ((top_cons 0 x l).0 t).1 in
    let some : bytes_value (x ∷ l) ≢ 0 = positional_nonzero 256 (x ∷ l) (length (x ∷ l) - 1) (omega arith) (t (omega arith)) in
    let low : (x + 256 * bytes_value l) % 256 ≡ x = omega (arith, b 0) in
    let high : (x + 256 * bytes_value l) / 256 ≡ bytes_value l = omega (arith, b 0) in
    sym (rw (bytes_step (x + 256 * bytes_value l) (omega arith), low, high, ← rest))

-- so the significant bytes of a number are those of its value
pub bytes_significant : (l : List ℕ) (n : ℕ) → Below 256 l → Significant l n → take n l ≡ bytes_of (bytes_value l)
bytes_significant l n b s =
    let long : length (take n l) ≡ n = length-take-le n l s.within in
    let whole : bytes_value (take n l) ≡ bytes_value l = sym (rw (positional_split 256 n l, s.whole, mul-zero, add-zero)) in
    let top : Unpadded (take n l) = rw long (λ h z. s.top h (sym (get_or-take n l (n - 1) 0 (omega arith)) ∙ z)) in
    bytes_only (take n l) (below_take 256 n l (omega arith) b) top ∙ ap bytes_of whole

-- a number that m bytes hold has no more bytes than that
pub bytes_fit : (v m : ℕ) → v < 256 ^ m → length (bytes_of v) ≤ m
bytes_fit v m h = go (dec_lt m (length (bytes_of v)))
  where
    go : Dec (m < length (bytes_of v)) → length (bytes_of v) ≤ m
    go (no l) = omega arith
    go (yes longer) =
        let l : List ℕ = bytes_of v in
        let none : bytes_value (drop m l) ≡ 0 = positional_div 256 l m (bytes_below v) ∙ rw (bytes_value_lem v) (div-eq_of_lt h) in
        let last : m + (length l - 1 - m) ≡ length l - 1 = omega arith in
        let top : get_or (drop m l) (length l - 1 - m) 0 ≡ 0 → ⊥ = rw (get_or-drop, last) (bytes_top v (omega arith)) in
        absurd (positional_nonzero 256 (drop m l) (length l - 1 - m) (omega arith) top none)
